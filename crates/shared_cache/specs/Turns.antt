-- Calls that follow one another.
use Rattle.std.specs.Prelude.{◌≡◌, ℕ, List, [], ◌∷◌, ◌++◌}
use Rattle.apcu_model.specs.declared.conf.Conf.{Conf}
use Rattle.apcu_model.specs.declared.request.Event.{Event}
use Rattle.apcu_model.specs.declared.request.Request.{Request}
use Rattle.apcu_model.specs.declared.request.Reply.{Reply}
use Rattle.apcu_model.specs.declared.request.Request.TheVariants as request
use Rattle.apcu_model.specs.declared.request.Reply.TheVariants as reply
use Rattle.pin_table.specs.Values.{PassView}
use Rattle.pin_table.specs.Events.{event}
use Rattle.shared_cache.specs.Follows.{Follows}
use Rattle.shared_cache.specs.LearnedEnds.{Learns}
use Rattle.shared_cache.specs.Meeting.{Meets}

-- The first call returned the pass p1, the pass q met it, and then the second call began. In what
-- its pass has seen, and so in the history, its event comes after that of the first.
pub record CallsInTurn : Type 0 where
  pub order : (conf : Conf) (workers : ℕ) (p p1 p2 q q1 q2 : PassView) (t u : ℕ) (r s : Request)
      (x y : Reply) → (a : Follows conf workers p p1 t r x) → Meets conf workers p1 q p2 q1
      → (b : Follows conf workers q1 q2 u s y)
      → (before between : List Event)
      × (q2.known.seen ≡ before ++ event p.known.worker t r a.mask
      ∷ between ++ event q1.known.worker u s b.mask ∷ [])
  -- The same if the first call was its worker's end, of which the other one learned.
  pub ended : (conf : Conf) (workers : ℕ) (p e q q1 q2 : PassView) (u : ℕ) (s : Request)
      (y : Reply) → (a : Follows conf workers p e 0 request.Retire reply.Ended)
      → Learns conf workers q q1 e → (b : Follows conf workers q1 q2 u s y)
      → (before between : List Event)
      × (q2.known.seen ≡ before ++ event p.known.worker 0 request.Retire a.mask
      ∷ between ++ event q1.known.worker u s b.mask ∷ [])
