-- One event of a worker.
use Rattle.std.specs.Prelude.{◌≡◌, ℕ, ◌+◌, true, List, [], ◌∷◌, ◌++◌}
use Rattle.php_graph.specs.declared.kind.Kind.{Kind}
use Rattle.apcu_model.specs.declared.conf.Conf.{Conf}
use Rattle.apcu_model.specs.declared.request.Event.{Event}
use Rattle.apcu_model.specs.declared.request.Request.{Request}
use Rattle.apcu_model.specs.declared.request.Request.TheVariants as request
use Rattle.apcu_model.specs.declared.request.Reply.{Reply}
use Rattle.apcu_model.specs.declared.request.Reply.TheVariants as reply
use Rattle.apcu_model.specs.Levels.{Generator}
use Rattle.apcu_model.specs.Generators.{entered}
use Rattle.apcu_model.specs.History.{Stage, start_of, stage_of, all_legal, held_places, reply_in}
use Rattle.counter_entry.specs.declared.answer.Fate.{Fate}
use Rattle.counter_entry.specs.Generating.{fate_of}
use Rattle.pin_table.specs.Values.{PassView}
use Rattle.pin_table.specs.Events.{event, events_of}

-- The pass q is p after one more event: at the moment t its worker made the request r, and y is the
-- reply of the single-threaded cache at that place of the history. What q has seen is what p had
-- seen, then what others did since, then this event; all of it is legal, and the worker's events in
-- it are its own.
pub record Follows (conf : Conf) (workers : ℕ) (p q : PassView) (t : ℕ) (r : Request) (y : Reply)
    : Type 0 where
  pub mask : ℕ
  pub between : List Event
  pub table : q.table ≡ p.table
  pub worker : q.known.worker ≡ p.known.worker
  pub left : q.known.left + 1 ≡ p.known.left
  pub own : q.known.own ≡ p.known.own ++ event p.known.worker t r mask ∷ []
  pub seen : q.known.seen
      ≡ (p.known.seen ++ between) ++ event p.known.worker t r mask ∷ []
  pub all_own : events_of q.known.worker q.known.seen ≡ q.known.own
  pub legal : all_legal workers (start_of conf) q.known.seen ≡ true
  pub reply : y
      ≡ reply_in (stage_of conf (p.known.seen ++ between)) (event p.known.worker t r mask)

-- The event of a generator: the pass q is p after it, and the value is the one that it returns. Its
-- fate is by the blocks that are held in the event, which the mask determines.
pub record FollowsEntry (conf : Conf) (workers : ℕ) (p q : PassView) (t : ℕ) (g : Generator)
    (value : List Kind) (fate : Fate) : Type 0 where
  pub follows : Follows conf workers p q t (request.Entry g) (reply.Gave value)
  pub fate_is : let before : Stage = stage_of conf (p.known.seen ++ follows.between) in
      fate ≡ fate_of (entered (held_places before follows.mask) g t before.cache).outermost
