use Rattle.std.proofs.Common.{◌≡◌, ℕ, ◌++◌, ◌∷◌, [], List, ap, sym, ◌∙◌, refl, subst}
use mathlib.Core.List.{IsPrefix}
use Rattle.apcu_model.specs.declared.conf.Conf.{Conf}
use Rattle.apcu_model.specs.declared.request.Event.{Event}
use Rattle.apcu_model.specs.declared.request.Request.{Request}
use Rattle.apcu_model.specs.declared.request.Reply.{Reply}
use Rattle.apcu_model.specs.declared.request.Request.TheVariants as request
use Rattle.pin_table.specs.Values.{PassView}
use Rattle.pin_table.specs.Events.{event}
use Rattle.shared_cache.specs.Follows.{Follows}
use Rattle.shared_cache.proofs.laws.calls_in_turn.Goals as goal

rearranged : {A : Type 0} (l rest m : List A) (a b : A) → (((l ++ a ∷ []) ++ rest) ++ m) ++ b ∷ [] ≡ l ++ a ∷ (rest ++ m) ++ b ∷ []
rearranged [] rest m a b = refl
rearranged (x ∷ xs) rest m a b = ap (λ l. x ∷ l) (rearranged xs rest m a b)

in_turn : (conf : Conf) (workers : ℕ) (p p1 q1 q2 : PassView) (t u : ℕ) (r s : Request) (x y : Reply) → (a : Follows conf workers p p1 t r x) → IsPrefix p1.known.seen q1.known.seen → (b : Follows conf workers q1 q2 u s y)
    → (before between : List Event) × (q2.known.seen ≡ before ++ event p.known.worker t r a.mask ∷ between ++ event q1.known.worker u s b.mask ∷ [])
in_turn conf workers p p1 q1 q2 t u r s x y a seen b = (
  p.known.seen ++ a.between,
  seen.0 ++ b.between,
  b.seen ∙ (ap (λ (l : List Event). (l ++ b.between) ++ event q1.known.worker u s b.mask ∷ []) (sym seen.1 ∙ ap (λ (l : List Event). l ++ seen.0) a.seen)
      ∙ rearranged (p.known.seen ++ a.between) seen.0 b.between (event p.known.worker t r a.mask) (event q1.known.worker u s b.mask)),
)

pub returns : goal.returns
returns c = record {
  order = λ conf workers p p1 p2 q q1 q2 t u r s x y a m b. in_turn conf workers p p1 q1 q2 t u r s x y a (subst (IsPrefix p1.known.seen) (sym m.second.seen) m.first.before) b;
  ended = λ conf workers p e q q1 q2 u s y a l b. in_turn conf workers p e q1 q2 0 u request.Retire s _ y a l.other b;
}
