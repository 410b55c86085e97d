-- What is promised of a case that did not come.
use Rattle.std.proofs.Common.{Option, Some, None}
use Rattle.std.specs.Prelude.{IfSome}

pub unmet : {A P : Type 0} (Q : A → Type 0) (told : Option A) → ¬ P → IfSome told (λ x. P → Q x)
unmet Q None never = tt
unmet Q (Some x) never = λ is. absurd (never is)
