use Rattle.std.proofs.Common.{◌≡◌, ℕ, ◌<◌, true, List, [], ◌∷◌, length, Option, Some, ap, subst, ◌∙◌, arith, rules}
use Rattle.std.specs.Prelude.{◌==◌, ◌||◌, false, IfSome}
use Rattle.std.proofs.lemmas.Bool.Decides.{nat_tests}
use Rattle.pin_table.specs.Values.{PassView}
use Rattle.pin_table.specs.Lists.{known_list}
use Rattle.pin_table.specs.Views.{has_worker}
use Rattle.play_tests.proofs.beside.plays_both.Goals as goal

of_some : {A : Type 0} (P : A → Type 0) (r : Option A) (x : A) → r ≡ Some x → IfSome r P → P x
of_some {A} P r x is p = subst (λ (r : Option A). IfSome r P) is p

one_of_two : (x y w : ℕ) → x ≡ 0 → y ≡ 1 → w < 2 → (x == w || (y == w || false)) ≡ true
one_of_two x y w first second below = grind (arith, nat_tests, first, second, below)

both_among : (n : ℕ) (ended : List PassView) (a b : PassView) → n ≡ 2 → a.known.worker ≡ 0 → b.known.worker ≡ 1 → ended ≡ a ∷ b ∷ [] → (w : ℕ) → w < n → has_worker w (known_list ended) ≡ true
both_among n ended a b two first second is w below =
    ap (λ (l : List PassView). has_worker w (known_list l)) is ∙ one_of_two a.known.worker b.known.worker w first second (omega (arith, two, below))

pub close-requires-clause-every : goal.close-requires-clause-every
close-requires-clause-every g c =
    let a = of_some _ c.join-a.result.0 _ c.in_ok-first-2.was c.join-a.ensures.first in
    let b = of_some _ c.join-a.result.1 _ c.in_ok-second.was c.join-a.ensures.second in
    both_among _ _ c.retire.result c.retire-2.result (ap length c.requires.budgets ∙ c.requires.two) (c.retire.ensures.worker ∙ (a.1 ∙ ap (λ (b : PassView). b.known.worker) c.in_ok-first.ensures.first))
    (c.retire-2.ensures.worker ∙ (b.1 ∙ ap (λ (b : PassView). b.known.worker) c.in_ok-first.ensures.second)) (search rules)
