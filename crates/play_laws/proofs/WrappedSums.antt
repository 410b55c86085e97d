-- Sums in 64 bits.
use Rattle.std.proofs.Common.{◌≡◌, List, [], ◌∷◌, ap, sym, ◌∙◌, subst, arith, w64}
use Rattle.std.specs.Prelude.{ℤ, pos, ◌+ℤ◌}
use Rattle.std.specs.List.{AllByRecursion}
use Rattle.std.specs.Int.{int_wrap}
use Rattle.std.specs.Int.RustNames.{FitsSigned}
use Rattle.std.proofs.lemmas.Int.{ints, wrapping_add_is, int_wrap_fits, int_wrap-add_left, SFits-int_wrap}
use Rattle.apcu_model.specs.Counters.{sum_of}
use Rattle.play_laws.specs.Counting.{counted_up, total_of}

-- steps one by one come to their sum
pub modulo : (n : ℤ) (steps : List ℤ) → FitsSigned w64 n → AllByRecursion (FitsSigned w64) steps → counted_up n steps ≡ int_wrap w64 (n +ℤ total_of steps)
modulo n [] fits all =
    let none : n +ℤ pos 0 ≡ n = omega (arith, ints) in
    sym (int_wrap_fits w64 n fits) ∙ ap (int_wrap w64) (sym none)
modulo n (step ∷ steps) fits all =
    let first : sum_of n step ≡ int_wrap w64 (n +ℤ step) = wrapping_add_is w64 n step fits all.0 in
    let later = modulo (sum_of n step) steps (subst (FitsSigned w64) (sym first) (SFits-int_wrap w64 (n +ℤ step))) all.1 in
    let joined : (n +ℤ step) +ℤ total_of steps ≡ n +ℤ (step +ℤ total_of steps) = omega (arith, ints) in
    later ∙ (ap (λ (z : ℤ). int_wrap w64 (z +ℤ total_of steps)) first ∙ (int_wrap-add_left w64 (n +ℤ step) (total_of steps) ∙ ap (int_wrap w64) joined))
