-- Canonical decimals.
use Rattle.std.proofs.Common.{◌≡◌, ℕ, ◌+◌, ◌-◌, ◌*◌, ◌<◌, ◌≤◌, ◌^◌, List, [], ◌∷◌, length, get_or, drop, sym, ap, subst, ◌∙◌, arith}
use Rattle.std.proofs.lemmas.List.{drop_more}
use Rattle.php_graph.specs.Numbers.{digits_after}

-- digits behind a number make none that is smaller
pub digits_after-ge : (n : ℕ) (ds : List ℕ) → n ≤ digits_after n ds
digits_after-ge n [] = omega arith
digits_after-ge n (d ∷ ds) = omega (arith, digits_after-ge (10 * n + (d - 48)) ds)

-- and where one follows a number above 2^60, the number is above 2^63
pub digits_after_large : (n d : ℕ) (ds : List ℕ) → 2 ^ 60 < n → 2 ^ 63 < digits_after n (d ∷ ds)
digits_after_large n d ds large = omega (arith, digits_after-ge (10 * n + (d - 48)) ds)

pub large_so_far : (ds : List ℕ) (i n : ℕ) → i < length ds → 2 ^ 60 < n → digits_after n (drop i ds) ≡ digits_after 0 ds → 2 ^ 63 < digits_after 0 ds
large_so_far ds i n lt large so_far =
    let rest : drop i ds ≡ get_or ds i 0 ∷ drop (i + 1) ds = drop_more ds i 0 lt in
    let one : digits_after n (get_or ds i 0 ∷ drop (i + 1) ds) ≡ digits_after 0 ds = sym (ap (digits_after n) rest) ∙ so_far in
    subst (λ (v : ℕ). 2 ^ 63 < v) one (digits_after_large n (get_or ds i 0) (drop (i + 1) ds) large)
