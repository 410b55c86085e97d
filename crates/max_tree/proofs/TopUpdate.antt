-- One number of a page is written: when its top is known without a look at the others.
use Rattle.std.proofs.Common.{◌≡◌, ◌≢◌, ℕ, ◌+◌, ◌-◌, ◌*◌, ◌/◌, ◌<◌, ◌≤◌, List, length, get_or, set, sym, ap, inl, inr, arith, get_or-set_same, get_or-set_other}
use Rattle.std.proofs.lemmas.Bool.{cases_lt, cases_eq}
use Rattle.max_tree.specs.Pages.{largest, page}
use Rattle.max_tree.specs.declared.row.TheConstants.{PAGE}
use Rattle.max_tree.proofs.Largest.{largest_bound, largest_least}
use Rattle.max_tree.proofs.PageLemmas.{page_at, page_length, own_page}

-- two rows differ only at p: a page's largest number is at most m in the one if it is in the other
-- and the number at p is
pub page_least : (xs ys : List ℕ) (k p m : ℕ) → ((i : ℕ) → i ≢ p → get_or ys i 0 ≡ get_or xs i 0) → largest (page xs k) ≤ m → get_or ys p 0 ≤ m → largest (page ys k) ≤ m
page_least xs ys k p m same before here = largest_least (page ys k) m each
  where
    each : (j : ℕ) → j < length (page ys k) → get_or (page ys k) j 0 ≤ m
    each j inside =
        let low : j < PAGE = omega (arith, page_length ys k) in
        elim (cases_eq (PAGE * k + j) p) [
          | inl is ↦
              let there : get_or ys (PAGE * k + j) 0 ≡ get_or ys p 0 = ap (λ (n : ℕ). get_or ys n 0) is in
              omega (arith, page_at ys k j low)
          | inr other ↦
              omega (arith, page_at ys k j low, page_at xs k j low, same (PAGE * k + j) other, largest_bound (page xs k) j)
        ]

-- a number that is not below the top is the top
pub top_new : (xs : List ℕ) (p old top value : ℕ) → value ≡ get_or xs p 0 → top ≡ largest (page (set xs p old) (p / PAGE)) → top ≤ value → value ≡ largest (page xs (p / PAGE))
top_new xs p old top value is before high =
    let same : (i : ℕ) → i ≢ p → get_or xs i 0 ≡ get_or (set xs p old) i 0 = λ i other. sym (get_or-set_other xs p i old 0 other) in
    omega (arith, own_page xs p, page_least (set xs p old) xs (p / PAGE) p value same (omega arith) (omega arith))

-- the top stays where neither the number of before nor the one of now reaches it
pub top_stays : (xs : List ℕ) (p old top : ℕ) → top ≡ largest (page (set xs p old) (p / PAGE)) → p < length xs → get_or xs p 0 < top → old < top → top ≡ largest (page xs (p / PAGE))
top_stays xs p old top before inside low less =
    let same : (i : ℕ) → i ≢ p → get_or xs i 0 ≡ get_or (set xs p old) i 0 = λ i other. sym (get_or-set_other xs p i old 0 other) in
    let least : largest (page xs (p / PAGE)) ≤ top = page_least (set xs p old) xs (p / PAGE) p top same (omega arith) (omega arith) in
    let was : get_or (set xs p old) p 0 ≡ old = get_or-set_same xs p old 0 inside in
    elim (cases_lt (largest (page xs (p / PAGE))) top) [
      | inr high ↦ omega arith
      | inl lower ↦ absurd (omega (arith, page_least xs (set xs p old) (p / PAGE) p (top - 1) (λ i other. get_or-set_other xs p i old 0 other) (omega arith) (omega arith)))
    ]
