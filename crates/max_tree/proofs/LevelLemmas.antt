-- Rows of tops behind the numbers.
use Rattle.std.proofs.Common.{◌≡◌, ◌≢◌, ℕ, ◌+◌, ◌-◌, ◌*◌, ◌/◌, ◌<◌, ◌≤◌, List, length, get_or, set, take, drop, ◌++◌, replicate, Option, Some, None, MatchOption, refl, sym, ap, ◌∙◌, subst, arith}
use Rattle.std.specs.Prelude.{nat_le}
use Rattle.std.specs.List.{position}
use Rattle.std.proofs.lemmas.Bool.{le-leb, lt-leb}
use Rattle.std.proofs.lemmas.Grind.{same_number_lists}
use Rattle.std.proofs.lemmas.List.{length-replicate, length-set, get_or-take, set-set, set-get_or, replicate-append-replicate}
use Rattle.max_tree.specs.Pages.{largest, page, pages_of, IsPaged, AreLevels}
use Rattle.max_tree.specs.declared.row.TheConstants.{PAGE}
use Rattle.max_tree.proofs.Positions.{position_found, position_none, zero_at}
use Rattle.max_tree.proofs.PageLemmas.{zero_paged, set_paged}
use Rattle.max_tree.proofs.Rows.{AreStacked, rows_room, parts_of, rows_join}

pub level_rows : AreStacked IsPaged pages_of PAGE AreLevels
level_rows = record {
  last = λ count levels are. are;
  last_is = λ count levels is few. (is, few);
  more = λ above count levels are. are;
  more_is = λ above count levels row are. (row, are);
  room = λ numbers tops paged. let above = paged.tops_count in let many = paged.many in (many, paged.short, omega arith);
  zeros = zero_paged;
}

-- one page alone: its first number that is large enough
pub first_alone : (xs : List ℕ) (n : ℕ) (r : Option ℕ) → length xs ≤ PAGE
    → MatchOption r ((i : ℕ) → PAGE * 0 ≤ i → i < PAGE * 0 + PAGE → i < length xs → get_or xs i 0 < n) (λ at. (i : ℕ) → PAGE * 0 ≤ i → i < at → get_or xs i 0 < n)
    → MatchOption r (Unit {0}) (λ at. (PAGE * 0 ≤ at) × (at < PAGE * 0 + PAGE) × (at < length xs) × (n ≤ get_or xs at 0))
    → r ≡ position (λ value. nat_le n value) xs
first_alone xs n None few none there = sym (position_none (λ value. nat_le n value) xs (λ i inside. lt-leb n _ (none i (omega arith) (omega arith) inside)))
first_alone xs n (Some at) few none there = sym (position_found (λ value. nat_le n value) xs at there.2 (le-leb n _ there.3) (λ i before. lt-leb n _ (none i (omega arith) before)))

-- a list of zeros is known by its length
zeros_are : (xs : List ℕ) (n : ℕ) → length xs ≡ n → ((i : ℕ) → get_or xs i 0 ≡ 0) → xs ≡ replicate n 0
zeros_are xs n count none = same_number_lists xs (replicate n 0) (count ∙ sym (length-replicate n 0)) (λ i inside. none i ∙ sym (zero_at n i))

pub zeros_join : (numbers tops : List ℕ) (all front behind : ℕ) → length numbers ≡ front → ((i : ℕ) → get_or numbers i 0 ≡ 0) → tops ≡ replicate behind 0 → front + behind ≡ all → numbers ++ tops ≡ replicate all 0
zeros_join numbers tops all front behind count none are is =
    ap (λ (xs : List ℕ). xs ++ tops) (zeros_are numbers front count none) ∙ ap (λ (ys : List ℕ). replicate front 0 ++ ys) are ∙ replicate-append-replicate front behind 0 ∙ ap (λ (n : ℕ). replicate n 0) is

-- what the code sees of the rows behind the first one
module _ (above count : ℕ) (levels behind : List ℕ) (are : AreLevels above count levels) (some : above ≢ 0) (rest : behind ≡ drop count levels) where
  pub tops_room : pages_of count ≤ length behind
  tops_room =
      let parts = parts_of level_rows above count (pages_of count) levels (take count levels) behind are some refl refl rest in
      rows_room level_rows (above - 1) (pages_of count) behind parts.2

  module _ (numbers : List ℕ) (p value : ℕ) (front : numbers ≡ take count levels) (inside : p < count) where
    paged : (n : ℕ) → n ≡ pages_of count → (length numbers ≡ count) × IsPaged numbers (take n behind) × AreLevels (above - 1) n behind
    paged n is = parts_of level_rows above count n levels numbers behind are some is front rest

    top_at : (n : ℕ) → n ≡ pages_of count → get_or (take n behind) (p / PAGE) 0 ≡ get_or behind (p / PAGE) 0
    top_at n is = get_or-take n behind (p / PAGE) 0 (omega arith)

    pub top_before : (old : ℕ) → old ≡ get_or levels p 0 → get_or behind (p / PAGE) 0 ≡ largest (page (set (set numbers p value) p old) (p / PAGE))
    top_before old was =
        let here : get_or numbers p 0 ≡ old = ap (λ (xs : List ℕ). get_or xs p 0) front ∙ get_or-take count levels p 0 inside ∙ sym was in
        let again : set (set numbers p value) p old ≡ numbers = set-set numbers p value old ∙ ap (set numbers p) (sym here) ∙ set-get_or numbers p 0 in
        sym (top_at (pages_of count) refl) ∙ (paged (pages_of count) refl).1.tops_are (p / PAGE) ∙ ap (λ (xs : List ℕ). largest (page xs (p / PAGE))) (sym again)

    pub change_rises : (new n : ℕ) (rest' : List ℕ) → new ≡ largest (page (set numbers p value) (p / PAGE)) → n ≡ pages_of count → AreLevels (above - 1) n rest' → take n rest' ≡ set (take n behind) (p / PAGE) new → AreLevels above count (set numbers p value ++ rest')
    change_rises new n rest' top is are' row =
        let parts = paged n is in
        let written = set_paged numbers (take n behind) p value new parts.1 (omega (arith, parts.0)) top in
        rows_join level_rows above count n (set numbers p value) rest' some is (length-set numbers p value ∙ parts.0) (subst (λ (ts : List ℕ). IsPaged (set numbers p value) ts) (sym row) written) are'

    -- the top stays, and the rows behind too
    pub change_stays : (new : ℕ) → new ≡ largest (page (set numbers p value) (p / PAGE)) → new ≡ get_or behind (p / PAGE) 0 → AreLevels above count (set numbers p value ++ behind)
    change_stays new top same =
        let n = pages_of count in
        let kept : take n behind ≡ set (take n behind) (p / PAGE) new = sym (ap (set (take n behind) (p / PAGE)) (same ∙ sym (top_at n refl)) ∙ set-get_or (take n behind) (p / PAGE) 0) in
        change_rises new n behind top refl (paged n refl).2 kept
