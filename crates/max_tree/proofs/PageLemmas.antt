-- Pages of numbers and their tops.
use Rattle.std.proofs.Common.{◌≡◌, ℕ, ◌+◌, ◌-◌, ◌*◌, ◌/◌, ◌%◌, ◌^◌, ◌<◌, ◌≤◌, Bool, false, ltb, true, List, length, get_or, set, take, drop, replicate, Option, Some, None, MatchOption, refl, sym, ap, ◌∙◌, inl, inr, arith, get_or-drop}
use Rattle.std.specs.Prelude.{nat_le}
use Rattle.std.specs.List.{position, position_or_len}
use Rattle.std.proofs.lemmas.Bool.{cases_lt, cases_eq, lt-ltb, leb-true, leb-false, le-leb, lt-leb}
use Rattle.std.proofs.lemmas.List.Sums.{fails_before_first}
use Rattle.std.proofs.lemmas.List.Quantifiers.{position-Some}
use Rattle.std.proofs.lemmas.List.{get_or-take, length-take, length-set, get_or-set_same, get_or-set_other, drop-set-lt, take-set-le, drop-set-add, get_or_past, length-replicate}
use Rattle.max_tree.specs.Pages.{largest, page, AreTops, IsPaged}
use Rattle.max_tree.specs.declared.row.TheConstants.{PAGE}
use Rattle.max_tree.proofs.Largest.{largest_bound, largest_least}
use Rattle.max_tree.proofs.Positions.{position_found, position_none, zero_at}

pub page_at : (xs : List ℕ) (k j : ℕ) → j < PAGE → get_or (page xs k) j 0 ≡ get_or xs (PAGE * k + j) 0
page_at xs k j inside = get_or-take PAGE (drop (PAGE * k) xs) j 0 inside ∙ get_or-drop (PAGE * k) xs j 0

pub page_length : (xs : List ℕ) (k : ℕ) → length (page xs k) ≤ PAGE
page_length xs k = omega (arith, length-take PAGE (drop (PAGE * k) xs))

-- no number is larger than the largest one of its own page
pub own_page : (xs : List ℕ) (p : ℕ) → get_or xs p 0 ≤ largest (page xs (p / PAGE))
own_page xs p =
    let place : PAGE * (p / PAGE) + p % PAGE ≡ p = omega arith in
    let same : get_or (page xs (p / PAGE)) (p % PAGE) 0 ≡ get_or xs p 0 = page_at xs (p / PAGE) (p % PAGE) (omega arith) ∙ ap (λ (n : ℕ). get_or xs n 0) place in
    omega (arith, same, largest_bound (page xs (p / PAGE)) (p % PAGE))

pub below_top : (xs tops : List ℕ) → AreTops xs tops → (i : ℕ) → get_or xs i 0 ≤ get_or tops (i / PAGE) 0
below_top xs tops are i = omega (arith, are (i / PAGE), own_page xs i)

-- a page whose numbers are all at most m has no larger top
pub top_least : (xs tops : List ℕ) → AreTops xs tops → (k m : ℕ) → ((i : ℕ) → PAGE * k ≤ i → i < PAGE * k + PAGE → i < length xs → get_or xs i 0 ≤ m) → get_or tops k 0 ≤ m
top_least xs tops are k m below = omega (arith, are k, largest_least (page xs k) m each)
  where
    each : (j : ℕ) → j < length (page xs k) → get_or (page xs k) j 0 ≤ m
    each j inside =
        let low : j < PAGE = omega (arith, page_length xs k) in
        elim (cases_lt (PAGE * k + j) (length xs)) [
          | inl there ↦ omega (arith, page_at xs k j low, below (PAGE * k + j) (omega arith) (omega arith) there)
          | inr past ↦ let none : get_or xs (PAGE * k + j) 0 ≡ 0 = get_or_past xs (PAGE * k + j) 0 past in omega (arith, page_at xs k j low)
        ]

-- the largest of the tops is the largest of the numbers
pub largest_top : (xs tops : List ℕ) → AreTops xs tops → largest tops ≡ largest xs
largest_top xs tops are =
    let low : largest tops ≤ largest xs = largest_least tops (largest xs) (λ k inside. top_least xs tops are k (largest xs) (λ i from to there. largest_bound xs i)) in
    let high : largest xs ≤ largest tops = largest_least xs (largest tops) (λ i inside. omega (arith, below_top xs tops are i, largest_bound tops (i / PAGE))) in
    omega arith

-- a write in one page leaves the others
pub page_other : (xs : List ℕ) (k p v : ℕ) → p < PAGE * k → page (set xs p v) k ≡ page xs k
page_other xs k p v before = ap (take PAGE) (drop-set-lt (PAGE * k) xs p v before)

pub page_before : (xs : List ℕ) (k p v : ℕ) → PAGE * k + PAGE ≤ p → page (set xs p v) k ≡ page xs k
page_before xs k p v past =
    let place : p ≡ PAGE * k + (p - PAGE * k) = omega arith in
    let moved : drop (PAGE * k) (set xs p v) ≡ set (drop (PAGE * k) xs) (p - PAGE * k) v = ap (λ (n : ℕ). drop (PAGE * k) (set xs n v)) place ∙ drop-set-add (PAGE * k) xs (p - PAGE * k) v in
    ap (take PAGE) moved ∙ take-set-le PAGE (drop (PAGE * k) xs) (p - PAGE * k) v (omega arith)

-- zeros are in pages of zeros
pub zero_paged : (n : ℕ) → PAGE < n → n < 2 ^ 32 → IsPaged (replicate n 0) (replicate ((n + (PAGE - 1)) / PAGE) 0)
zero_paged n many short =
    let xs = replicate {A = ℕ} n 0 in
    let m = (n + (PAGE - 1)) / PAGE in
    let count = length-replicate {A = ℕ} n 0 in
    record {
      short = omega (arith, count);
      many = omega (arith, count);
      tops_count = omega (arith, count, length-replicate {A = ℕ} m 0);
      tops_are = λ k.
          let low : largest (page xs k) ≤ 0 = largest_least (page xs k) 0 (λ j inside. omega (arith, page_at xs k j (omega (arith, page_length xs k)), zero_at n (PAGE * k + j))) in
          omega (arith, low, zero_at m k);
    }

pub room_of : (xs tops : List ℕ) → IsPaged xs tops → length xs ≤ PAGE * length tops
room_of xs tops paged = let count = paged.tops_count in omega arith

-- a page whose top is not 0 begins among the numbers
pub page_some : (xs tops : List ℕ) (k : ℕ) → IsPaged xs tops → 0 < get_or tops k 0 → PAGE * k ≤ length xs
page_some xs tops k paged some = elim (cases_lt (length xs) (PAGE * k)) [
  | inr inside ↦ inside
  | inl past ↦ absurd (omega (arith, top_least xs tops paged.tops_are k 0 (λ i low high inside. absurd (omega arith))))
]

-- a page whose top is 0 is all zeros
pub page_zero : (xs tops : List ℕ) (k i : ℕ) → IsPaged xs tops → get_or tops k 0 ≡ 0 → PAGE * k ≤ i → i < PAGE * k + PAGE → get_or xs i 0 ≡ 0
page_zero xs tops k i paged none low high =
    let same : i / PAGE ≡ k = omega arith in
    let top : get_or tops (i / PAGE) 0 ≡ 0 = ap (λ (j : ℕ). get_or tops j 0) same ∙ none in
    omega (arith, below_top xs tops paged.tops_are i)

-- after a write the top of its page is computed again
pub set_paged : (xs tops : List ℕ) (p v top : ℕ) → IsPaged xs tops → p < length xs → top ≡ largest (page (set xs p v) (p / PAGE)) → IsPaged (set xs p v) (set tops (p / PAGE) top)
set_paged xs tops p v top paged inside is =
    let short = paged.short in
    let many = paged.many in
    let count = paged.tops_count in
    record {
      short = omega (arith, length-set xs p v);
      many = omega (arith, length-set xs p v);
      tops_count = omega (arith, length-set xs p v, length-set tops (p / PAGE) top);
      tops_are = λ k. elim (cases_eq k (p / PAGE)) [
        | inl same ↦
            let there : p / PAGE < length tops = omega arith in
            ap (λ (j : ℕ). get_or (set tops (p / PAGE) top) j 0) same ∙ get_or-set_same tops (p / PAGE) top 0 there ∙ is ∙ ap (λ (j : ℕ). largest (page (set xs p v) j)) (sym same)
        | inr other ↦
            let stays : page (set xs p v) k ≡ page xs k = elim (cases_lt k (p / PAGE)) [
              | inl before ↦ page_before xs k p v (omega arith)
              | inr after ↦ page_other xs k p v (omega arith)
            ] in
            get_or-set_other tops (p / PAGE) k top 0 other ∙ paged.tops_are k ∙ ap largest (sym stays)
      ];
    }

-- none passes if there is no position
pub position_None : (p : ℕ → Bool) (xs : List ℕ) → position p xs ≡ None → (k : ℕ) → k < length xs → p (get_or xs k 0) ≡ false
position_None p xs nowhere k inside = elim (cases_lt (position_or_len p xs) (length xs)) [
  | inl found ↦
      let t : ltb (position_or_len p xs) (length xs) ≡ true = lt-ltb _ _ found in
      let is : position p xs ≡ Some (position_or_len p xs) = rw t refl in
      cc
  | inr past ↦ fails_before_first p xs k 0 (omega arith)
]

-- where no top is large enough no number is
pub first_none : (xs tops : List ℕ) (n : ℕ) → IsPaged xs tops → 1 ≤ n → position (λ value. nat_le n value) tops ≡ None → position (λ value. nat_le n value) xs ≡ None
first_none xs tops n paged some nowhere =
    position_none (λ value. nat_le n value) xs (λ i inside.
    let room = room_of xs tops paged in
    lt-leb n _ (omega (arith, below_top xs tops paged.tops_are i, leb-false n _ (position_None (λ value. nat_le n value) tops nowhere (i / PAGE) (omega arith)))))

-- the first number of the first page whose top is large enough
pub first_is : (xs tops : List ℕ) (n k : ℕ) (r : Option ℕ) → IsPaged xs tops → 1 ≤ n → position (λ value. nat_le n value) tops ≡ Some k
    → MatchOption r ((i : ℕ) → PAGE * k ≤ i → i < PAGE * k + PAGE → i < length xs → get_or xs i 0 < n) (λ at. (i : ℕ) → PAGE * k ≤ i → i < at → get_or xs i 0 < n)
    → MatchOption r (Unit {0}) (λ at. (PAGE * k ≤ at) × (at < PAGE * k + PAGE) × (at < length xs) × (n ≤ get_or xs at 0))
    → r ≡ position (λ value. nat_le n value) xs
first_is xs tops n k None paged some found none there =
    let first = position-Some (λ value. nat_le n value) tops k 0 found in
    absurd (omega (arith, leb-true n _ first.1, top_least xs tops paged.tops_are k (n - 1) (λ i low high inside. omega (arith, none i low high inside))))
first_is xs tops n k (Some at) paged some found none there =
    let first = position-Some (λ value. nat_le n value) tops k 0 found in
    sym (position_found (λ value. nat_le n value) xs at there.2 (le-leb n _ there.3) (λ i before. elim (cases_lt i (PAGE * k)) [
      | inl earlier ↦ lt-leb n _ (omega (arith, below_top xs tops paged.tops_are i, leb-false n _ (first.2 (i / PAGE) (omega arith))))
      | inr here ↦ lt-leb n _ (none i here before)
    ]))

-- the first k pages are zeros now, and the others are as they were
pub record Cleared (old now : List ℕ) (k : ℕ) : Type 0 where
  pub count : length now ≡ length old
  pub zeros : (i : ℕ) → i < PAGE * k → get_or now i 0 ≡ 0
  pub rest : (i : ℕ) → PAGE * k ≤ i → get_or now i 0 ≡ get_or old i 0

pub cleared_more : (old now new : List ℕ) (k : ℕ) → Cleared old now k → length new ≡ length now → ((i : ℕ) → PAGE * k ≤ i → i < PAGE * k + PAGE → get_or new i 0 ≡ 0) → ((i : ℕ) → i < PAGE * k → get_or new i 0 ≡ get_or now i 0) → ((i : ℕ) → PAGE * k + PAGE ≤ i → get_or new i 0 ≡ get_or now i 0) → Cleared old new (k + 1)
cleared_more old now new k h count zeros before after = record {
  count = count ∙ h.count;
  zeros = λ i low. elim (cases_lt i (PAGE * k)) [
    | inl earlier ↦ before i earlier ∙ h.zeros i earlier
    | inr here ↦ zeros i here (omega arith)
  ];
  rest = λ i high. after i (omega arith) ∙ h.rest i (omega arith);
}

pub cleared_skip : (old now tops : List ℕ) (k : ℕ) → IsPaged old tops → get_or tops k 0 ≡ 0 → Cleared old now k → Cleared old now (k + 1)
cleared_skip old now tops k paged none h = record {
  count = h.count;
  zeros = λ i low. elim (cases_lt i (PAGE * k)) [
    | inl earlier ↦ h.zeros i earlier
    | inr here ↦ h.rest i here ∙ page_zero old tops k i paged none here (omega arith)
  ];
  rest = λ i high. h.rest i (omega arith);
}
