-- The places of the removed rows, sorted and searched.
use Rattle.std.proofs.Common.{◌≡◌, inl, inr, ℕ, ◌+◌, ◌<◌, ◌≤◌, ◌==◌, ◌||◌, Bool, false, cond, List}
use Rattle.std.proofs.Common.{[], ◌∷◌, ◌++◌, append_assoc, drop, length, map, get_or, refl, sym, ap, ◌∙◌, arith}
use Rattle.std.specs.Prelude.{MatchResult, Result, Ok, Err, is_ok}
use Rattle.std.specs.List.{count_by, list_any}
use Rattle.std.specs.List.Sorted.{IsPermutation, IsSorted, IsBinarySearchResult}
use Rattle.std.specs.Ordering.{nat_cmp}
use Rattle.std.proofs.lemmas.Bool.{or_parts, eq-eqb, eqb-true, cases_Bool, cases_lt, false_from_ne_true}
use Rattle.std.proofs.lemmas.Grind.{get_or_default_zero}
use Rattle.std.proofs.lemmas.List.Elements.{Contains-get_or}
use Rattle.std.proofs.lemmas.List.Sorted.{IsNonDecreasingBy-from_sort, searched, sum_by-IsPermutation}
use Rattle.seg_words.specs.Members.{any_from, any_there, count-cons, counted_some}
use Rattle.apcu_model.specs.Cache.{Row}
use Rattle.entry_slots.specs.Lists.{is_at, has_place}
use Rattle.seg_report.specs.RemovedPlaces.{ArePlaces}

abbrev pub places_of : List Row → List ℕ
places_of rows = map {A = Row} (λ row. row.place) rows

any_place : (at : ℕ) (rows : List Row)
    → list_any (λ place. place == at) (places_of rows) ≡ has_place at rows
any_place at [] = refl
any_place at (row ∷ rows) = ap (λ b. is_at at row || b) (any_place at rows)

count_of_none : (p : ℕ → Bool) (xs : List ℕ) → list_any p xs ≡ false → count_by p xs ≤ 0
count_of_none p [] h = omega arith
count_of_none p (x ∷ xs) h =
    let parts = or_parts (p x) (list_any p xs) h in
    let none : cond {A = ℕ} (p x) 1 0 ≡ 0 = ap (λ (b : Bool). cond {A = ℕ} b 1 0) parts.0 in
    omega (arith, none, count-cons p x xs, count_of_none p xs parts.1)

any_moved : (p : ℕ → Bool) (xs ys : List ℕ) → IsPermutation xs ys → list_any p ys ≡ list_any p xs
any_moved p xs ys moved = elim (cases_Bool (list_any p xs)) [
  | inl t ↦ elim (cases_Bool (list_any p ys)) [
    | inl u ↦ u ∙ sym t
    | inr n ↦
        let r = any_there p xs t in
        absurd (omega (arith, counted_some p xs r.0 r.1 r.2, count_of_none p ys n, same))
  ]
  | inr n ↦ false_from_ne_true (list_any p ys) (λ t.
      let r = any_there p ys t in
      omega (arith, counted_some p ys r.0 r.1 r.2, count_of_none p xs n, same)) ∙ sym n
]
  where
    same : count_by p ys ≡ count_by p xs
    same = sum_by-IsPermutation (λ y. cond {A = ℕ} (p y) 1 0) xs ys moved

pub sorted_places : (rows : List Row) (old new : List ℕ) → old ≡ places_of rows
    → IsPermutation old new → IsSorted nat_cmp new → ArePlaces new rows
sorted_places rows old new are moved sorted = record {
  same = λ at.
      any_moved (λ place. place == at) old new moved
      ∙ ap (list_any (λ place. place == at)) are ∙ any_place at rows;
  rising = λ i j low high. IsNonDecreasingBy-from_sort (λ x. x) new sorted i j 0 low high;
}

-- the search finds whether a removed row is there
pub found_place : (places : List ℕ) (rows : List Row) (at : ℕ) (r : Result ℕ ℕ)
    → ArePlaces places rows → IsBinarySearchResult (λ y. nat_cmp y at) places r
    → is_ok r ≡ has_place at rows
found_place places rows at r are told = go r (searched places at r told are.rising) ∙ are.same at
  where
    go : (r : Result ℕ ℕ)
        → MatchResult r (λ i. (i < length places) × (get_or places i 0 ≡ at))
        (λ i. (i ≤ length places) × ((k : ℕ) → k < i → get_or places k 0 < at)
        × ((k : ℕ) → i ≤ k → k < length places → at < get_or places k 0))
        → is_ok r ≡ list_any (λ place. place == at) places
    go (Ok i) h =
        sym (any_from (λ place. place == at) places (get_or places i 0)
        (Contains-get_or places i 0 h.0) (eq-eqb (get_or places i 0) at h.1))
    go (Err i) h =
        sym (false_from_ne_true (list_any (λ place. place == at) places) (λ t.
        let y = any_there (λ place. place == at) places t in
        let is : y.0 ≡ at = eqb-true y.0 at y.2 in
        let there : get_or places y.1.0 0 ≡ y.0 =
        sym (get_or_default_zero places y.1.0 y.0 y.1.1) ∙ y.1.2 in
        elim (cases_lt y.1.0 i) [
          | inl low ↦ omega (arith, is, there, h.1 y.1.0 low)
          | inr high ↦ omega (arith, is, there, h.2 y.1.0 high y.1.1)
        ]))

-- one place more of those that are collected
pub place_goes_on : (rows : List Row) (passed : ℕ) (row : Row) (at : ℕ) (old new : List ℕ)
    → drop passed rows ≡ row ∷ drop (passed + 1) rows → row.place ≡ at → new ≡ old ++ at ∷ []
    → new ++ places_of (drop (passed + 1) rows) ≡ old ++ places_of (drop passed rows)
place_goes_on rows passed row at old new left is made =
    let rest = places_of (drop (passed + 1) rows) in
    ap (λ l. l ++ rest) (made ∙ ap (λ y. old ++ y ∷ []) (sym is))
    ∙ append_assoc old (row.place ∷ []) rest ∙ sym (ap (λ l. old ++ places_of l) left)
