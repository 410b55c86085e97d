-- The places of the removed rows: collected in an array one after the other, and sorted.
use Rattle.std.proofs.Common.{◌≡◌, ◌≢◌, inl, inr, ℕ, ◌+◌, ◌<◌, ◌≤◌, ◌==◌, ◌||◌, eqb, Bool, true, false, cond, List, [], ◌∷◌, ◌++◌, length, take, map, slice_index, slice_set, refl, sym, ap, ap₂, ◌∙◌, subst, append_assoc, arith}
use Rattle.std.proofs.lemmas.Bool.{or_parts, or_left, or_right, eq-eqb, cases_Bool, false≢true, false_from_ne_true}
use Rattle.std.specs.List.{Contains, count_by, list_any, AllByRecursion, IsDistinct}
use Rattle.std.specs.List.Sorted.{IsPermutation, IsSorted, IsStrictlyIncreasing}
use Rattle.std.specs.Ordering.{nat_cmp}
use Rattle.std.proofs.lemmas.List.{append-nil, take_more_set}
use Rattle.std.proofs.lemmas.List.Elements.{Contains-append_right}
use Rattle.std.proofs.lemmas.List.Sorted.{IsNonDecreasingBy-from_sort, sum_by-IsPermutation}
use Rattle.std.proofs.lemmas.Map.Keys.{IsDistinct-IsPermutation, IsStrictlyIncreasing-from_distinct}
use Rattle.seg_words.specs.Windows.{has}
use Rattle.apcu_model.specs.Cache.{Row}
use Rattle.entry_slots.specs.Lists.{is_at, has_place, first_place, place_after, FollowsIn}
use Rattle.entry_slots.specs.Entries.{Entries}
use Rattle.entry_slots.specs.Facts.{IsSound}
use Rattle.ttl_expunge.specs.Lists.{row_places}
use Rattle.std.proofs.lemmas.List.Folds.{list_any-append}
use Rattle.seg_words.specs.Members.{any_there, counted_some, count-cons, Contains-first}
use Rattle.entry_slots.specs.RowPlaces.{place_there}
use Rattle.ttl_expunge.proofs.Rows.{next_in, alone}
use Rattle.ttl_expunge.proofs.ReadOnlyCalls.{flip}

-- This many removed rows were passed and their places collected, and `at` is the next.
pub record Listing (removed : List Row) (at count : ℕ) (places : List ℕ) : Type 0 where
  pub done : List Row
  pub todo : List Row
  pub split : removed ≡ done ++ todo
  pub here : at ≡ first_place todo
  pub collected : take count places ≡ row_places done

pub listing_starts : (removed : List Row) (at : ℕ) (places : List ℕ) → at ≡ first_place removed → Listing removed at 0 places
listing_starts removed at places here = record { done = []; todo = removed; split = refl; here = here; collected = refl }

-- the row that is asked next
pub record IsListed (removed : List Row) (at : ℕ) (done todo : List Row) : Type 0 where
  pub row : Row
  pub more : List Row
  pub todo_is : todo ≡ row ∷ more
  pub place : row.place ≡ at
  pub split : removed ≡ done ++ row ∷ more
  pub there : has_place at removed ≡ true
  pub next : place_after at removed ≡ first_place more

pub listed_at : {s : Entries} {words windows : List ℕ} {at count : ℕ} {places : List ℕ} (w : Listing s.removed at count places) → IsSound s words windows → at ≢ 0 → IsListed s.removed at w.done w.todo
listed_at {s} {words} {windows} {at} {count} {places} w sound some = go w.todo refl
  where
    go : (todo : List Row) → w.todo ≡ todo → IsListed s.removed at w.done w.todo
    go [] e = absurd (some (w.here ∙ ap first_place e))
    go (row ∷ more) e =
        let place : row.place ≡ at = sym (w.here ∙ ap first_place e) in
        let split : s.removed ≡ w.done ++ row ∷ more = w.split ∙ ap (λ l. w.done ++ l) e in
        let there : Contains s.removed row = subst (λ l. Contains l row) (sym split) (Contains-append_right w.done (row ∷ more) row (Contains-first row more)) in
        let few : count_by (is_at at) s.removed ≤ 1 = omega (arith, sound.once at) in
        let a = alone at w.done row more place (subst (λ l. count_by (is_at at) l ≤ 1) split few) in
        record {
          row = row;
          more = more;
          todo_is = e;
          place = place;
          split = split;
          there = subst (λ n. has_place n s.removed ≡ true) place (place_there s.removed row there);
          next = ap (place_after at) split ∙ next_in at w.done row more a.before place;
        }

places_push : (done : List Row) (row : Row) → row_places (done ++ row ∷ []) ≡ row_places done ++ row.place ∷ []
places_push [] row = refl
places_push (x ∷ done) row = ap (λ l. x.place ∷ l) (places_push done row)

-- one more is collected
pub listing_on : {s : Entries} {words windows : List ℕ} {at count next : ℕ} {places : List ℕ} (w : Listing s.removed at count places) → IsSound s words windows → at ≢ 0 → FollowsIn s.removed at next → count < length places
    → Listing s.removed next (count + 1) (slice_set places count at)
listing_on {s} {words} {windows} {at} {count} {next} {places} w sound some then lt =
    let t = listed_at w sound some in
    record {
      done = w.done ++ t.row ∷ [];
      todo = t.more;
      split = t.split ∙ sym (append_assoc w.done (t.row ∷ []) t.more);
      here = then t.there ∙ t.next;
      collected = take_more_set places count at lt ∙ (ap₂ (λ (a b : List ℕ). a ++ b) w.collected (ap (λ (n : ℕ). n ∷ []) (sym t.place)) ∙ sym (places_push w.done t.row));
    }

-- all are collected
pub listing_ends : {s : Entries} {words windows : List ℕ} {at count : ℕ} {places : List ℕ} (w : Listing s.removed at count places) → IsSound s words windows → at ≡ 0 → take count places ≡ row_places s.removed
listing_ends {s} {words} {windows} {at} {count} {places} w sound end = go w.todo refl
  where
    go : (todo : List Row) → w.todo ≡ todo → take count places ≡ row_places s.removed
    go [] e = w.collected ∙ ap row_places (sym (w.split ∙ (ap (λ l. w.done ++ l) e ∙ append-nil w.done)))
    go (row ∷ more) e =
        let place : row.place ≡ 0 = sym (w.here ∙ ap first_place e) ∙ end in
        let there : Contains s.removed row = subst (λ l. Contains l row) (sym (w.split ∙ ap (λ l. w.done ++ l) e)) (Contains-append_right w.done (row ∷ more) row (Contains-first row more)) in
        let none = (or_parts (has_place 0 s.rows) (has_place 0 s.removed) (sym (list_any-append (is_at 0) s.rows s.removed) ∙ sound.placed)).1 in
        absurd (false≢true (sym none ∙ subst (λ n. has_place n s.removed ≡ true) place (place_there s.removed row there)))

-- ---- sorted

others : (at : ℕ) (rows : List Row) → count_by (is_at at) rows ≤ 0 → AllByRecursion (λ y. eqb at y ≡ false) (row_places rows)
others at [] h = tt
others at (row ∷ rows) h = (
  flip at row.place ∙ false_from_ne_true (is_at at row) (λ t.
      let one : cond {A = ℕ} (is_at at row) 1 0 ≡ 1 = ap (λ (b : Bool). cond {A = ℕ} b 1 0) t in
      omega (arith, h, one, count-cons (is_at at) row rows)),
  others at rows (omega (arith, h, count-cons (is_at at) row rows)),
)

distinct_places : (rows : List Row) → ((x : ℕ) → count_by (is_at x) rows ≤ 1) → IsDistinct eqb (row_places rows)
unfolding IsDistinct
distinct_places [] h = tt
distinct_places (row ∷ rows) h =
    let one : cond {A = ℕ} (is_at row.place row) 1 0 ≡ 1 = ap (λ (b : Bool). cond {A = ℕ} b 1 0) (eq-eqb row.place row.place refl) in
    (others row.place rows (omega (arith, h row.place, one, count-cons (is_at row.place) row rows)), distinct_places rows (λ x. omega (arith, h x, count-cons (is_at x) row rows)))

-- sorted places rise
pub places_rise : {s : Entries} {words windows : List ℕ} (xs : List ℕ) → IsSound s words windows → IsPermutation (row_places s.removed) xs → IsSorted nat_cmp xs → IsStrictlyIncreasing xs
places_rise {s} xs sound moved sorted =
    IsStrictlyIncreasing-from_distinct xs (IsNonDecreasingBy-from_sort (λ x. x) xs sorted)
    (IsDistinct-IsPermutation eqb flip (row_places s.removed) xs moved (distinct_places s.removed (λ x. omega (arith, sound.once x))))

has_any : (at : ℕ) (xs : List ℕ) → has at xs ≡ list_any (λ y. at == y) xs
has_any at [] = refl
has_any at (x ∷ xs) = ap (λ b. (at == x) || b) (has_any at xs)

any_place : (at : ℕ) (rows : List Row) → list_any (λ y. at == y) (row_places rows) ≡ has_place at rows
any_place at [] = refl
any_place at (row ∷ rows) = ap₂ (λ (a b : Bool). a || b) (flip at row.place) (any_place at rows)

count_of_none : (p : ℕ → Bool) (xs : List ℕ) → list_any p xs ≡ false → count_by p xs ≤ 0
count_of_none p [] h = omega arith
count_of_none p (x ∷ xs) h =
    let parts = or_parts (p x) (list_any p xs) h in
    let none : cond {A = ℕ} (p x) 1 0 ≡ 0 = ap (λ (b : Bool). cond {A = ℕ} b 1 0) parts.0 in
    omega (arith, none, count-cons p x xs, count_of_none p xs parts.1)

any_moved : (p : ℕ → Bool) (xs ys : List ℕ) → IsPermutation xs ys → list_any p ys ≡ list_any p xs
any_moved p xs ys moved = elim (cases_Bool (list_any p xs)) [
  | inl t ↦ elim (cases_Bool (list_any p ys)) [
    | inl u ↦ u ∙ sym t
    | inr n ↦
        let r = any_there p xs t in
        absurd (omega (arith, counted_some p xs r.0 r.1 r.2, count_of_none p ys n, same))
  ]
  | inr n ↦ false_from_ne_true (list_any p ys) (λ t.
      let r = any_there p ys t in
      omega (arith, counted_some p ys r.0 r.1 r.2, count_of_none p xs n, same)) ∙ sym n
]
  where
    same : count_by p ys ≡ count_by p xs
    same = sum_by-IsPermutation (λ y. cond {A = ℕ} (p y) 1 0) xs ys moved

-- and they are the same places
pub places_same : (removed : List Row) (xs : List ℕ) → IsPermutation (row_places removed) xs → (at : ℕ) → has at xs ≡ has_place at removed
places_same removed xs moved at = has_any at xs ∙ (any_moved (λ y. at == y) (row_places removed) xs moved ∙ any_place at removed)
