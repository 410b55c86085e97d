-- Rows that are dropped by their places.
use Rattle.std.proofs.Common.{◌≡◌, ◌∙◌, ℕ, zero, suc, ◌+◌, ◌<◌, ◌≤◌, Bool, true, false, cond, inl, inr, not, List, []}
use Rattle.std.proofs.Common.{◌∷◌, ◌++◌, length, take, refl, sym, ap, subst, arith}
use Rattle.std.specs.Prelude.{slice_index}
use Rattle.std.proofs.lemmas.Bool.{eq-eqb, false≢true, false_from_ne_true}
use Rattle.std.proofs.lemmas.List.{length-map}
use Rattle.std.specs.List.{Contains, count_by}
use Rattle.seg_words.specs.Members.{Contains-cases, Contains-first, Contains-later, Contains-kept, count-cons, counted_some, none_in_nil}
use Rattle.seg_words.specs.Windows.{Aside}
use Rattle.apcu_model.specs.Cache.{Row}
use Rattle.apcu_model.specs.Change.{is_among, left_of}
use Rattle.apcu_model.specs.Facts.{among_from, one_by_key}
use Rattle.apcu_model.specs.Rows.{are_apart}
use Rattle.entry_slots.specs.Lists.{is_at, has_place, only_at}
use Rattle.entry_slots.specs.Entries.{Entries}
use Rattle.entry_slots.specs.Facts.{IsSound}
use Rattle.entry_slots.specs.RowPlaces.{place_there}
use Rattle.ttl_expunge.specs.ProbedRows.{Drops}
use Rattle.ttl_expunge.specs.Lists.{row_places, AreRowsAt}
use Rattle.ttl_expunge.proofs.DroppedRows.{only_once, drops_on}

-- the row after this many
pub record IsNth (some : List Row) (i : ℕ) : Type 0 where
  pub row : Row
  pub member : Contains some row
  pub place : row.place ≡ slice_index (row_places some) i
  pub more : take (i + 1) some ≡ take i some ++ row ∷ []
  pub unrefused : has_place row.place (take i some) ≡ false

pub nth_row : (some : List Row) (i : ℕ) → ((at : ℕ) → count_by (is_at at) some ≤ 1)
    → i < length (row_places some) → IsNth some i
nth_row [] i once low = absurd (omega (arith, low))
nth_row (r ∷ rs) zero once low =
    let n : zero + 1 ≡ suc zero = omega arith in
    record {
      row = r;
      member = Contains-first r rs;
      place = refl;
      more = ap (λ k. take k (r ∷ rs)) n;
      unrefused = refl;
    }
nth_row (r ∷ rs) (suc i) once low =
    let later : (at : ℕ) → count_by (is_at at) rs ≤ 1 =
    λ at. omega (arith, once at, count-cons (is_at at) r rs) in
    let t = nth_row rs i later (omega (arith, low)) in
    let at = t.row.place in
    let here : is_at at r ≡ false = false_from_ne_true (is_at at r) (λ h.
    let one : cond {A = ℕ} (is_at at r) 1 0 ≡ 1 = ap (λ (b : Bool). cond {A = ℕ} b 1 0) h in
    omega (
      arith,
      once at,
      one,
      count-cons (is_at at) r rs,
      counted_some (is_at at) rs t.row t.member (eq-eqb at at refl),
    )) in
    let n : suc i + 1 ≡ suc (i + 1) = omega arith in
    record {
      row = t.row;
      member = Contains-later r rs t.row t.member;
      place = t.place;
      more = ap (λ k. take k (r ∷ rs)) n ∙ ap (λ l. r ∷ l) t.more;
      unrefused = rw here t.unrefused;
    }

taken : (rows : List Row) (i : ℕ) (row : Row) → Contains (take i rows) row → Contains rows row
taken rows zero row c = absurd (none_in_nil row c)
taken [] (suc i) row c = c
taken (r ∷ rows) (suc i) row c = elim (Contains-cases r (take i rows) row c) [
  | inl same ↦ subst (Contains (r ∷ rows)) same (Contains-first r rows)
  | inr later ↦ Contains-later r rows row (taken rows i row later)
]

-- after those before it were dropped it is there still, and alone at its place
pub record IsLeftAt (s : Entries) (some : List Row) (i at : ℕ) : Type 0 where
  pub row : Row
  pub more : take (i + 1) some ≡ take i some ++ row ∷ []
  pub there : has_place at s.rows ≡ true
  pub only : only_at at s.rows ≡ row ∷ []

pub left_at : {s now : Entries} {words windows places : List ℕ} {start aside : Aside} {t : ℕ}
    (gone : List Row) (i at : ℕ) → AreRowsAt s.rows places gone → are_apart s.rows ≡ true → IsSound now words windows
    → Drops s now start aside t (take i gone) → i < length places → slice_index places i ≡ at
    → IsLeftAt now gone i at
left_at {s} {now} {words} {windows} {places} gone i at are apart sound drops low here =
    let n = nth_row gone i are.once (omega (arith, low, ap (length {A = ℕ}) are.places_are)) in
    let place : n.row.place ≡ at = n.place ∙ ap (λ l. slice_index l i) are.places_are ∙ here in
    let left : now.rows ≡ left_of (take i gone) s.rows = ap (λ (x : Entries). x.rows) drops.dropped in
    let unrefused : is_among (take i gone) n.row ≡ false = false_from_ne_true (is_among (take i gone) n.row) (λ h.
    let r = among_from (take i gone) n.row h in
    let same : r.0 ≡ n.row = one_by_key s.rows r.0 n.row apart (are.there r.0 (taken gone i r.0 r.1)) (are.there n.row n.member) r.2 in
    false≢true (sym n.unrefused ∙ subst (λ (x : Row). has_place x.place (take i gone) ≡ true) same (place_there (take i gone) r.0 r.1))) in
    let c : Contains now.rows n.row =
    subst (λ l. Contains l n.row) (sym left)
    (Contains-kept (λ (r : Row). not (is_among (take i gone) r)) s.rows n.row (are.there n.row n.member) (ap not unrefused)) in
    record {
      row = n.row;
      more = n.more;
      there = subst (λ k. has_place k now.rows ≡ true) place (place_there now.rows n.row c);
      only = only_once at now.rows n.row c place (omega (arith, sound.once at));
    }

-- with it one more was dropped
pub dropped_next : {s now new : Entries} {start aside after : Aside} {t : ℕ} (gone : List Row)
    (i at : ℕ) → IsLeftAt now gone i at → Drops s now start aside t (take i gone)
    → Drops now new aside after t (only_at at now.rows) → Drops s new start after t (take (i + 1) gone)
dropped_next {s} {now} {new} {start} {aside} {after} {t} gone i at n drops then =
    subst (λ l. Drops s new start after t l) (ap (λ l. take i gone ++ l) n.only ∙ sym n.more)
    (drops_on drops then)

-- after the last all were
pub dropped_all : {s now : Entries} {places : List ℕ} {start aside : Aside} {t : ℕ}
    (gone : List Row) (i : ℕ) → AreRowsAt s.rows places gone → length places ≤ i
    → Drops s now start aside t (take i gone) → Drops s now start aside t gone
dropped_all {s} {now} {places} {start} {aside} {t} gone i are over drops =
    subst (λ l. Drops s now start aside t l)
    (take_all gone i (omega (arith, over, ap (length {A = ℕ}) are.places_are, length-map gone (λ (r : Row). r.place)))) drops
  where
    take_all : (xs : List Row) (n : ℕ) → length xs ≤ n → take n xs ≡ xs
    take_all [] zero h = refl
    take_all [] (suc n) h = refl
    take_all (x ∷ xs) zero h = absurd (omega (arith, h))
    take_all (x ∷ xs) (suc n) h = ap (λ l. x ∷ l) (take_all xs n (omega (arith, h)))
