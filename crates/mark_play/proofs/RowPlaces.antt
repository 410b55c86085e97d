-- Rows by their numbers, keys and places.
use Rattle.std.proofs.Common.{◌≡◌, ◌≢◌, ℕ, zero, suc, ◌+◌, ◌<◌, ◌≤◌, Bool, true, false, not, ◌||◌, cond, List, [], ◌∷◌, ◌++◌, length, drop, Option, Some, None, refl, ap, sym, ◌∙◌, subst, inl, inr, arith}
use Rattle.std.specs.Prelude.{Contains, find, option_map, count_by}
use Rattle.std.specs.List.{list_any}
use Rattle.std.proofs.lemmas.Bool.{and_parts, eq-eqb, eqb-true, false≢true, false_from_ne_true, not-true, or_left}
use Rattle.std.proofs.lemmas.List.Elements.{Contains-append_left, Contains-append_right, Contains-append_cases}
use Rattle.std.proofs.lemmas.Slice.Eq.{bytes_eq-Decides}
use Rattle.seg_words.specs.Members.{Contains-cases, none_in_nil, any_from, any_there, count-cons, counted_some}
use Rattle.apcu_model.specs.Cache.{Row, has_key}
use Rattle.apcu_model.specs.Rows.{are_apart}
use Rattle.entry_slots.specs.Lists.{is_at, has_place, first_place}
use Rattle.entry_slots.specs.Entries.{Entries, place_of, listed}
use Rattle.entry_slots.specs.RowWalks.{left_here}
use Rattle.mark_play.specs.declared.answering.Window.{Window}
use Rattle.mark_play.specs.HeldPlaces.{HasKeyIn, IsRowPlace}
use Rattle.mark_play.proofs.FoundRows.{found_there}

drop_none : (k : ℕ) → drop {A = Row} k [] ≡ []
drop_none zero = refl
drop_none (suc k) = refl

-- what is left of the rows from the one at this place on
abbrev pub rows_from : ℕ → List Row → List Row
rows_from at [] = []
rows_from at (row ∷ rows) = cond (is_at at row) (row ∷ rows) (rows_from at rows)

-- where no place is there twice and none is 0, that is what is left of the list
pub from_here : (rows : List Row) (k : ℕ) → ((at : ℕ) → count_by (is_at at) rows ≤ 1) → has_place 0 rows ≡ false → rows_from (first_place (drop k rows)) rows ≡ drop k rows
from_here [] k once none = ap (λ (l : List Row). rows_from (first_place l) []) (drop_none k) ∙ sym (drop_none k)
from_here (x ∷ xs) zero once none = ap (λ b. cond b (x ∷ xs) (rows_from x.place xs)) (eq-eqb x.place x.place refl)
from_here (x ∷ xs) (suc k) once none =
    ap (λ b. cond b (x ∷ xs) (rows_from p xs)) other ∙ from_here xs k fewer rest
  where
    p : ℕ
    p = first_place (drop k xs)

    rest : has_place 0 xs ≡ false
    rest = go (is_at 0 x) none
      where
        go : (b : Bool) → (b || has_place 0 xs) ≡ false → has_place 0 xs ≡ false
        go true q = absurd (false≢true (sym q))
        go false q = q

    fewer : (at : ℕ) → count_by (is_at at) xs ≤ 1
    fewer at = omega (arith, once at, count-cons (is_at at) x xs)

    other : is_at p x ≡ false
    other = false_from_ne_true (is_at p x) (λ e.
        let same : x.place ≡ p = eqb-true x.place p e in
        let some : p ≢ 0 = λ z. false≢true (sym none ∙ or_left (is_at 0 x) (has_place 0 xs) (eq-eqb x.place 0 (same ∙ z))) in
        let h = left_here xs k p refl some in
        omega (arith, once p, count-cons (is_at p) x xs, counted_some (is_at p) xs h.row h.there (eq-eqb h.row.place p h.place), ap (λ b. cond {A = ℕ} b 1 0) e))

key_is : (key : List ℕ) (row : Row) → has_key key row ≡ true → row.key ≡ key
key_is key row h = (bytes_eq-Decides row.key key).0 h

pub has_own : (key : List ℕ) (row : Row) → row.key ≡ key → has_key key row ≡ true
has_own key row e = (bytes_eq-Decides row.key key).1 e

-- of rows that are apart one has the key
pub one_key : (key : List ℕ) (rows : List Row) → are_apart rows ≡ true → (p q : Row) → Contains rows p → Contains rows q → p.key ≡ key → q.key ≡ key → p ≡ q
one_key key [] apart p q cp cq ep eq = absurd (none_in_nil p cp)
one_key key (x ∷ rows) apart p q cp cq ep eq =
    let parts = and_parts (not (list_any (has_key x.key) rows)) (are_apart rows) apart in
    elim (Contains-cases x rows p cp) [
      | inl a ↦ elim (Contains-cases x rows q cq) [
        | inl b ↦ sym a ∙ b
        | inr b ↦ absurd (later x q parts.0 b (eq ∙ sym (ap (λ (r : Row). r.key) a ∙ ep)))
      ]
      | inr a ↦ elim (Contains-cases x rows q cq) [
        | inl b ↦ absurd (later x p parts.0 a (ep ∙ sym (ap (λ (r : Row). r.key) b ∙ eq)))
        | inr b ↦ one_key key rows parts.1 p q a b ep eq
      ]
    ]
  where
    later : (y z : Row) → not (list_any (has_key y.key) rows) ≡ true → Contains rows z → z.key ≡ y.key → ⊥
    later y z none there e = false≢true (sym (not-true (list_any (has_key y.key) rows) none) ∙ any_from (has_key y.key) rows z there (has_own y.key z e))

pub found_key : (key : List ℕ) (rows : List Row) (row : Row) → find (has_key key) rows ≡ Some row → row.key ≡ key
found_key key [] row h = absurd (cc h)
found_key key (x ∷ rows) row h = go (has_key key x) refl (found_key key rows row) h
  where
    go : (b : Bool) → has_key key x ≡ b → (find (has_key key) rows ≡ Some row → row.key ≡ key) → cond b (Some x) (find (has_key key) rows) ≡ Some row → row.key ≡ key
    go true is later q = let e : x ≡ row = cc q in subst (λ (r : Row). r.key ≡ key) e (key_is key x is)
    go false is later q = later q

pub none_of_key : (key : List ℕ) (rows : List Row) → find (has_key key) rows ≡ None → (row : Row) → Contains rows row → row.key ≡ key → ⊥
none_of_key key [] h row c e = none_in_nil row c
none_of_key key (x ∷ rows) h row c e = go (has_key key x) refl (λ q later. none_of_key key rows q row later e) h
  where
    go : (b : Bool) → has_key key x ≡ b → (find (has_key key) rows ≡ None → Contains rows row → ⊥) → cond b (Some x) (find (has_key key) rows) ≡ None → ⊥
    go true is more q = cc q
    go false is more q = elim (Contains-cases x rows row c) [
      | inl same ↦ false≢true (sym is ∙ (ap (has_key key) same ∙ has_own key row e))
      | inr later ↦ more q later
    ]

-- where a row of the key stands
pub record KeyRow (key : List ℕ) (rows : List Row) (at : ℕ) : Type 0 where
  pub row : Row
  pub there : Contains rows row
  pub place : row.place ≡ at
  pub key_is : row.key ≡ key

pub key_row : (key : List ℕ) (s : Entries) (at : ℕ) → Some at ≡ place_of key s → KeyRow key s.rows at
key_row key s at e = go (find (has_key key) s.rows) refl e
  where
    go : (o : Option Row) → find (has_key key) s.rows ≡ o → Some at ≡ option_map (λ (row : Row). row.place) o → KeyRow key s.rows at
    go None is q = absurd (cc q)
    go (Some row) is q = record {
      row = row;
      there = found_there (has_key key) s.rows row is;
      place = cc q;
      key_is = found_key key s.rows row is;
    }

pub key_gone : (key : List ℕ) (s : Entries) → None ≡ place_of key s → (row : Row) → Contains s.rows row → row.key ≡ key → ⊥
key_gone key s e = go (find (has_key key) s.rows) refl e
  where
    go : (o : Option Row) → find (has_key key) s.rows ≡ o → None ≡ option_map (λ (row : Row). row.place) o → (row : Row) → Contains s.rows row → row.key ≡ key → ⊥
    go None is q = none_of_key key s.rows is
    go (Some row) is q = absurd (cc q)

in_rows : (s : Entries) (w : Window) → HasKeyIn (listed s) w → (row : Row) → Contains s.rows row → row.number ≡ w.number → row.key ≡ w.key
in_rows s w keys row c e = keys row (Contains-append_left s.rows s.removed row c) e

-- no row of the window's key: none has its number
pub gone_place : (s : Entries) (w : Window) → HasKeyIn (listed s) w → None ≡ place_of w.key s → IsRowPlace s.rows w.number 0
gone_place s w keys none = record {
  there = λ some. absurd (some refl);
  none = λ is row c e. key_gone w.key s none row c (in_rows s w keys row c e);
}

-- the row of its key has another number
pub other_place : (s : Entries) (w : Window) (at number : ℕ) → HasKeyIn (listed s) w → are_apart s.rows ≡ true → (r : KeyRow w.key s.rows at) → number ≡ r.row.number → number ≢ w.number
    → IsRowPlace s.rows w.number 0
other_place s w at number keys apart r is other = record {
  there = λ some. absurd (some refl);
  none = λ z row c e.
      let same = one_key w.key s.rows apart row r.row c r.there (in_rows s w keys row c e) r.key_is in
      other (is ∙ (ap (λ (q : Row). q.number) (sym same) ∙ e));
}

-- a row that has the number
pub its_place : (rows : List Row) (number n at : ℕ) (row : Row) → Contains rows row → row.place ≡ at → n ≡ row.number → n ≡ number → has_place 0 rows ≡ false → IsRowPlace rows number at
its_place rows number n at row there place is same none = record {
  there = λ some. (row, there, sym is ∙ same, place);
  none = λ z. absurd (false≢true (sym none ∙ any_from (is_at 0) rows row there (eq-eqb row.place 0 (place ∙ z))));
}

-- among the rows, or else among the removed ones
pub first_of_both : (s : Entries) (number at : ℕ) → at ≢ 0 → IsRowPlace s.rows number at → IsRowPlace (listed s) number at
first_of_both s number at some h = record {
  there = λ z. let r = h.there z in (r.0, Contains-append_left s.rows s.removed r.0 r.1, r.2, r.3);
  none = λ z. absurd (some z);
}

pub second_of_both : (s : Entries) (number at : ℕ) → IsRowPlace s.rows number 0 → IsRowPlace s.removed number at → IsRowPlace (listed s) number at
second_of_both s number at first h = record {
  there = λ z. let r = h.there z in (r.0, Contains-append_right s.rows s.removed r.0 r.1, r.2, r.3);
  none = λ z row c e. elim (Contains-append_cases s.rows s.removed row c) [
    | inl l ↦ first.none refl row l e
    | inr l ↦ h.none z row l e
  ];
}

pub rows_zero : (s : Entries) → has_place 0 (listed s) ≡ false → has_place 0 s.rows ≡ false
rows_zero s none = false_from_ne_true (has_place 0 s.rows) (λ t. let r = any_there (is_at 0) s.rows t in false≢true (sym none ∙ any_from (is_at 0) (s.rows ++ s.removed) r.0 (Contains-append_left s.rows s.removed r.0 r.1) r.2))

pub removed_zero : (s : Entries) → has_place 0 (listed s) ≡ false → has_place 0 s.removed ≡ false
removed_zero s none = false_from_ne_true (has_place 0 s.removed) (λ t. let r = any_there (is_at 0) s.removed t in false≢true (sym none ∙ any_from (is_at 0) (s.rows ++ s.removed) r.0 (Contains-append_right s.rows s.removed r.0 r.1) r.2))

-- a walk over the removed rows passes one that has another number
pub passed_one : (rows : List Row) (k n number : ℕ) (first : Row) → drop k rows ≡ first ∷ drop (k + 1) rows → n ≡ first.number → n ≢ number
    → (row : Row) → row.number ≡ number → Contains (drop k rows) row → Contains (drop (k + 1) rows) row
passed_one rows k n number first left is other row e c = elim (Contains-cases first (drop (k + 1) rows) row (subst (λ (l : List Row). Contains l row) left c)) [
  | inl same ↦ absurd (other (is ∙ (ap (λ (r : Row). r.number) same ∙ e)))
  | inr later ↦ later
]

-- at its end it has passed all
pub passed_all : (rows : List Row) (k number : ℕ) → drop k rows ≡ [] → ((row : Row) → Contains rows row → row.number ≡ number → Contains (drop k rows) row) → IsRowPlace rows number 0
passed_all rows k number none later = record {
  there = λ some. absurd (some refl);
  none = λ z row c e. none_in_nil row (subst (λ (l : List Row). Contains l row) none (later row c e));
}

-- the walk gets on
pub shorter : (rows : List Row) (k at next : ℕ) (first : Row) → ((b : ℕ) → count_by (is_at b) rows ≤ 1) → has_place 0 rows ≡ false → at ≡ first_place (drop k rows) → next ≡ first_place (drop (k + 1) rows)
    → drop k rows ≡ first ∷ drop (k + 1) rows → length (rows_from next rows) < length (rows_from at rows)
shorter rows k at next first once none is then left =
    let a : rows_from at rows ≡ first ∷ drop (k + 1) rows = ap (λ p. rows_from p rows) is ∙ (from_here rows k once none ∙ left) in
    let b : rows_from next rows ≡ drop (k + 1) rows = ap (λ p. rows_from p rows) then ∙ from_here rows (k + 1) once none in
    omega (arith, ap length a, ap length b)
