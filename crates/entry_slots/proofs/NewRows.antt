-- A new row among the rows, and in its chain.
use Rattle.std.proofs.Common.{◌≡◌, ◌≢◌, ◌⊎◌, inl, inr, ℕ, ◌+◌, ◌≤◌, Bool, true, false, not, cond, eqb, List, [], ◌∷◌, ◌++◌, map, refl, sym, ap, ◌∙◌, subst, arith}
use Rattle.std.proofs.lemmas.Bool.{cases_Bool, and_parts, not-true, eqb-true, eq-eqb, ne_eqb, false≢true, or_cases, or_parts, or_from, false_from_ne_true}
use Rattle.std.proofs.lemmas.List.{append-nil}
use Rattle.std.proofs.lemmas.List.Folds.{list_any-append}
use Rattle.std.proofs.lemmas.List.Elements.{Contains-append_cases, filter-append}
use Rattle.std.proofs.lemmas.Slice.Eq.{bytes_eq-Decides}
use Rattle.std.specs.List.{Contains, filter, count_by, list_any}
use Rattle.apcu_model.specs.Cache.{Row, has_key}
use Rattle.apcu_model.specs.Change.{with_row}
use Rattle.apcu_model.specs.Rows.{are_apart}
use Rattle.apcu_model.specs.SlotOrder.{is_in_slot, slot_of}
use Rattle.entry_slots.specs.Entries.{Entries, chain_of}
use Rattle.entry_slots.specs.Lower.{Laws}
use Rattle.seg_words.specs.Members.{Contains-cases, Contains-first, Contains-later, none_in_nil, count-cons, count-append, counted_some}

-- ---- lists

-- the rows that are filtered out, counted with those that are kept
pub count_split : {X : Type 0} (t p : X → Bool) (xs : List X) → count_by t (filter p xs) + count_by t (filter (λ x. not (p x)) xs) ≡ count_by t xs
count_split t p [] = refl
count_split t p (x ∷ xs) = elim (cases_Bool (p x)) [
  | inl y ↦ rw y (omega (arith, count-cons t x (filter p xs), count-cons t x xs, count_split t p xs))
  | inr n ↦ rw n (omega (arith, count-cons t x (filter (λ z. not (p z)) xs), count-cons t x xs, count_split t p xs))
]

pub filter_none : {X : Type 0} (p : X → Bool) (xs : List X) → list_any p xs ≡ false → filter p xs ≡ []
filter_none p [] h = refl
filter_none p (x ∷ xs) h = let parts = or_parts (p x) (list_any p xs) h in rw parts.0 (filter_none p xs parts.1)

-- where exactly one passes, it is what is kept
pub only_passes : {X : Type 0} (t p : X → Bool) (xs : List X) (x : X) → Contains xs x → p x ≡ true → count_by p xs ≤ 1 → count_by t (filter p xs) ≡ cond (t x) 1 0
only_passes t p [] x c y few = absurd (none_in_nil x c)
only_passes t p (z ∷ zs) x c y few = elim (Contains-cases z zs x c) [
  | inl here ↦
      let at : p z ≡ true = ap p here ∙ y in
      let one : cond {A = ℕ} (p z) 1 0 ≡ 1 = ap (λ (b : Bool). cond {A = ℕ} b 1 0) at in
      let rest : count_by p zs ≡ 0 = omega (arith, count-cons p z zs, few) in
      let same : cond {A = ℕ} (t z) 1 0 ≡ cond (t x) 1 0 = ap (λ v. cond {A = ℕ} (t v) 1 0) here in
      let none : filter p zs ≡ [] = filter_none p zs (none_counted p zs rest) in
      rw (at, none) (omega (arith, count-cons t z [], same))
  | inr later ↦
      let other : p z ≡ false = false_from_ne_true (p z) (λ q.
      let one : cond {A = ℕ} (p z) 1 0 ≡ 1 = ap (λ (b : Bool). cond {A = ℕ} b 1 0) q in
      omega (arith, count-cons p z zs, few, counted_some p zs x later y)) in
      rw other (only_passes t p zs x later y (omega (arith, count-cons p z zs, few)))
]
  where
    none_counted : {X : Type 0} (p : X → Bool) (xs : List X) → count_by p xs ≡ 0 → list_any p xs ≡ false
    none_counted p [] h = refl
    none_counted p (x ∷ xs) h = elim (cases_Bool (p x)) [
      | inl y ↦ (let one : cond {A = ℕ} (p x) 1 0 ≡ 1 = ap (λ (b : Bool). cond {A = ℕ} b 1 0) y in absurd (omega (arith, count-cons p x xs, h)))
      | inr n ↦ or_from (p x) (list_any p xs) n (none_counted p xs (omega (arith, count-cons p x xs, h)))
    ]

-- ---- one row of a key

pub key_is : (key : List ℕ) (row : Row) → has_key key row ≡ true → row.key ≡ key
key_is key row h = (bytes_eq-Decides row.key key).0 h

key_other : (row other : Row) → has_key row.key other ≡ false → has_key other.key row ≡ false
key_other row other h =
    false_from_ne_true (has_key other.key row) (λ e. false≢true (sym h ∙ (bytes_eq-Decides other.key row.key).1 (sym (key_is other.key row e))))

-- what comes in the place of each row
abbrev replaced : Row → Row → Row
replaced new row = cond (has_key new.key row) new row

replaced_key : (new row : Row) → (replaced new row).key ≡ row.key
replaced_key new row = elim (cases_Bool (has_key new.key row)) [
  | inl y ↦ rw y (sym (key_is new.key row y))
  | inr n ↦ rw n refl
]

replaced_none : (new : Row) (rows : List Row) → list_any (has_key new.key) rows ≡ false → map (replaced new) rows ≡ rows
replaced_none new [] h = refl
replaced_none new (row ∷ rows) h =
    let parts = or_parts (has_key new.key row) (list_any (has_key new.key) rows) h in
    rw (parts.0, replaced_none new rows parts.1) refl

-- rows apart from one of them have another key
pub apart_split : (front : List Row) (row : Row) (back : List Row) → are_apart (front ++ row ∷ back) ≡ true → (list_any (has_key row.key) front ≡ false) × (list_any (has_key row.key) back ≡ false)
apart_split [] row back h = (refl, not-true (list_any (has_key row.key) back) (and_parts (not (list_any (has_key row.key) back)) (are_apart back) h).0)
apart_split (x ∷ front) row back h =
    let both = and_parts (not (list_any (has_key x.key) (front ++ row ∷ back))) (are_apart (front ++ row ∷ back)) h in
    let rest = apart_split front row back both.1 in
    let none : list_any (has_key x.key) (front ++ row ∷ back) ≡ false = not-true (list_any (has_key x.key) (front ++ row ∷ back)) both.0 in
    let parts = or_parts (list_any (has_key x.key) front) (list_any (has_key x.key) (row ∷ back)) (sym (list_any-append (has_key x.key) front (row ∷ back)) ∙ none) in
    let at = or_parts (has_key x.key row) (list_any (has_key x.key) back) parts.1 in
    (or_from (has_key row.key x) (list_any (has_key row.key) front) (key_other x row at.0) rest.0, rest.1)

-- replacing among rows, counted
pub count_replaced : (t : Row → Bool) (new : Row) (rows : List Row) → are_apart rows ≡ true → list_any (has_key new.key) rows ≡ true
    → count_by t (map (replaced new) rows) + count_by t (filter (has_key new.key) rows) ≡ count_by t rows + cond (t new) 1 0
count_replaced t new [] h some = absurd (false≢true some)
count_replaced t new (row ∷ rows) h some =
    let both = and_parts (not (list_any (has_key row.key) rows)) (are_apart rows) h in
    elim (cases_Bool (has_key new.key row)) [
      | inl y ↦
          let same : row.key ≡ new.key = key_is new.key row y in
          let none : list_any (has_key new.key) rows ≡ false = subst (λ k. list_any (has_key k) rows ≡ false) same (not-true (list_any (has_key row.key) rows) both.0) in
          rw (y, replaced_none new rows none, filter_none (has_key new.key) rows none) (omega (arith, count-cons t new rows, count-cons t row rows, count-cons t row []))
      | inr n ↦
          let later : list_any (has_key new.key) rows ≡ true = elim (or_cases (has_key new.key row) (list_any (has_key new.key) rows) some) [ inl y ↦ absurd (false≢true (sym n ∙ y)) | inr l ↦ l ] in
          rw n (omega (arith, count-cons t row (map (replaced new) rows), count-cons t row rows, count_replaced t new rows both.1 later))
    ]

pub count_with_row : (t : Row → Bool) (new : Row) (rows : List Row) → are_apart rows ≡ true
    → count_by t (with_row new rows) + count_by t (filter (has_key new.key) rows) ≡ count_by t rows + cond (t new) 1 0
count_with_row t new rows h = elim (cases_Bool (list_any (has_key new.key) rows)) [
  | inl some ↦ rw some (count_replaced t new rows h some)
  | inr none ↦ rw (none, filter_none (has_key new.key) rows none) (omega (arith, count-append t rows (new ∷ []), count-cons t new []))
]

pub with_row_there : (new : Row) (rows : List Row) (x : Row) → Contains (with_row new rows) x → (x ≡ new) ⊎ Contains rows x
with_row_there new rows x = elim (list_any (has_key new.key) rows) as (λ b. Contains (cond b (map (replaced new) rows) (rows ++ new ∷ [])) x → (x ≡ new) ⊎ Contains rows x) [
  | true ↦ (λ c. mapped rows c)
  | false ↦ (λ c. elim (Contains-append_cases rows (new ∷ []) x c) [
    | inl l ↦ inr l
    | inr r ↦ elim (Contains-cases new [] x r) [ inl here ↦ inl (sym here) | inr n ↦ absurd (none_in_nil x n) ]
  ])
]
  where
    mapped : (rows : List Row) → Contains (map (replaced new) rows) x → (x ≡ new) ⊎ Contains rows x
    mapped [] c = absurd (none_in_nil x c)
    mapped (row ∷ rows) c = elim (Contains-cases (replaced new row) (map (replaced new) rows) x c) [
      | inl here ↦ elim (cases_Bool (has_key new.key row)) [
        | inl y ↦ inl (sym here ∙ ap (λ (b : Bool). cond b new row) y)
        | inr n ↦ inr (subst (λ z. Contains (row ∷ rows) z) (sym (ap (λ (b : Bool). cond b new row) n) ∙ here) (Contains-first row rows))
      ]
      | inr later ↦ elim (mapped rows later) [ inl e ↦ inl e | inr l ↦ inr (Contains-later row rows x l) ]
    ]

-- ---- chains

slot_replaced : (s : Entries) (slot : ℕ) (new : Row) (rows : List Row) → filter (is_in_slot s.conf slot) (map (replaced new) rows) ≡ map (replaced new) (filter (is_in_slot s.conf slot) rows)
slot_replaced s slot new [] = refl
slot_replaced s slot new (row ∷ rows) =
    let same : is_in_slot s.conf slot (replaced new row) ≡ is_in_slot s.conf slot row = ap (λ k. eqb (slot_of s.conf k) slot) (replaced_key new row) in
    elim (cases_Bool (is_in_slot s.conf slot row)) [
      | inl y ↦ rw (same, y) (ap (λ rs. replaced new row ∷ rs) (slot_replaced s slot new rows))
      | inr n ↦ rw (same, n) (slot_replaced s slot new rows)
    ]

-- no row of another slot has the key
none_elsewhere : (s : Entries) (slot : ℕ) (key : List ℕ) (rows : List Row) → slot_of s.conf key ≢ slot → list_any (has_key key) (filter (is_in_slot s.conf slot) rows) ≡ false
none_elsewhere s slot key [] other = refl
none_elsewhere s slot key (row ∷ rows) other = elim (cases_Bool (is_in_slot s.conf slot row)) [
  | inl y ↦ rw y (or_from (has_key key row) (list_any (has_key key) (filter (is_in_slot s.conf slot) rows))
      (false_from_ne_true (has_key key row) (λ q. other (ap (slot_of s.conf) (sym (key_is key row q)) ∙ eqb-true (slot_of s.conf row.key) slot y)))
      (none_elsewhere s slot key rows other))
  | inr n ↦ rw n (none_elsewhere s slot key rows other)
]

pub other_slot : (s : Entries) (slot : ℕ) (new : Row) → slot_of s.conf new.key ≢ slot → filter (is_in_slot s.conf slot) (with_row new s.rows) ≡ chain_of s slot
other_slot s slot new other = elim (cases_Bool (list_any (has_key new.key) s.rows)) [
  | inl some ↦ rw some (slot_replaced s slot new s.rows ∙ replaced_none new (chain_of s slot) (none_elsewhere s slot new.key s.rows other))
  | inr none ↦
      let out : is_in_slot s.conf slot new ≡ false = ne_eqb (slot_of s.conf new.key) slot other in
      rw none (filter-append (is_in_slot s.conf slot) s.rows (new ∷ []) ∙ (rw out (append-nil (chain_of s slot))))
]

-- last in its chain
pub own_slot_last : (s : Entries) (slot : ℕ) (new : Row) → slot_of s.conf new.key ≡ slot → list_any (has_key new.key) s.rows ≡ false → filter (is_in_slot s.conf slot) (with_row new s.rows) ≡ chain_of s slot ++ new ∷ []
own_slot_last s slot new e none =
    let in' : is_in_slot s.conf slot new ≡ true = eq-eqb (slot_of s.conf new.key) slot e in
    rw none (filter-append (is_in_slot s.conf slot) s.rows (new ∷ []) ∙ (rw in' refl))

map_middle : (new : Row) (front : List Row) (old : Row) (more : List Row) → list_any (has_key new.key) front ≡ false → has_key new.key old ≡ true → list_any (has_key new.key) more ≡ false → map (replaced new) (front ++ old ∷ more) ≡ front ++ new ∷ more
map_middle new [] old more nf y nm = rw (y, replaced_none new more nm) refl
map_middle new (x ∷ front) old more nf y nm =
    let parts = or_parts (has_key new.key x) (list_any (has_key new.key) front) nf in
    rw parts.0 (ap (λ rs. x ∷ rs) (map_middle new front old more parts.1 y nm))

-- in the place of the old row
pub own_slot_over : Laws → (s : Entries) (slot : ℕ) (new : Row) (front : List Row) (old : Row) (more : List Row) → are_apart s.rows ≡ true → list_any (has_key new.key) s.rows ≡ true → chain_of s slot ≡ front ++ old ∷ more → has_key new.key old ≡ true
    → filter (is_in_slot s.conf slot) (with_row new s.rows) ≡ front ++ new ∷ more
own_slot_over law s slot new front old more apart some split y =
    let chain : are_apart (front ++ old ∷ more) ≡ true = ap are_apart (sym split) ∙ law.rows.picked (is_in_slot s.conf slot) s.rows apart in
    let same : old.key ≡ new.key = key_is new.key old y in
    let none = apart_split front old more chain in
    rw some (slot_replaced s slot new s.rows ∙ (ap (map (replaced new)) split
    ∙ map_middle new front old more (subst (λ k. list_any (has_key k) front ≡ false) same none.0) y (subst (λ k. list_any (has_key k) more ≡ false) same none.1)))
