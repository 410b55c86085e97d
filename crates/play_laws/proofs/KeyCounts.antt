-- How often a key stands among rows, in one slot and in a range of slots.
use Rattle.std.proofs.Common.{◌≡◌, ◌⊎◌, inl, inr, ℕ, zero, suc, ◌+◌, ◌<◌, ◌≤◌, ◌&&◌, Bool, true, false, not, cond, List, [], ◌∷◌, length, map, filter, refl, sym, ap, ◌∙◌, subst, arith}
use Rattle.std.specs.Prelude.{count_by, Option}
use Rattle.std.specs.List.{flat_map, range_with_len, list_any}
use Rattle.std.proofs.lemmas.Bool.{and_parts, or_parts, not-true, cases_Bool, cases_eq, eq-eqb, ne_eqb}
use Rattle.std.proofs.lemmas.List.Folds.{fold-map}
use Rattle.std.proofs.lemmas.List.Sums.{length-filter}
use Rattle.std.proofs.lemmas.Slice.Eq.{bytes_eq-Decides}
use Rattle.seg_words.specs.Members.{count-cons, count-append, counted_some, any_there, filter_alike, filter_none, filter_then}
use Rattle.apcu_model.specs.declared.searching.Pattern.{Pattern}
use Rattle.apcu_model.specs.Cache.{Row, Cache, has_key}
use Rattle.apcu_model.specs.Chunks.{is_item, slot_items}
use Rattle.apcu_model.specs.Rows.{are_apart}
use Rattle.apcu_model.specs.SlotOrder.{is_in_slot, slot_of}

-- ---- counts

count-filter : {X : Type 0} (p q : X → Bool) (xs : List X) → count_by p (filter q xs) ≡ count_by (λ x. q x && p x) xs
count-filter p q xs =
    sym (length-filter p (filter q xs)) ∙ (ap length (filter_then q p xs) ∙ length-filter (λ x. q x && p x) xs)

count_alike : {X : Type 0} (p q : X → Bool) (xs : List X) → ((x : X) → p x ≡ q x) → count_by p xs ≡ count_by q xs
count_alike p q xs same =
    sym (length-filter p xs) ∙ (ap length (filter_alike p q xs (λ x c. same x)) ∙ length-filter q xs)

count_none : {X : Type 0} (p : X → Bool) (xs : List X) → ((x : X) → p x ≡ false) → count_by p xs ≡ 0
count_none p xs none =
    sym (length-filter p xs) ∙ ap length (filter_none p xs (λ x c. none x))

pub count-map : {X Y : Type 0} (p : Y → Bool) (f : X → Y) (xs : List X) → count_by p (map f xs) ≡ count_by (λ x. p (f x)) xs
count-map p f xs = fold-map (λ (n : ℕ) y. n + cond (p y) 1 0) f 0 xs

-- ---- the rows of a key

-- the row has this key and is an item
abbrev pub is_of : Option Pattern → ℕ → List ℕ → Row → Bool
is_of wanted t key row = has_key key row && is_item wanted t row

key_is : (key : List ℕ) (row : Row) → has_key key row ≡ true → row.key ≡ key
key_is key row h = (bytes_eq-Decides row.key key).0 h

-- where no row has the key
none_of_key : (key : List ℕ) (q : Row → Bool) (rows : List Row) → list_any (has_key key) rows ≡ false → count_by (λ row. has_key key row && q row) rows ≡ 0
none_of_key key q [] none = refl
none_of_key key q (row ∷ rows) none =
    let parts = or_parts (has_key key row) (list_any (has_key key) rows) none in
    let here : cond {A = ℕ} (has_key key row && q row) 1 0 ≡ 0 = ap (λ b. cond {A = ℕ} (b && q row) 1 0) parts.0 in
    omega (arith, count-cons (λ row. has_key key row && q row) row rows, none_of_key key q rows parts.1)

-- of rows that are apart, one at most has it
pub one_of_key : (key : List ℕ) (q : Row → Bool) (rows : List Row) → are_apart rows ≡ true → count_by (λ row. has_key key row && q row) rows ≤ 1
one_of_key key q [] apart = omega arith
one_of_key key q (row ∷ rows) apart =
    let parts = and_parts (not (list_any (has_key row.key) rows)) (are_apart rows) apart in
    let more = count-cons (λ row. has_key key row && q row) row rows in
    elim (cases_Bool (has_key key row)) [
      | inl has ↦
          let none : list_any (has_key key) rows ≡ false = subst (λ k. list_any (has_key k) rows ≡ false) (key_is key row has) (not-true (list_any (has_key row.key) rows) parts.0) in
          omega (arith, more, none_of_key key q rows none, at_most (has_key key row && q row))
      | inr other ↦
          let here : cond {A = ℕ} (has_key key row && q row) 1 0 ≡ 0 = ap (λ b. cond {A = ℕ} (b && q row) 1 0) other in
          omega (arith, more, one_of_key key q rows parts.1)
    ]
  where
    at_most : (b : Bool) → cond {A = ℕ} b 1 0 ≤ 1
    at_most true = omega arith
    at_most false = omega arith

pub some_of_key : (p : Row → Bool) (rows : List Row) → list_any p rows ≡ true → 1 ≤ count_by p rows
some_of_key p rows any = let r = any_there p rows any in counted_some p rows r.0 r.1 r.2

-- ---- the rows of a slot

in_turn : (slot item has : Bool) → (has ≡ true → slot ≡ true) → (slot && (item && has)) ≡ (has && item)
in_turn true true true own = refl
in_turn true true false own = refl
in_turn true false true own = refl
in_turn true false false own = refl
in_turn false item true own = let wrong = own refl in absurd cc
in_turn false true false own = refl
in_turn false false false own = refl

elsewhere : (slot item has : Bool) → (has ≡ true → slot ≡ false) → (slot && (item && has)) ≡ false
elsewhere false item has other = refl
elsewhere true false has other = refl
elsewhere true true false other = refl
elsewhere true true true other = let wrong = other refl in absurd cc

slot_count : (wanted : Option Pattern) (t : ℕ) (c : Cache) (key : List ℕ) (slot : ℕ)
    → count_by (has_key key) (slot_items wanted t c slot) ≡ count_by (λ row. is_in_slot c.conf slot row && (is_item wanted t row && has_key key row)) c.rows
slot_count wanted t c key slot =
    count-filter (has_key key) (is_item wanted t) (filter (is_in_slot c.conf slot) c.rows)
    ∙ count-filter (λ row. is_item wanted t row && has_key key row) (is_in_slot c.conf slot) c.rows

-- in its own slot a key stands as often as among all rows
pub own_slot : (wanted : Option Pattern) (t : ℕ) (c : Cache) (key : List ℕ)
    → count_by (has_key key) (slot_items wanted t c (slot_of c.conf key)) ≡ count_by (is_of wanted t key) c.rows
own_slot wanted t c key =
    let slot = slot_of c.conf key in
    slot_count wanted t c key slot
    ∙ count_alike (λ row. is_in_slot c.conf slot row && (is_item wanted t row && has_key key row)) (is_of wanted t key) c.rows
    (λ row. in_turn (is_in_slot c.conf slot row) (is_item wanted t row) (has_key key row)
    (λ has. eq-eqb (slot_of c.conf row.key) slot (ap (slot_of c.conf) (key_is key row has))))

-- and in no other
pub other_slot : (wanted : Option Pattern) (t : ℕ) (c : Cache) (key : List ℕ) (slot : ℕ) → (slot ≡ slot_of c.conf key → ⊥)
    → count_by (has_key key) (slot_items wanted t c slot) ≡ 0
other_slot wanted t c key slot other =
    slot_count wanted t c key slot
    ∙ count_none (λ row. is_in_slot c.conf slot row && (is_item wanted t row && has_key key row)) c.rows
    (λ row. elsewhere (is_in_slot c.conf slot row) (is_item wanted t row) (has_key key row)
    (λ has. ne_eqb (slot_of c.conf row.key) slot (λ e. other (sym e ∙ ap (slot_of c.conf) (key_is key row has)))))

-- ---- a range of slots

-- where nothing is counted but at one number
pub range_without : {X : Type 0} (p : X → Bool) (f : ℕ → List X) (s from n : ℕ) → ((k : ℕ) → (k ≡ s → ⊥) → count_by p (f k) ≡ 0)
    → (s < from) ⊎ (from + n ≤ s) → count_by p (flat_map f (range_with_len from n)) ≡ 0
range_without p f s from zero others out = refl
range_without p f s from (suc n) others out =
    let joined = count-append p (f from) (flat_map f (range_with_len (from + 1) n)) in
    elim out [
      | inl before ↦
          let here = others from (λ e. omega (arith, before, e)) in
          let later = range_without p f s (from + 1) n others (inl (omega (arith, before))) in
          omega (arith, joined, here, later)
      | inr past ↦
          let here = others from (λ e. omega (arith, past, e)) in
          let later = range_without p f s (from + 1) n others (inr (omega (arith, past))) in
          omega (arith, joined, here, later)
    ]

pub range_with : {X : Type 0} (p : X → Bool) (f : ℕ → List X) (s from n : ℕ) → ((k : ℕ) → (k ≡ s → ⊥) → count_by p (f k) ≡ 0)
    → from ≤ s → s < from + n → count_by p (flat_map f (range_with_len from n)) ≡ count_by p (f s)
range_with p f s from zero others low high = absurd (omega (arith, low, high))
range_with p f s from (suc n) others low high =
    let joined = count-append p (f from) (flat_map f (range_with_len (from + 1) n)) in
    elim (cases_eq from s) [
      | inl same ↦
          let later = range_without p f s (from + 1) n others (inl (omega (arith, same))) in
          let here : count_by p (f from) ≡ count_by p (f s) = ap (λ k. count_by p (f k)) same in
          omega (arith, joined, here, later)
      | inr other ↦
          let here = others from other in
          let past : from + 1 ≤ s = omega (arith, low, other) in
          let later = range_with p f s (from + 1) n others past (omega (arith, high)) in
          omega (arith, joined, here, later)
    ]
