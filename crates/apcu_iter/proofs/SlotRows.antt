-- The rows of some slots, slot by slot.
use Rattle.std.proofs.Common.{◌≡◌, ◌∙◌, ◌⊎◌, inl, inr, ℕ, zero, suc, ◌+◌, ◌-◌, ◌<◌, ◌≤◌, ◌&&◌}
use Rattle.std.proofs.Common.{Bool, true, false, List, [], ◌∷◌, ◌++◌, length, filter, refl, sym, ap}
use Rattle.std.proofs.Common.{arith, append_assoc}
use Rattle.std.specs.Prelude.{sum_by, nat_le, nat_lt}
use Rattle.std.specs.List.{flat_map, range_with_len}
use Rattle.std.proofs.lemmas.Bool.{eqb-true}
use Rattle.std.proofs.lemmas.Bool.Decides.{nat_tests}
use Rattle.std.proofs.lemmas.List.{append-nil}
use Rattle.std.proofs.lemmas.List.Sums.{sum_by-cons}
use Rattle.seg_words.specs.Members.{filter_alike, filter_then}
use Rattle.apcu_model.specs.declared.conf.Conf.{Conf}
use Rattle.apcu_model.specs.Cache.{Row}
use Rattle.apcu_model.specs.SlotOrder.{slot_of, is_in_slot, in_slot_order}
use Rattle.entry_slots.specs.Sums.{all_slots}

-- ---- slots

pub flat_last : {X : Type 0} (f : ℕ → List X) (n a k : ℕ) → a + n ≡ k
    → flat_map f (range_with_len a (suc n)) ≡ flat_map f (range_with_len a n) ++ f k
flat_last f zero a k e = ap (λ j. f j ++ []) (omega (arith, e)) ∙ append-nil (f k)
flat_last f (suc n) a k e =
    ap (λ l. f a ++ l) (flat_last f n (a + 1) k (omega (arith, e)))
    ∙ sym (append_assoc (f a) (flat_map f (range_with_len (a + 1) n)) (f k))

flat_parts : {X : Type 0} (f : ℕ → List X) (m n a k : ℕ) → a + m ≡ k
    → flat_map f (range_with_len a (m + n))
    ≡ flat_map f (range_with_len a m) ++ flat_map f (range_with_len k n)
flat_parts f zero n a k e =
    let none : 0 + n ≡ n = omega arith in
    let same : a ≡ k = omega (arith, e) in
    ap (λ j. flat_map f (range_with_len a j)) none
    ∙ ap (λ j. flat_map f (range_with_len j n)) same
flat_parts f (suc m) n a k e =
    let many : suc m + n ≡ suc (m + n) = omega arith in
    ap (λ j. flat_map f (range_with_len a j)) many
    ∙ ap (λ l. f a ++ l) (flat_parts f m n (a + 1) k (omega (arith, e)))
    ∙ sym (append_assoc (f a) (flat_map f (range_with_len (a + 1) m)) (flat_map f (range_with_len k n)))

flat_none : {X : Type 0} (f : ℕ → List X) (n a : ℕ)
    → ((k : ℕ) → a ≤ k → k < a + n → f k ≡ []) → flat_map f (range_with_len a n) ≡ []
flat_none f zero a none = refl
flat_none f (suc n) a none =
    ap (λ l. l ++ flat_map f (range_with_len (a + 1) n)) (none a (omega arith) (omega arith))
    ∙ flat_none f n (a + 1) (λ k low high. none k (omega (arith, low)) (omega (arith, high)))

flat_alike : {X : Type 0} (f h : ℕ → List X) (n a : ℕ)
    → ((k : ℕ) → a ≤ k → k < a + n → f k ≡ h k)
    → flat_map f (range_with_len a n) ≡ flat_map h (range_with_len a n)
flat_alike f h zero a same = refl
flat_alike f h (suc n) a same =
    ap (λ l. l ++ flat_map f (range_with_len (a + 1) n)) (same a (omega arith) (omega arith))
    ∙ ap (λ l. h a ++ l) (flat_alike f h n (a + 1) (λ k low high.
    same k (omega (arith, low)) (omega (arith, high))))

-- ---- their rows

-- the row passes, and its slot is one from a first on to before another
abbrev pub is_between : (Row → Bool) → Conf → ℕ → ℕ → Row → Bool
is_between p conf from upto row =
    p row && nat_le from (slot_of conf row.key) && nat_lt (slot_of conf row.key) upto

within_is : (b i low high : Bool) → (i ≡ true → low ≡ true) → (i ≡ true → high ≡ true)
    → ((b && low && high) && i) ≡ (i && b)
within_is true true low high l h = rw (l refl, h refl) refl
within_is true false true true l h = refl
within_is true false true false l h = refl
within_is true false false high l h = refl
within_is false true low high l h = refl
within_is false false low high l h = refl

without_is : (b i low high : Bool) → (i ≡ true → (low && high) ≡ false)
    → ((b && low && high) && i) ≡ false
without_is true true true true out = out refl
without_is true true true false out = refl
without_is true true false high out = refl
without_is true false true true out = refl
without_is true false true false out = refl
without_is true false false high out = refl
without_is false true low high out = refl
without_is false false low high out = refl

slot_within : (p : Row → Bool) (conf : Conf) (from upto slot : ℕ) (rows : List Row) → from ≤ slot
    → slot < upto
    → filter (is_in_slot conf slot) (filter (is_between p conf from upto) rows)
    ≡ filter p (filter (is_in_slot conf slot) rows)
slot_within p conf from upto slot rows low high =
    filter_then (is_between p conf from upto) (is_in_slot conf slot) rows
    ∙ filter_alike (λ row. is_between p conf from upto row && is_in_slot conf slot row)
    (λ row. is_in_slot conf slot row && p row) rows
    (λ row c. within_is (p row) (is_in_slot conf slot row) (nat_le from (slot_of conf row.key))
    (nat_lt (slot_of conf row.key) upto)
    (λ is. let e = eqb-true (slot_of conf row.key) slot is in grind (arith, nat_tests, e, low))
    (λ is. let e = eqb-true (slot_of conf row.key) slot is in grind (arith, nat_tests, e, high)))
    ∙ sym (filter_then (is_in_slot conf slot) p rows)

slot_outside : (p : Row → Bool) (conf : Conf) (from upto slot : ℕ) (rows : List Row)
    → (slot < from) ⊎ (upto ≤ slot)
    → filter (is_in_slot conf slot) (filter (is_between p conf from upto) rows) ≡ []
slot_outside p conf from upto slot rows out =
    filter_then (is_between p conf from upto) (is_in_slot conf slot) rows
    ∙ filter_alike (λ row. is_between p conf from upto row && is_in_slot conf slot row)
    (λ row. false) rows
    (λ row c. without_is (p row) (is_in_slot conf slot row) (nat_le from (slot_of conf row.key))
    (nat_lt (slot_of conf row.key) upto)
    (λ is. let e = eqb-true (slot_of conf row.key) slot is in outside (slot_of conf row.key) e))
    ∙ nothing rows
  where
    never : (b : Bool) → (b && false) ≡ false
    never true = refl
    never false = refl

    outside : (k : ℕ) → k ≡ slot → (nat_le from k && nat_lt k upto) ≡ false
    outside k e = elim out [
      | inl low ↦
          let below : nat_le from k ≡ false = grind (arith, nat_tests, e, low) in rw below refl
      | inr high ↦
          let past : nat_lt k upto ≡ false = grind (arith, nat_tests, e, high) in
          rw past (never (nat_le from k))
    ]

    nothing : (rows : List Row) → filter (λ (row : Row). false) rows ≡ []
    nothing [] = refl
    nothing (row ∷ rows) = nothing rows

-- the rows of some slots are those rows by slot and place
pub between_is : (p : Row → Bool) (conf : Conf) (from upto : ℕ) (rows : List Row) → from ≤ upto
    → upto ≤ conf.slots
    → flat_map (λ slot. filter p (filter (is_in_slot conf slot) rows))
    (range_with_len from (upto - from))
    ≡ in_slot_order conf (filter (is_between p conf from upto) rows)
between_is p conf from upto rows low high =
    let f : ℕ → List Row =
    λ slot. filter (is_in_slot conf slot) (filter (is_between p conf from upto) rows) in
    let h : ℕ → List Row = λ slot. filter p (filter (is_in_slot conf slot) rows) in
    let all : from + ((upto - from) + (conf.slots - upto)) ≡ conf.slots = omega (arith, low, high) in
    sym (ap (λ n. flat_map f (range_with_len 0 n)) (sym all)
    ∙ flat_parts f from ((upto - from) + (conf.slots - upto)) 0 from (omega arith)
    ∙ ap (λ l. l ++ flat_map f (range_with_len from ((upto - from) + (conf.slots - upto))))
    (flat_none f from 0 (λ k lo hi. slot_outside p conf from upto k rows (inl (omega (arith, hi)))))
    ∙ flat_parts f (upto - from) (conf.slots - upto) from upto (omega (arith, low))
    ∙ ap (λ l. flat_map f (range_with_len from (upto - from)) ++ l)
    (flat_none f (conf.slots - upto) upto (λ k lo hi.
    slot_outside p conf from upto k rows (inr lo)))
    ∙ append-nil (flat_map f (range_with_len from (upto - from)))
    ∙ flat_alike f h (upto - from) from (λ k lo hi.
    slot_within p conf from upto k rows lo (omega (arith, low, hi))))

-- ---- how many they are

pub length_sum : {X : Type 0} (xs : List X) → sum_by (λ (x : X). 1) xs ≡ length xs
length_sum [] = refl
length_sum {X} (x ∷ xs) = omega (arith, sum_by-cons (λ (x : X). 1) x xs, length_sum xs)

pub length_ordered : (conf : Conf) (rows : List Row) → 0 < conf.slots
    → length (in_slot_order conf rows) ≡ length rows
length_ordered conf rows some =
    sym (length_sum (in_slot_order conf rows)) ∙ all_slots (λ (row : Row). 1) conf rows some
    ∙ length_sum rows
