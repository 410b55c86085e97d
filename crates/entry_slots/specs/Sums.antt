-- Sums over the rows of all slots: facts that proofs of the crates above cite.
use Rattle.std.proofs.Common.{◌≡◌, ◌∙◌, ◌⊎◌, inl, inr, ℕ, zero, suc, ◌+◌, ◌<◌, ◌≤◌, ◌==◌}
use Rattle.std.proofs.Common.{List, [], ◌∷◌, filter, refl, sym, ap}
use Rattle.std.proofs.Common.{arith, mod-lt, eq-or-lt_of_le}
use Rattle.std.specs.Prelude.{sum_by}
use Rattle.std.specs.List.{flat_map, range_with_len}
use Rattle.std.proofs.lemmas.Bool.{cases_Bool, eqb-true, eq-eqb, ne_eqb, false≢true}
use Rattle.std.proofs.lemmas.List.Sums.{sum_by-cons, sum_by-append}
use Rattle.php_graph.specs.Numbers.{hash_of}
use Rattle.apcu_model.specs.declared.conf.Conf.{Conf}
use Rattle.apcu_model.specs.Cache.{Row}
use Rattle.apcu_model.specs.SlotOrder.{slot_of, is_in_slot, in_slot_order}

-- the sum over the rows of the slots from n on
abbrev pub slot_sum : (Row → ℕ) → Conf → List Row → ℕ → ℕ → ℕ
slot_sum f conf rows n k =
    sum_by f (flat_map (λ slot. filter (is_in_slot conf slot) rows) (range_with_len n k))

pub one_slot : (f : Row → ℕ) (conf : Conf) (rows : List Row) (n k : ℕ)
    → slot_sum f conf rows n (suc k)
    ≡ sum_by f (filter (is_in_slot conf n) rows) + slot_sum f conf rows (n + 1) k
one_slot f conf rows n k =
    sum_by-append f (filter (is_in_slot conf n) rows)
    (flat_map (λ slot. filter (is_in_slot conf slot) rows) (range_with_len (n + 1) k))

other_slot : (conf : Conf) (row : Row) (rows : List Row) (n : ℕ) → ¬ slot_of conf row.key ≡ n
    → filter (is_in_slot conf n) (row ∷ rows) ≡ filter (is_in_slot conf n) rows
other_slot conf row rows n other = rw (ne_eqb (slot_of conf row.key) n other) refl

own_slot : (f : Row → ℕ) (conf : Conf) (row : Row) (rows : List Row) (n : ℕ)
    → slot_of conf row.key ≡ n
    → sum_by f (filter (is_in_slot conf n) (row ∷ rows))
    ≡ f row + sum_by f (filter (is_in_slot conf n) rows)
own_slot f conf row rows n own =
    rw (eq-eqb (slot_of conf row.key) n own) (sum_by-cons f row (filter (is_in_slot conf n) rows))

outside : (f : Row → ℕ) (conf : Conf) (row : Row) (rows : List Row) (n k : ℕ)
    → (slot_of conf row.key < n) ⊎ (n + k ≤ slot_of conf row.key)
    → slot_sum f conf (row ∷ rows) n k ≡ slot_sum f conf rows n k
outside f conf row rows n zero out = refl
outside f conf row rows n (suc k) out =
    let s = slot_of conf row.key in
    let other : ¬ s ≡ n = λ e. elim out [
      | inl low ↦ omega (arith, low, e)
      | inr high ↦ omega (arith, high, e)
    ] in
    let later : (s < n + 1) ⊎ (n + 1 + k ≤ s) = elim out [
      | inl low ↦ inl (omega (arith, low))
      | inr high ↦ inr (omega (arith, high))
    ] in
    omega (
      arith,
      one_slot f conf (row ∷ rows) n k,
      one_slot f conf rows n k,
      ap (sum_by f) (other_slot conf row rows n other),
      outside f conf row rows (n + 1) k later,
    )

inside : (f : Row → ℕ) (conf : Conf) (row : Row) (rows : List Row) (n k : ℕ)
    → n ≤ slot_of conf row.key → slot_of conf row.key < n + k
    → slot_sum f conf (row ∷ rows) n k ≡ f row + slot_sum f conf rows n k
inside f conf row rows n zero low high = absurd (omega (arith, low, high))
inside f conf row rows n (suc k) low high =
    let s = slot_of conf row.key in
    elim (cases_Bool (s == n)) [
      | inl t ↦
          let own : s ≡ n = eqb-true s n t in
          let later : (s < n + 1) ⊎ (n + 1 + k ≤ s) = inl (omega (arith, own)) in
          omega (
            arith,
            one_slot f conf (row ∷ rows) n k,
            one_slot f conf rows n k,
            own_slot f conf row rows n own,
            outside f conf row rows (n + 1) k later,
          )
      | inr f' ↦
          let other : ¬ s ≡ n = λ e. false≢true (sym f' ∙ eq-eqb s n e) in
          let up : n + 1 ≤ s = elim (eq-or-lt_of_le low) [
            | inl e ↦ absurd (other (sym e))
            | inr l ↦ omega (arith, l)
          ] in
          omega (
            arith,
            one_slot f conf (row ∷ rows) n k,
            one_slot f conf rows n k,
            ap (sum_by f) (other_slot conf row rows n other),
            inside f conf row rows (n + 1) k up (omega (arith, high)),
          )
    ]

no_rows : (f : Row → ℕ) (conf : Conf) (n k : ℕ) → slot_sum f conf [] n k ≡ 0
no_rows f conf n zero = refl
no_rows f conf n (suc k) = no_rows f conf (n + 1) k

-- each row is in one slot
pub all_slots : (f : Row → ℕ) (conf : Conf) (rows : List Row) → 0 < conf.slots
    → sum_by f (in_slot_order conf rows) ≡ sum_by f rows
all_slots f conf [] some = no_rows f conf 0 conf.slots
all_slots f conf (row ∷ rows) some =
    let low : slot_of conf row.key < 0 + conf.slots =
    omega (arith, mod-lt (hash_of row.key) some) in
    omega (
      arith,
      inside f conf row rows 0 conf.slots (omega arith) low,
      all_slots f conf rows some,
      sum_by-cons f row rows,
    )
