-- The rows that a step of deleting takes, as a test of each row.
use Rattle.std.proofs.Common.{◌≡◌, ◌≢◌, ℕ, zero, suc, ◌+◌, ◌-◌, ◌<◌, ◌≤◌, ◌==◌, ◌&&◌, inl, inr, Bool, true, not, List, filter, refl, sym, ◌∙◌, subst, arith}
use Rattle.std.specs.Prelude.{nat_le, nat_lt, Option}
use Rattle.std.specs.List.{Contains, flat_map, range_with_len}
use Rattle.std.proofs.lemmas.Bool.{and_parts, and_from, cases_Bool, eq-eqb, eqb-true, false≢true, le-leb, leb-true, lt-ltb, ltb-true}
use Rattle.std.proofs.lemmas.List.Elements.{Contains-append_left, Contains-append_right, Contains-append_cases}
use Rattle.seg_words.specs.Members.{Contains-filter, Contains-kept, none_in_nil}
use Rattle.apcu_model.specs.declared.searching.Pattern.{Pattern}
use Rattle.apcu_model.specs.Cache.{Row, Cache}
use Rattle.apcu_model.specs.Change.{left_of}
use Rattle.apcu_model.specs.Chunks.{is_item, slot_items, chunk_end, chunk_rows}
use Rattle.apcu_model.specs.Rows.{are_apart}
use Rattle.apcu_model.specs.SlotOrder.{is_in_slot, slot_of}
use Rattle.apcu_model.proofs.RowsApart.{left_is}

abbrev pub is_in_chunk : Option Pattern → ℕ → Cache → ℕ → ℕ → Row → Bool
is_in_chunk wanted t c from size row =
    is_item wanted t row && nat_le from (slot_of c.conf row.key) && nat_lt (slot_of c.conf row.key) (chunk_end wanted t c from size)

-- where a member of some lists, one for each number, comes from
record From {X : Type 0} (f : ℕ → List X) (a n : ℕ) (x : X) : Type 0 where
  at : ℕ
  low : a ≤ at
  high : at < a + n
  there : Contains (f at) x

flat_parts : {X : Type 0} (f : ℕ → List X) (n a : ℕ) (x : X) → Contains (flat_map f (range_with_len a n)) x → From f a n x
flat_parts f zero a x c = absurd (none_in_nil x c)
flat_parts f (suc n) a x c = elim (Contains-append_cases (f a) (flat_map f (range_with_len (a + 1) n)) x c) [
  | inl here ↦ record { at = a; low = omega arith; high = omega arith; there = here }
  | inr later ↦
      let p = flat_parts f n (a + 1) x later in
      record { at = p.at; low = omega (arith, p.low); high = omega (arith, p.high); there = p.there }
]

flat_from : {X : Type 0} (f : ℕ → List X) (n a k : ℕ) (x : X) → a ≤ k → k < a + n → Contains (f k) x → Contains (flat_map f (range_with_len a n)) x
flat_from f zero a k x low high c = absurd (omega (arith, low, high))
flat_from f (suc n) a k x low high c =
    let rest = flat_map f (range_with_len (a + 1) n) in
    elim (cases_Bool (a == k)) [
      | inl t ↦ Contains-append_left (f a) rest x (subst (λ j. Contains (f j) x) (sym (eqb-true a k t)) c)
      | inr other ↦
          let apart : a ≢ k = λ e. false≢true (sym other ∙ eq-eqb a k e) in
          Contains-append_right (f a) rest x (flat_from f n (a + 1) k x (omega (arith, low, apart)) (omega (arith, high)) c)
    ]

module _ (wanted : Option Pattern) (t : ℕ) (c : Cache) (from size : ℕ) where
  abbrev end : ℕ
  end = chunk_end wanted t c from size

  taken : (row : Row) → Contains (chunk_rows wanted t c from size) row → Contains c.rows row × (is_in_chunk wanted t c from size row ≡ true)
  taken row there =
      let p = flat_parts (slot_items wanted t c) (end - from) from row there in
      let item = Contains-filter (is_item wanted t) (filter (is_in_slot c.conf p.at) c.rows) row p.there in
      let slot = Contains-filter (is_in_slot c.conf p.at) c.rows row item.0 in
      let is : slot_of c.conf row.key ≡ p.at = eqb-true (slot_of c.conf row.key) p.at slot.1 in
      let low : nat_le from (slot_of c.conf row.key) ≡ true = le-leb from (slot_of c.conf row.key) (omega (arith, is, p.low)) in
      let high : nat_lt (slot_of c.conf row.key) end ≡ true = lt-ltb (slot_of c.conf row.key) end (omega (arith, is, p.low, p.high)) in
      (slot.0, and_from (is_item wanted t row && nat_le from (slot_of c.conf row.key)) (nat_lt (slot_of c.conf row.key) end) (and_from (is_item wanted t row) (nat_le from (slot_of c.conf row.key)) item.1 low) high)

  found : (row : Row) → Contains c.rows row → is_in_chunk wanted t c from size row ≡ true → Contains (chunk_rows wanted t c from size) row
  found row there is =
      let k = slot_of c.conf row.key in
      let parts = and_parts (is_item wanted t row && nat_le from k) (nat_lt k end) is in
      let more = and_parts (is_item wanted t row) (nat_le from k) parts.0 in
      let low = leb-true from k more.1 in
      let high = ltb-true k end parts.1 in
      flat_from (slot_items wanted t c) (end - from) from k row low (omega (arith, low, high))
      (Contains-kept (is_item wanted t) (filter (is_in_slot c.conf k) c.rows) row (Contains-kept (is_in_slot c.conf k) c.rows row there (eq-eqb k k refl)) more.0)

  -- the rows that are left
  pub left_chunk : are_apart c.rows ≡ true → left_of (chunk_rows wanted t c from size) c.rows ≡ filter (λ row. not (is_in_chunk wanted t c from size row)) c.rows
  left_chunk apart = left_is (is_in_chunk wanted t c from size) (chunk_rows wanted t c from size) c.rows apart taken found
