-- Chains of blocks.
use Rattle.std.proofs.Common.{◌≡◌, inl, inr, ℕ, ◌+◌, ◌%◌, ◌<◌, ◌≤◌, ◌^◌, true, ◌||◌, List, [], ◌∷◌, ◌++◌, slice_index, refl, sym, ap, ◌∙◌, arith}
use Rattle.std.proofs.lemmas.Bool.{eqb-true, eq-eqb, cases_Bool, or_cases, false≢true}
use Rattle.std.specs.List.{Contains}
use Rattle.std.proofs.lemmas.List.Folds.{list_any-append}
use Rattle.entry_slots.specs.declared.head.TheConstants.{NEXT}
use Rattle.seg_words.specs.Windows.{Aside}
use Rattle.php_graph.specs.Numbers.{hash_of}
use Rattle.apcu_model.specs.Cache.{Row}
use Rattle.apcu_model.specs.SlotOrder.{is_in_slot, slot_of}
use Rattle.entry_slots.specs.declared.slots.EntrySlots.{EntrySlots}
use Rattle.entry_slots.specs.Lists.{is_at, has_place, first_place, place_after}
use Rattle.entry_slots.specs.Entries.{Entries, chain_of}
use Rattle.entry_slots.specs.Standing.{IsRowChain, Stands}
use Rattle.entry_slots.proofs.PresentRows.{HasEntryAt}
use Rattle.seg_words.specs.Members.{Contains-first, Contains-later, Contains-filter, Contains-kept, any_there, any_from}
use Rattle.entry_slots.proofs.RowBlocks.{IsHome, room, home_row, home_removed}

pub chain_first : (ws : List ℕ) (at : ℕ) (rows : List Row) → IsRowChain ws at rows → at ≡ first_place rows
chain_first ws at [] h = h
chain_first ws at (row ∷ rows) h = h.0

-- word 1 of a chain's block is the place of the next
pub chain_next : (ws : List ℕ) (at first : ℕ) (rows : List Row) → IsRowChain ws first rows → has_place at rows ≡ true → slice_index ws (at + NEXT) ≡ place_after at rows
chain_next ws at first [] h there = absurd (false≢true there)
chain_next ws at first (row ∷ rows) h there = elim (cases_Bool (is_at at row)) [
  | inl here ↦
      let place : row.place ≡ at = eqb-true row.place at here in
      rw here (ap (λ (n : ℕ). slice_index ws (n + NEXT)) (sym place) ∙ chain_first ws (slice_index ws (row.place + NEXT)) rows h.1)
  | inr other ↦
      let later : has_place at rows ≡ true = elim (or_cases (is_at at row) (has_place at rows) there) [ inl here ↦ absurd (false≢true (sym other ∙ here)) | inr l ↦ l ] in
      rw other (chain_next ws at (slice_index ws (row.place + NEXT)) rows h.1 later)
]

-- each row of the list has its block
abbrev pub AreHome : EntrySlots → List ℕ → Aside → List Row → Type 0
AreHome e ws aside rows = (row : Row) → Contains rows row → IsHome e ws aside row

pub small_first : (e : EntrySlots) (ws : List ℕ) (aside : Aside) (rows : List Row) → AreHome e ws aside rows → first_place rows < 2 ^ 32
small_first e ws aside [] h = omega arith
small_first e ws aside (row ∷ rows) h = let w = room (h row (Contains-first row rows)) in omega (arith, w.high, w.short)

pub small_next : (e : EntrySlots) (ws : List ℕ) (aside : Aside) (at : ℕ) (rows : List Row) → AreHome e ws aside rows → place_after at rows < 2 ^ 32
small_next e ws aside at [] h = omega arith
small_next e ws aside at (row ∷ rows) h = elim (cases_Bool (is_at at row)) [
  | inl here ↦ rw here (small_first e ws aside rows (λ r c. h r (Contains-later row rows r c)))
  | inr other ↦ rw other (small_next e ws aside at rows (λ r c. h r (Contains-later row rows r c)))
]

-- the rows of a chain have their blocks
pub home_chain : {e : EntrySlots} {ws : List ℕ} {aside : Aside} {s : Entries} (slot : ℕ) → Stands e ws aside s → AreHome e ws aside (chain_of s slot)
home_chain {s = s} slot h row c = home_row row h (Contains-filter (is_in_slot s.conf slot) s.rows row c).0

pub slot_small : (n slots : ℕ) → 2 ≤ slots → n % slots < slots
slot_small n slots h = omega arith

-- what follows in a chain, or among the removed rows
pub next_row : {e : EntrySlots} {ws : List ℕ} {aside : Aside} (s : Entries) (at slot : ℕ) → Stands e ws aside s → slot < e.sma.bounds.from → has_place at (chain_of s slot) ≡ true → slice_index ws (at + NEXT) ≡ place_after at (chain_of s slot)
next_row {ws = ws} s at slot h lt there = chain_next ws at (slice_index ws slot) (chain_of s slot) (h.chains slot (omega (arith, h.from))) there

pub next_removed : {e : EntrySlots} {ws : List ℕ} {aside : Aside} (s : Entries) (at : ℕ) → Stands e ws aside s → has_place at s.removed ≡ true → slice_index ws (at + NEXT) ≡ place_after at s.removed
next_removed {e = e} {ws = ws} s at h there = chain_next ws at e.removed s.removed h.removed_chain there

in_own_slot : (s : Entries) (at : ℕ) → has_place at s.rows ≡ true → (row : Row) × (has_place at (chain_of s (slot_of s.conf row.key)) ≡ true)
in_own_slot s at there =
    let r = any_there (is_at at) s.rows there in
    (r.0, any_from (is_at at) (chain_of s (slot_of s.conf r.0.key)) r.0 (Contains-kept (is_in_slot s.conf (slot_of s.conf r.0.key)) s.rows r.0 r.1 (eq-eqb (slot_of s.conf r.0.key) (slot_of s.conf r.0.key) refl)) r.2)

-- word 1 of a row's or a removed row's block is a place
pub small_after : {e : EntrySlots} {ws : List ℕ} {aside : Aside} {at : ℕ} → HasEntryAt e ws aside at → slice_index ws (at + NEXT) < 2 ^ 32
small_after {e = e} {ws = ws} {aside = aside} {at = at} h =
    let s = h.entries in
    elim (or_cases (has_place at s.rows) (has_place at s.removed) (sym (any-append at s.rows s.removed) ∙ h.there)) [
      | inl l ↦
          let own = in_own_slot s at l in
          let slot = slot_of s.conf own.0.key in
          let lt : slot < e.sma.bounds.from = omega (arith, slot_small (hash_of own.0.key) s.conf.slots h.stand.usable.slots_least, h.stand.from) in
          let small = small_next e ws aside at (chain_of s slot) (home_chain slot h.stand) in
          omega (arith, next_row s at slot h.stand lt own.1, small)
      | inr r ↦
          let small = small_next e ws aside at s.removed (λ row c. home_removed row h.stand c) in
          omega (arith, next_removed s at h.stand r, small)
    ]
  where
    any-append : (at : ℕ) (xs ys : List Row) → has_place at (xs ++ ys) ≡ (has_place at xs || has_place at ys)
    any-append at xs ys = list_any-append (is_at at) xs ys

-- the first of a chain
pub small_slot : {e : EntrySlots} {ws : List ℕ} {aside : Aside} (slot : ℕ) → (s : Entries) × Stands e ws aside s → slot < e.sma.bounds.from → slice_index ws slot < 2 ^ 32
small_slot {e = e} {ws = ws} {aside = aside} slot h lt =
    let small = small_first e ws aside (chain_of h.0 slot) (home_chain slot h.1) in
    omega (arith, chain_first ws (slice_index ws slot) (chain_of h.0 slot) (h.1.chains slot (omega (arith, h.1.from))), small)
