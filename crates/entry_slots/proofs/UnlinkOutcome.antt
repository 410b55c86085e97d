-- What it comes to that a row leaves its chain, and is removed or freed then.
use Rattle.std.proofs.Common.{◌≡◌, ◌≢◌, inl, inr, ℕ, ◌<◌, ◌≤◌, Bool, true, false, not, List, [], ◌∷◌, ◌++◌, length, map, refl, sym, ap, ap₂, ◌∙◌, arith}
use Rattle.std.specs.List.{Contains}
use Rattle.std.proofs.lemmas.Bool.{cases_Bool, or_cases, eqb-true, false_from_ne_true, false≢true}
use Rattle.std.proofs.lemmas.List.{append-nil}
use Rattle.std.proofs.lemmas.List.Elements.{filter-append}
use Rattle.seg_words.specs.Windows.{Aside}
use Rattle.apcu_model.specs.Cache.{Row}
use Rattle.apcu_model.specs.SlotOrder.{is_in_slot}
use Rattle.entry_slots.specs.declared.slots.EntrySlots.{EntrySlots}
use Rattle.entry_slots.specs.Lists.{is_at, has_place, only_at, without_place}
use Rattle.entry_slots.specs.Entries.{Entries, chain_of, unlinked_at, removed_at, freed_at, dropped_at, gone_at}
use Rattle.entry_slots.specs.Standing.{Stands}
use Rattle.seg_words.specs.Members.{any_there}
use Rattle.entry_slots.proofs.DistinctPlaces.{rows_removed, rows_unlinked}
use Rattle.entry_slots.proofs.UnlinkedRows.{without_none, filter_swap}
use Rattle.entry_slots.proofs.NewRows.{filter_none}
use Rattle.entry_slots.proofs.RowListMoves.{only_gone}

only_only : (at : ℕ) (rows : List Row) → only_at at (only_at at rows) ≡ only_at at rows
only_only at [] = refl
only_only at (row ∷ rows) = go (is_at at row) refl (only_only at rows)
  where
    go : (b : Bool) → is_at at row ≡ b → only_at at (only_at at rows) ≡ only_at at rows → only_at at (only_at at (row ∷ rows)) ≡ only_at at (row ∷ rows)
    go true y rest = simp y (ap (λ rs. row ∷ rs) rest)
    go false y rest = simp y rest

-- no other row is there
none_there : (at : ℕ) (rows : List Row) → ((q : Row) → Contains rows q → q.place ≢ at) → has_place at rows ≡ false
none_there at rows other = false_from_ne_true (has_place at rows) (λ t. let r = any_there (is_at at) rows t in other r.0 r.1 (eqb-true r.0.place at r.2))

module _ {e : EntrySlots} {ws : List ℕ} {aside : Aside} (s : Entries) (h : Stands e ws aside s) (at : ℕ) (there : has_place at s.rows ≡ true) where
  not_unlinked : (q : Row) → Contains s.unlinked q → q.place ≢ at
  not_unlinked q c same = let r = any_there (is_at at) s.rows there in rows_unlinked h r.0 q r.1 c (same ∙ sym (eqb-true r.0.place at r.2))

  not_removed : (q : Row) → Contains s.removed q → q.place ≢ at
  not_removed q c same = let r = any_there (is_at at) s.rows there in rows_removed h r.0 q r.1 c (same ∙ sym (eqb-true r.0.place at r.2))

  left : without_place at (only_at at s.rows ++ s.unlinked) ≡ s.unlinked
  left =
      filter-append (λ r. not (is_at at r)) (only_at at s.rows) s.unlinked
      ∙ (ap (λ rs. rs ++ without_place at s.unlinked) (only_gone at s.rows) ∙ without_none at s.unlinked not_unlinked)

  own : only_at at (only_at at s.rows ++ s.unlinked) ≡ only_at at s.rows
  own =
      filter-append (is_at at) (only_at at s.rows) s.unlinked
      ∙ (ap₂ (λ (a b : List Row). a ++ b) (only_only at s.rows) (filter_none (is_at at) s.unlinked (none_there at s.unlinked not_unlinked)) ∙ append-nil (only_at at s.rows))

  pub drops : (t : ℕ) → removed_at at t (unlinked_at at s) ≡ dropped_at at t s
  drops t =
      ap₂ (λ (a b : List Row). let x : Entries = record s { rows = without_place at s.rows; removed = s.removed ++ map {A = Row} {B = Row} (λ row. record row { dtime = t }) a; unlinked = b } in x) own left

  pub goes : freed_at at (unlinked_at at s) ≡ gone_at at s
  goes =
      ap₂ (λ (a b : List Row). let x : Entries = record s { rows = without_place at s.rows; removed = a; unlinked = b } in x) (without_none at s.removed not_removed) left

-- ---- its chain is shorter

not_longer : (at : ℕ) (rows : List Row) → length (without_place at rows) ≤ length rows
not_longer at [] = omega arith
not_longer at (row ∷ rows) = elim (cases_Bool (is_at at row)) [
  | inl here ↦ rw here (let rest = not_longer at rows in omega (arith, rest))
  | inr other ↦ rw other (let rest = not_longer at rows in omega (arith, rest))
]

without_shorter : (at : ℕ) (rows : List Row) → has_place at rows ≡ true → length (without_place at rows) < length rows
without_shorter at [] h = absurd (false≢true h)
without_shorter at (row ∷ rows) h = elim (cases_Bool (is_at at row)) [
  | inl here ↦ rw here (let rest = not_longer at rows in omega (arith, rest))
  | inr other ↦ rw other (let rest = without_shorter at rows (elim (or_cases (is_at at row) (has_place at rows) h) [ inl here ↦ absurd (false≢true (sym other ∙ here)) | inr later ↦ later ]) in omega (arith, rest))
]

pub shorter : (s : Entries) (slot at : ℕ) → has_place at (chain_of s slot) ≡ true → length (chain_of (unlinked_at at s) slot) < length (chain_of s slot)
shorter s slot at there =
    omega (arith, without_shorter at (chain_of s slot) there, ap (length {A = Row}) (filter_swap (is_in_slot s.conf slot) (λ r. not (is_at at r)) s.rows))
