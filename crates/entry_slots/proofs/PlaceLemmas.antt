-- Which places rows have.
use Rattle.std.proofs.Common.{◌≡◌, ◌≢◌, ℕ, Bool, true, false, cond, List, [], ◌∷◌, ◌++◌, Some, sym, subst, refl, ◌∙◌}
use Rattle.std.specs.List.{find}
use Rattle.std.specs.Option.{option_map}
use Rattle.std.proofs.lemmas.Bool.{eq-eqb, or_left, or_right, false≢true}
use Rattle.std.proofs.lemmas.List.Folds.{list_any-append}
use Rattle.apcu_model.specs.Cache.{Row, has_key}
use Rattle.apcu_model.specs.SlotOrder.{is_in_slot}
use Rattle.entry_slots.specs.Lists.{is_at, has_place, only_at, first_place, place_after}
use Rattle.entry_slots.specs.Entries.{Entries, chain_of, place_of, unlinked_at}
use Rattle.seg_words.specs.Members.{any_there, any_from, Contains-filter}

pub in_left : (at : ℕ) (xs ys : List Row) → has_place at xs ≡ true → has_place at (xs ++ ys) ≡ true
in_left at xs ys h = list_any-append (is_at at) xs ys ∙ or_left (has_place at xs) (has_place at ys) h

pub in_right : (at : ℕ) (xs ys : List Row) → has_place at ys ≡ true → has_place at (xs ++ ys) ≡ true
in_right at xs ys h = list_any-append (is_at at) xs ys ∙ or_right (has_place at xs) (has_place at ys) h

-- the row that was found is one of the rows
found_in : (p : Row → Bool) (rows : List Row) (at : ℕ) → Some at ≡ option_map (λ (row : Row). row.place) (find p rows) → has_place at rows ≡ true
found_in p [] at e = cc
found_in p (row ∷ rows) at e = go (p row) refl (λ k. found_in p rows at k)
  where
    go : (b : Bool) → p row ≡ b → (Some at ≡ option_map (λ (r : Row). r.place) (find p rows) → has_place at rows ≡ true) → has_place at (row ∷ rows) ≡ true
    go true y later =
        let here : Some at ≡ Some row.place = subst (λ (b : Bool). Some at ≡ option_map (λ (r : Row). r.place) (cond b (Some row) (find p rows))) y e in
        let place : row.place ≡ at = cc in
        or_left (is_at at row) (has_place at rows) (eq-eqb row.place at place)
    go false n later = or_right (is_at at row) (has_place at rows) (later (subst (λ (b : Bool). Some at ≡ option_map (λ (r : Row). r.place) (cond b (Some row) (find p rows))) n e))

pub found_there : (key : List ℕ) (s : Entries) (at : ℕ) → Some at ≡ place_of key s → has_place at s.rows ≡ true
found_there key s at e = found_in (has_key key) s.rows at e

pub first_there : (rows : List Row) (at : ℕ) → at ≡ first_place rows → at ≢ 0 → has_place at rows ≡ true
first_there [] at e some = absurd (some e)
first_there (row ∷ rows) at e some = or_left (is_at at row) (has_place at rows) (eq-eqb row.place at (sym e))

pub next_there : (rows : List Row) (at next : ℕ) → next ≡ place_after at rows → next ≢ 0 → has_place next rows ≡ true
next_there [] at next e some = absurd (some e)
next_there (row ∷ rows) at next e some = go (is_at at row) refl (λ k. next_there rows at next k some)
  where
    go : (b : Bool) → is_at at row ≡ b → (next ≡ place_after at rows → has_place next rows ≡ true) → has_place next (row ∷ rows) ≡ true
    go true y later = or_right (is_at next row) (has_place next rows) (first_there rows next (subst (λ (b : Bool). next ≡ cond b (first_place rows) (place_after at rows)) y e) some)
    go false n later = or_right (is_at next row) (has_place next rows) (later (subst (λ (b : Bool). next ≡ cond b (first_place rows) (place_after at rows)) n e))

pub chain_there : (s : Entries) (slot at : ℕ) → has_place at (chain_of s slot) ≡ true → has_place at s.rows ≡ true
chain_there s slot at h =
    let r = any_there (is_at at) (chain_of s slot) h in
    any_from (is_at at) s.rows r.0 (Contains-filter (is_in_slot s.conf slot) s.rows r.0 r.1).0 r.2

-- what was picked by its place is among those at it
only_there : (at : ℕ) (rows more : List Row) → has_place at rows ≡ true → has_place at (only_at at rows ++ more) ≡ true
only_there at [] more h = absurd (false≢true h)
only_there at (row ∷ rows) more h = go (is_at at row) refl (λ k. only_there at rows more k)
  where
    go : (b : Bool) → is_at at row ≡ b → (has_place at rows ≡ true → has_place at (only_at at rows ++ more) ≡ true) → has_place at (only_at at (row ∷ rows) ++ more) ≡ true
    go true y later = simp y refl
    go false n later = simp n (later (simp n at h))

pub unlinks_there : (s : Entries) (at : ℕ) → has_place at s.rows ≡ true → has_place at (unlinked_at at s).unlinked ≡ true
unlinks_there s at h = only_there at s.rows s.unlinked h
