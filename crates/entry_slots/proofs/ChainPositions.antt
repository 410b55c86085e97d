-- The position of a walk along a chain.
use Rattle.std.proofs.Common.{◌≡◌, ◌≢◌, ℕ, true, false, not, List, [], ◌∷◌, ◌++◌, refl, sym, ap, ◌∙◌, subst, arith}
use Rattle.std.specs.List.{Contains}
use Rattle.std.proofs.lemmas.Bool.{eq-eqb, eqb-true, ne_eqb, false_from_ne_true}
use Rattle.std.proofs.lemmas.List.Elements.{Contains-append_right}
use Rattle.seg_words.specs.Windows.{Aside}
use Rattle.apcu_model.specs.Cache.{Row}
use Rattle.apcu_model.specs.SlotOrder.{is_in_slot}
use Rattle.entry_slots.specs.declared.slots.EntrySlots.{EntrySlots}
use Rattle.entry_slots.specs.Lists.{is_at, has_place, first_place, place_after, without_place}
use Rattle.entry_slots.specs.Entries.{Entries, chain_of}
use Rattle.entry_slots.specs.Standing.{Stands}
use Rattle.entry_slots.specs.Facts.{IsAtRow}
use Rattle.seg_words.specs.Members.{Contains-first, Contains-later, Contains-filter, any_there, any_from}
use Rattle.entry_slots.proofs.RowBlocks.{room, home_row}
use Rattle.entry_slots.proofs.ChainCuts.{AreDistinct, chain_distinct, distinct_both}
use Rattle.entry_slots.proofs.UnlinkedRows.{filter_swap, without_middle}

nowhere : (at : ℕ) (rows : List Row) → ((q : Row) → Contains rows q → q.place ≢ at) → has_place at rows ≡ false
nowhere at rows other = false_from_ne_true (has_place at rows) (λ t. let r = any_there (is_at at) rows t in other r.0 r.1 (eqb-true r.0.place at r.2))

next_middle : (at : ℕ) (front : List Row) (row : Row) (back : List Row) → ((q : Row) → Contains front q → q.place ≢ at) → row.place ≡ at → place_after at (front ++ row ∷ back) ≡ first_place back
next_middle at [] row back other e = let here : is_at at row ≡ true = eq-eqb row.place at e in rw here refl
next_middle at (x ∷ xs) row back other e =
    let no' : is_at at x ≡ false = ne_eqb x.place at (other x (Contains-first x xs)) in
    rw no' (next_middle at xs row back (λ q c. other q (Contains-later x xs q c)) e)

distinct_tail : (xs ys : List Row) → AreDistinct (xs ++ ys) → AreDistinct ys
distinct_tail [] ys h = h
distinct_tail (x ∷ xs) ys h = distinct_tail xs ys h.1

pub walked : (e : EntrySlots) (ws : List ℕ) (aside : Aside) (s : Entries) (slot : ℕ) (front : List Row) (row : Row) (back : List Row) → Stands e ws aside s → chain_of s slot ≡ front ++ row ∷ back → IsAtRow s slot front row back
walked e ws aside s slot front row back h split =
    let distinct : AreDistinct (front ++ row ∷ back) = subst AreDistinct split (chain_distinct h slot) in
    let in' : Contains (chain_of s slot) row = subst (λ rows. Contains rows row) (sym split) (Contains-append_right front (row ∷ back) row (Contains-first row back)) in
    let there = (Contains-filter (is_in_slot s.conf slot) s.rows row in').0 in
    let w = room (home_row row h there) in
    let before : (q : Row) → Contains front q → q.place ≢ row.place = λ q c same. distinct_both front (row ∷ back) q row distinct c (Contains-first row back) (sym same) in
    record {
      positive = omega (arith, w.some);
      there = there;
      in_rows = any_from (is_at row.place) s.rows row there (eq-eqb row.place row.place refl);
      in_chain = any_from (is_at row.place) (chain_of s slot) row in' (eq-eqb row.place row.place refl);
      passed = nowhere row.place front before;
      ahead = nowhere row.place back (distinct_tail front (row ∷ back) distinct).0;
      next = ap (place_after row.place) split ∙ next_middle row.place front row back before refl;
      unlinked = filter_swap (is_in_slot s.conf slot) (λ r. not (is_at row.place r)) s.rows ∙ (ap (without_place row.place) split ∙ without_middle row.place front row back distinct refl);
    }

-- a chain without a first row is empty
pub empty : (e : EntrySlots) (ws : List ℕ) (aside : Aside) (s : Entries) (slot : ℕ) → Stands e ws aside s → first_place (chain_of s slot) ≡ 0 → chain_of s slot ≡ []
empty e ws aside s slot h first = go (chain_of s slot) refl first
  where
    go : (rows : List Row) → chain_of s slot ≡ rows → first_place rows ≡ 0 → chain_of s slot ≡ []
    go [] split none = split
    go (row ∷ back) split none = absurd (omega (arith, (walked e ws aside s slot [] row back h split).positive, none))
