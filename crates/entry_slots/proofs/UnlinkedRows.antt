-- A row that leaves its chain.
use Rattle.std.proofs.Common.{◌≡◌, ◌≢◌, inl, inr, ℕ, ◌+◌, ◌<◌, Bool, true, false, not, cond, List, [], ◌∷◌, ◌++◌, length, slice_index, slice_set, refl, sym, ap, ap₂, ◌∙◌, subst, arith}
use Rattle.std.proofs.lemmas.Bool.{cases_eq, eq-eqb, eqb-true, ne_eqb}
use Rattle.std.proofs.lemmas.List.Elements.{Contains-append_cases, filter-append}
use Rattle.std.proofs.lemmas.List.Sums.{length-filter}
use Rattle.std.specs.List.{Contains, filter, count_by}
use Rattle.entry_slots.specs.declared.head.TheConstants.{NEXT}
use Rattle.seg_words.specs.declared.gaps.Extent.{Extent}
use Rattle.seg_words.specs.Windows.{Aside}
use Rattle.apcu_model.specs.Cache.{Row, extent_of}
use Rattle.apcu_model.specs.SlotOrder.{is_in_slot, slot_of}
use Rattle.entry_slots.specs.declared.slots.EntrySlots.{EntrySlots}
use Rattle.entry_slots.specs.Lists.{is_at, has_place, only_at, without_place}
use Rattle.entry_slots.specs.Entries.{Entries, chain_of, blocks_of, unlinked_at}
use Rattle.entry_slots.specs.Standing.{IsRowChain, Stands}
use Rattle.entry_slots.specs.Links.{IsLinkTo}
use Rattle.entry_slots.specs.Lower.{Laws}
use Rattle.seg_words.specs.Members.{Contains-first, Contains-later, any_there, any_from, count-cons, count-append, counted_some, Contains-filter, Contains-kept}
use Rattle.entry_slots.proofs.RowBlocks.{room, home_row, home_removed, home_unlinked}
use Rattle.entry_slots.proofs.Chains.{home_chain}
use Rattle.entry_slots.proofs.DistinctPlaces.{at_itself, count_blocks}
use Rattle.entry_slots.proofs.ChainCuts.{AreDistinct, chain_distinct, distinct_both, rows_once, Spot, set_change, set_entry}
use Rattle.entry_slots.proofs.RejoinedChains.{slots_apart, cut_spot, back_other, rejoined, other_chain, removed_kept}
use Rattle.entry_slots.proofs.NewRows.{count_split}

pub without_none : (at : ℕ) (rows : List Row) → ((q : Row) → Contains rows q → q.place ≢ at) → without_place at rows ≡ rows
without_none at [] h = refl
without_none at (row ∷ rows) h =
    let no' : is_at at row ≡ false = ne_eqb row.place at (h row (Contains-first row rows)) in
    rw no' (ap (λ rs. row ∷ rs) (without_none at rows (λ q c. h q (Contains-later row rows q c))))

pub filter_swap : (p q : Row → Bool) (rows : List Row) → filter p (filter q rows) ≡ filter q (filter p rows)
filter_swap p q [] = refl
filter_swap p q (row ∷ rows) = go (p row) (q row) refl refl (filter_swap p q rows)
  where
    go : (a b : Bool) → p row ≡ a → q row ≡ b → filter p (filter q rows) ≡ filter q (filter p rows) → filter p (cond (q row) (row ∷ filter q rows) (filter q rows)) ≡ filter q (cond (p row) (row ∷ filter p rows) (filter p rows))
    go true true y z rest = simp (y, z) (ap (λ rs. row ∷ rs) rest)
    go true false y z rest = simp (y, z) rest
    go false true y z rest = simp (y, z) rest
    go false false y z rest = simp (y, z) rest

-- the row is taken out of the middle
pub without_middle : (at : ℕ) (front : List Row) (row : Row) (more : List Row) → AreDistinct (front ++ row ∷ more) → row.place ≡ at → without_place at (front ++ row ∷ more) ≡ front ++ more
without_middle at front row more distinct e =
    let here : is_at at row ≡ true = eq-eqb row.place at e in
    let left : without_place at front ≡ front = without_none at front (λ q c same. distinct_both front (row ∷ more) q row distinct c (Contains-first row more) (e ∙ sym same)) in
    let tail : AreDistinct (row ∷ more) = distinct_back front (row ∷ more) distinct in
    let right : without_place at more ≡ more = without_none at more (λ q c same. tail.0 q c (same ∙ sym e)) in
    filter-append (λ r. not (is_at at r)) front (row ∷ more) ∙ ap₂ (λ (a b : List Row). a ++ b) left (rw here right)
  where
    distinct_back : (xs ys : List Row) → AreDistinct (xs ++ ys) → AreDistinct ys
    distinct_back [] ys h = h
    distinct_back (x ∷ xs) ys h = distinct_back xs ys h.1

-- where the link leads to
pub link_back : {e : EntrySlots} {ws : List ℕ} {aside : Aside} (s : Entries) (h : Stands e ws aside s) (slot at m : ℕ) → at ≢ 0 → (link : IsLinkTo ws slot (chain_of s slot) at m) → (row : Row) × (more : List Row) × (link.back ≡ row ∷ more) × (row.place ≡ at)
link_back {e} {ws} s h slot at m some link = go link.back link.rest
  where
    go : (back : List Row) → IsRowChain ws at back → (row : Row) × (more : List Row) × (back ≡ row ∷ more) × (row.place ≡ at)
    go [] rest = absurd (some rest)
    go (row ∷ more) rest = (row, more, refl, sym rest.0)

pub unlink_stands : Laws → {e : EntrySlots} {ws : List ℕ} {aside : Aside} (s : Entries) (h : Stands e ws aside s) (at slot m next : ℕ) → slot < e.sma.bounds.from → has_place at (chain_of s slot) ≡ true → IsLinkTo ws slot (chain_of s slot) at m → next ≡ slice_index ws (at + NEXT)
    → (count : ℕ) → count + 1 ≡ e.count → Stands (record e { count = count }) (slice_set ws m next) aside (unlinked_at at s)
unlink_stands law {e} {ws} {aside} s h at slot m next lt there link en count ec =
    let own = any_there (is_at at) (chain_of s slot) there in
    let place : own.0.place ≡ at = eqb-true own.0.place at own.2 in
    let w = room (home_chain slot h own.0 own.1) in
    let back = link_back s h slot at m (λ q. omega (arith, w.some)) link in
    let row : Row = back.0 in
    let more : List Row = back.1 in
    let split : chain_of s slot ≡ link.front ++ row ∷ more = link.split ∙ ap (λ rs. link.front ++ rs) back.2 in
    let rest : IsRowChain ws at (row ∷ more) = subst (λ rs. IsRowChain ws at rs) back.2 link.rest in
    let tail : IsRowChain ws next more = subst (λ n. IsRowChain ws n more) (ap (λ n. slice_index ws (n + NEXT)) back.3 ∙ sym en) rest.1 in
    let spot : Spot e ws aside m = cut_spot h slot lt m next link.front (row ∷ more) split link.follows in
    let distinct : AreDistinct (link.front ++ row ∷ more) = subst AreDistinct split (chain_distinct h slot) in
    let in_rows : Contains s.rows own.0 = (Contains-filter (is_in_slot s.conf slot) s.rows own.0 own.1).0 in
    record {
      chains = λ two low. elim (cases_eq two slot) [
        | inl same ↦
            let chain = rejoined h slot lt m next link.front (row ∷ more) split link.follows more tail (λ q c. back_other h slot lt m next link.front (row ∷ more) split link.follows q (Contains-later row more q c)) in
            let is : filter (is_in_slot s.conf slot) (without_place at s.rows) ≡ link.front ++ more = filter_swap (is_in_slot s.conf slot) (λ r. not (is_at at r)) s.rows ∙ (ap (without_place at) split ∙ without_middle at link.front row more distinct back.3) in
            subst (λ n. IsRowChain (slice_set ws m next) (slice_index (slice_set ws m next) n) (filter (is_in_slot s.conf n) (without_place at s.rows))) (sym same)
            (subst (λ rs. IsRowChain (slice_set ws m next) (slice_index (slice_set ws m next) slot) rs) (sym is) chain)
        | inr other ↦
            let is : filter (is_in_slot s.conf two) (without_place at s.rows) ≡ chain_of s two = filter_swap (is_in_slot s.conf two) (λ r. not (is_at at r)) s.rows ∙ without_none at (chain_of s two) (λ q c same. slots_apart h slot two (λ k. other (sym k)) own.0 q own.1 c (same ∙ sym place)) in
            subst (λ rs. IsRowChain (slice_set ws m next) (slice_index (slice_set ws m next) two) rs) (sym is) (other_chain h slot lt m next link.front (row ∷ more) split link.follows two (omega (arith, h.from)) other)
      ];
      removed_chain = removed_kept h slot lt m next link.front (row ∷ more) split link.follows;
      rows = λ x c. set_entry h m next spot law x (home_row x h (Contains-filter (λ r. not (is_at at r)) s.rows x c).0);
      removed = λ x c. set_entry h m next spot law x (home_removed x h c);
      unlinked = λ x c. elim (Contains-append_cases (only_at at s.rows) s.unlinked x c) [
        | inl l ↦ set_entry h m next spot law x (home_row x h (Contains-filter (is_at at) s.rows x l).0)
        | inr r ↦ set_entry h m next spot law x (home_unlinked x h r)
      ];
      taken = h.taken;
      ready = (law.blocks e.sma ws (slice_set ws m next) aside h.ready (set_change h m next spot)).ready;
      blocks = record { count = λ test. ap (count_by test) (law.blocks e.sma ws (slice_set ws m next) aside h.ready (set_change h m next spot)).blocks ∙ (h.blocks.count test ∙ moved test) };
      apart = law.rows.picked (λ r. not (is_at at r)) s.rows h.apart;
      number = h.number;
      count = omega (arith, ec, h.count, fewer own.0 in_rows place);
      limit = h.limit;
      unexpired = λ t le row c. h.unexpired t le row (Contains-filter (λ r. not (is_at at r)) s.rows row c).0;
      usable = h.usable;
      from = h.from;
      to = h.to;
      piece = h.piece;
    }
  where
    moved : (test : Extent → Bool) → count_by test (blocks_of s) ≡ count_by test (blocks_of (unlinked_at at s))
    moved test =
        let p : Row → Bool = λ r. test (extent_of r) in
        omega (arith, count_blocks test s, count_blocks test (unlinked_at at s), count_split p (is_at at) s.rows, count-append p (only_at at s.rows) s.unlinked)

    all_counted : (rows : List Row) → count_by (λ (x : Row). true) rows ≡ length rows
    all_counted [] = refl
    all_counted (x ∷ xs) = omega (arith, count-cons (λ (y : Row). true) x xs, all_counted xs)

    fewer : (row : Row) → Contains s.rows row → row.place ≡ at → length (without_place at s.rows) + 1 ≡ length s.rows
    fewer row c e =
        omega (
          arith,
          count_split (λ (x : Row). true) (is_at at) s.rows,
          all_counted (only_at at s.rows),
          all_counted (without_place at s.rows),
          all_counted s.rows,
          length-filter (is_at at) s.rows,
          rows_once h at,
          counted_some (is_at at) s.rows row c (at_itself row at e),
        )

-- a row stands in the chain of its key's slot
pub own_slot : (s : Entries) (at : ℕ) → has_place at s.rows ≡ true → (row : Row) × Contains s.rows row × (row.place ≡ at) × (has_place at (chain_of s (slot_of s.conf row.key)) ≡ true)
own_slot s at there =
    let r = any_there (is_at at) s.rows there in
    let slot : ℕ = slot_of s.conf r.0.key in
    (r.0, r.1, eqb-true r.0.place at r.2, any_from (is_at at) (chain_of s slot) r.0 (Contains-kept (is_in_slot s.conf slot) s.rows r.0 r.1 (eq-eqb slot slot refl)) r.2)
