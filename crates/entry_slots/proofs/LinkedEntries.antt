-- The entries after a new one was linked.
use Rattle.std.proofs.Common.{◌≡◌, ◌≢◌, inl, inr, ℕ, ◌+◌, ◌<◌, ◌≤◌, Bool, false, not, eqb, List, ◌∷◌, ◌++◌, length, slice_index, slice_set, refl, sym, ap, ◌∙◌, subst, arith}
use Rattle.std.proofs.lemmas.Bool.{cases_eq, eq-eqb}
use Rattle.std.proofs.lemmas.List.Elements.{Contains-append_cases}
use Rattle.std.specs.List.{Contains, filter, count_by}
use Rattle.entry_slots.specs.declared.head.TheConstants.{NEXT}
use Rattle.seg_words.specs.declared.gaps.Extent.{Extent}
use Rattle.seg_words.specs.Windows.{Aside}
use Rattle.php_graph.specs.declared.kind.Kind.{Kind}
use Rattle.apcu_model.specs.Cache.{Row, has_key, extent_of, risen}
use Rattle.apcu_model.specs.Change.{with_row}
use Rattle.apcu_model.specs.Expiry.{is_expired}
use Rattle.apcu_model.specs.SlotOrder.{is_in_slot, slot_of}
use Rattle.entry_slots.specs.declared.slots.EntrySlots.{EntrySlots}
use Rattle.entry_slots.specs.Lists.{is_at, begins_at}
use Rattle.entry_slots.specs.Entries.{Entries, chain_of, blocks_of, stored_row, linked}
use Rattle.entry_slots.specs.Standing.{IsRowChain, IsEntry, Stands}
use Rattle.entry_slots.specs.Links.{link_after}
use Rattle.entry_slots.specs.Lower.{Laws}
use Rattle.seg_words.specs.Members.{Contains-cases, count-append, counted_some, Contains-filter}
use Rattle.entry_slots.proofs.RowBlocks.{IsHome, home_row, home_removed, home_unlinked}
use Rattle.entry_slots.proofs.DistinctPlaces.{once, at_itself, count_blocks}
use Rattle.entry_slots.proofs.ChainCuts.{Spot, set_change, set_entry}
use Rattle.entry_slots.proofs.RejoinedChains.{in_front, cut_spot, not_word, back_other, rejoined, other_chain, removed_kept}
use Rattle.entry_slots.proofs.NewEntryBlock.{taken_live}
use Rattle.entry_slots.proofs.NewRows.{count_split, only_passes, count_with_row, with_row_there, other_slot}

module _ {e : EntrySlots} {ws : List ℕ} {aside : Aside} (s : Entries) (h : Stands e ws aside s) (at : ℕ) (key : List ℕ) (g : List Kind) (ttl t : ℕ)
    (taken : Contains s.taken (extent_of (stored_row key g ttl t at s.next_number))) (entry : IsEntry ws (stored_row key g ttl t at s.next_number))
    (slot : ℕ) (lt : slot < e.sma.bounds.from) (is : slot_of s.conf key ≡ slot) (m : ℕ) (front back more : List Row) (split : chain_of s slot ≡ front ++ back) (follows : m ≡ link_after slot front)
    (sub : (q : Row) → Contains more q → Contains back q) (rest : IsRowChain ws (slice_index ws (at + NEXT)) more)
    (own : filter (is_in_slot s.conf slot) (with_row (stored_row key g ttl t at s.next_number) s.rows) ≡ front ++ stored_row key g ttl t at s.next_number ∷ more) where
  new : Row
  new = stored_row key g ttl t at s.next_number

  new_home : IsHome e ws aside (stored_row key g ttl t at s.next_number)
  new_home = record {
    ready = h.ready;
    live = taken_live (extent_of (stored_row key g ttl t at s.next_number)) h taken;
    entry = entry;
    past = omega (arith, h.from, h.usable.slots_least);
    short = omega (arith, h.to, h.usable.words_most, h.ready.end);
  }

  row_elsewhere : (row : Row) → Contains s.rows row → row.place ≢ at
  row_elsewhere row c same = omega (arith, once h at, counted_some (is_at at) s.rows row c (at_itself row at same), counted_some (begins_at at) s.taken (extent_of (stored_row key g ttl t at s.next_number)) taken (eq-eqb at at refl))

  new_other : at + NEXT ≢ m
  new_other = not_word h slot lt m at front back split follows (stored_row key g ttl t at s.next_number) new_home (λ q c.
      row_elsewhere q (Contains-filter (is_in_slot s.conf slot) s.rows q (in_front h slot lt m at front back split follows q c)).0)

  spot : Spot e ws aside m
  spot = cut_spot h slot lt m at front back split follows

  linked_blocks : (test : Extent → Bool) → count_by test (blocks_of s) ≡ count_by test (blocks_of (linked at key g ttl t s))
  linked_blocks test =
      let row : Row = stored_row key g ttl t at s.next_number in
      let p : Row → Bool = λ r. test (extent_of r) in
      omega (
        arith,
        count_blocks test s,
        count_blocks test (linked at key g ttl t s),
        count_with_row p row s.rows h.apart,
        count-append p (filter (has_key key) s.rows) s.unlinked,
        count_split test (begins_at at) s.taken,
        only_passes test (begins_at at) s.taken (extent_of row) taken (eq-eqb at at refl) (omega (arith, once h at)),
      )

  pub linked_stands : Laws → (number count : ℕ) → number ≡ risen s.next_number → count ≡ length (with_row (stored_row key g ttl t at s.next_number) s.rows)
      → ((now : ℕ) → now ≤ e.soonest → is_expired s.conf now (stored_row key g ttl t at s.next_number) ≡ false)
      → Stands (record e { next_number = number; count = count }) (slice_set ws m at) aside (linked at key g ttl t s)
  linked_stands law number count en ec unexpired =
      let row : Row = stored_row key g ttl t at s.next_number in
      record {
        chains = λ two low. elim (cases_eq two slot) [
          | inl same ↦
              let chain : IsRowChain (slice_set ws m at) (slice_index (slice_set ws m at) slot) (front ++ row ∷ more) =
              rejoined h slot lt m at front back split follows (row ∷ more) (refl, rest) (λ q c. elim (Contains-cases row more q c) [
                | inl here ↦ subst (λ (r : Row). r.place + NEXT ≢ m) here new_other
                | inr later ↦ back_other h slot lt m at front back split follows q (sub q later)
              ]) in
              let whole : IsRowChain (slice_set ws m at) (slice_index (slice_set ws m at) slot) (filter (is_in_slot s.conf slot) (with_row row s.rows)) = subst (λ rs. IsRowChain (slice_set ws m at) (slice_index (slice_set ws m at) slot) rs) (sym own) chain in
              subst (λ n. IsRowChain (slice_set ws m at) (slice_index (slice_set ws m at) n) (filter (is_in_slot s.conf n) (with_row row s.rows))) (sym same) whole
          | inr other ↦
              subst (λ rs. IsRowChain (slice_set ws m at) (slice_index (slice_set ws m at) two) rs) (sym (other_slot s two row (λ q. other (sym q ∙ is))))
              (other_chain h slot lt m at front back split follows two (omega (arith, h.from)) other)
        ];
        removed_chain = removed_kept h slot lt m at front back split follows;
        rows = λ x c. elim (with_row_there row s.rows x c) [
          | inl here ↦ subst (λ r. IsEntry (slice_set ws m at) r) (sym here) (set_entry h m at spot law row new_home)
          | inr old ↦ set_entry h m at spot law x (home_row x h old)
        ];
        removed = λ x c. set_entry h m at spot law x (home_removed x h c);
        unlinked = λ x c. elim (Contains-append_cases (filter (has_key key) s.rows) s.unlinked x c) [
          | inl l ↦ set_entry h m at spot law x (home_row x h (Contains-filter (has_key key) s.rows x l).0)
          | inr r ↦ set_entry h m at spot law x (home_unlinked x h r)
        ];
        taken = λ b c. h.taken b (Contains-filter (λ block. not (eqb block.place at)) s.taken b c).0;
        ready = (law.blocks e.sma ws (slice_set ws m at) aside h.ready (set_change h m at spot)).ready;
        blocks = record { count = λ test. ap (count_by test) (law.blocks e.sma ws (slice_set ws m at) aside h.ready (set_change h m at spot)).blocks ∙ (h.blocks.count test ∙ linked_blocks test) };
        apart = law.rows.more row s.rows h.apart;
        number = en;
        count = ec;
        limit = h.limit;
        unexpired = λ now le x c. elim (with_row_there row s.rows x c) [
          | inl here ↦ subst (λ r. is_expired s.conf now r ≡ false) (sym here) (unexpired now le)
          | inr old ↦ h.unexpired now le x old
        ];
        usable = h.usable;
        from = h.from;
        to = h.to;
        piece = h.piece;
      }
