-- A step of an iterator, slot by slot.
use Rattle.std.proofs.Common.{◌≡◌, ◌∙◌, ℕ, ◌+◌, ◌<◌, ◌≤◌, ◌&&◌, not, List, ◌++◌, length, map, filter, sym, ap, arith}
use Rattle.std.proofs.lemmas.List.{map-append}
use Rattle.apcu_model.specs.declared.conf.TheConstants.{MOST_USABLE_WORDS}
use Rattle.apcu_model.specs.declared.searching.Fields.{Fields}
use Rattle.apcu_model.specs.declared.searching.List.{List as RowList}
use Rattle.apcu_model.specs.declared.searching.List.TheVariants.{Active, Deleted}
use Rattle.apcu_model.specs.declared.searching.Pattern.{Pattern}
use Rattle.apcu_model.specs.declared.items.Chunk.{Chunk}
use Rattle.apcu_model.specs.declared.items.ItemRow.{ItemRow}
use Rattle.apcu_model.specs.Cache.{Row, Cache}
use Rattle.apcu_model.specs.Chunks.{is_item, item_of, items_between, slot_items, chunk_end, chunk_of}
use Rattle.apcu_model.specs.PatternMatches.{key_matches}
use Rattle.std.specs.Prelude.{Option}
use Rattle.entry_slots.specs.declared.slots.EntrySlots.{EntrySlots}
use Rattle.entry_slots.specs.Entries.{Entries, chain_of, entries_of}
use Rattle.entry_slots.specs.Standing.{entries}
use Rattle.cache_core.specs.declared.cache.Core.{Core}
use Rattle.cache_core.specs.CoreCache.{cache_of}
use Rattle.row_search.specs.Choices.{Choice, is_chosen, is_skipped_in, uncounted}
use Rattle.apcu_iter.proofs.RowBounds.{AreFew, fewer}
use Rattle.apcu_iter.proofs.SlotRows.{is_between, between_is, length_ordered}
use Rattle.apcu_iter.proofs.ChunkEnds.{one_more}

-- the active rows that are chosen are the items
pub active_is : (choice : Choice) (rows : List Row) → choice.list ≡ Active
    → filter (is_chosen choice) rows ≡ filter (is_item choice.pattern choice.t) rows
active_is choice rows active =
    ap (λ (list : RowList). filter (λ (row : Row).
    not (is_skipped_in list choice.t row) && key_matches choice.pattern row.key) rows) active

-- what is made of the items up to a slot, with those of the slot
pub slot_more : {X : Type 0} (f : Row → X) (choice : Choice) (s : Entries) (from at : ℕ)
    (old new : List X) → choice.list ≡ Active → from ≤ at
    → old ≡ map f (items_between choice.pattern choice.t (uncounted s) from at)
    → new ≡ old ++ map f (filter (is_chosen choice) (chain_of s at))
    → new ≡ map f (items_between choice.pattern choice.t (uncounted s) from (at + 1))
slot_more f choice s from at old new active low were is =
    let c = uncounted s in
    let before = items_between choice.pattern choice.t c from at in
    let here = slot_items choice.pattern choice.t c at in
    is ∙ ap (λ l. old ++ map f l) (active_is choice (chain_of s at) active)
    ∙ ap (λ l. l ++ map f here) were ∙ sym (map-append f before here)
    ∙ sym (ap (map f) (one_more choice.pattern choice.t c from at low))

-- they are few
pub between_few : (wanted : Option Pattern) (t : ℕ) (s : Entries) (from upto : ℕ)
    → AreFew s.conf.words s.rows s.removed → 0 < s.conf.slots → from ≤ upto → upto ≤ s.conf.slots
    → length (items_between wanted t (uncounted s) from upto) ≤ MOST_USABLE_WORDS
between_few wanted t s from upto few some low high =
    let p = is_between (is_item wanted t) s.conf from upto in
    omega (
      arith,
      few.count,
      few.most,
      ap (length {A = Row}) (between_is (is_item wanted t) s.conf from upto s.rows low high),
      length_ordered s.conf (filter p s.rows) some,
      fewer p s.rows,
    )

-- the step
pub chunk_made : (wanted : Option Pattern) (t : ℕ) (c : Cache) (fields : Fields) (from size next : ℕ)
    (items : List ItemRow) → chunk_end wanted t c from size ≡ next
    → items ≡ map (item_of fields) (items_between wanted t c from next)
    → ◌≡◌ {A = Chunk} (record { next = next; items = items }) (chunk_of wanted from size Active fields t c)
chunk_made wanted t c fields from size next items end is =
    let all = is ∙ ap (λ n. map (item_of fields) (items_between wanted t c from n)) (sym end) in
    λ i. record { next = sym end i; items = all i }

-- ---- the removed rows

pub deleted_is : (choice : Choice) (rows : List Row) → choice.list ≡ Deleted
    → filter (is_chosen choice) rows ≡ filter (λ (row : Row). key_matches choice.pattern row.key) rows
deleted_is choice rows deleted =
    ap (λ (list : RowList). filter (λ (row : Row).
    not (is_skipped_in list choice.t row) && key_matches choice.pattern row.key) rows) deleted

-- ---- of a core

pub active_told : (core : Core) (slots : EntrySlots) (choice : Choice) (wanted : Option Pattern)
    (list : RowList) (fields : Fields) (from size t : ℕ) → slots ≡ core.slots
    → entries core.slots ≡ entries_of (cache_of core)
    → choice ≡ record { pattern = wanted; list = list; t = t } → list ≡ Active
    → chunk_of choice.pattern from size Active fields choice.t (uncounted (entries slots))
    ≡ chunk_of wanted from size list fields t (cache_of core)
active_told core slots choice wanted list fields from size t same whole is active =
    ap (λ (c : Choice). chunk_of c.pattern from size Active fields c.t (uncounted (entries slots))) is
    ∙ ap (λ (e : EntrySlots). chunk_of wanted from size Active fields t (uncounted (entries e))) same
    ∙ ap (λ (s : Entries). chunk_of wanted from size Active fields t (uncounted s)) whole
    ∙ ap (λ (l : RowList). chunk_of wanted from size l fields t (cache_of core)) (sym active)

pub deleted_told : (core : Core) (slots : EntrySlots) (choice : Choice) (wanted : Option Pattern)
    (list : RowList) (fields : Fields) (from size t : ℕ) → slots ≡ core.slots
    → entries core.slots ≡ entries_of (cache_of core)
    → choice ≡ record { pattern = wanted; list = list; t = t } → list ≡ Deleted
    → chunk_of choice.pattern 0 0 Deleted fields 0 (uncounted (entries slots))
    ≡ chunk_of wanted from size list fields t (cache_of core)
deleted_told core slots choice wanted list fields from size t same whole is deleted =
    ap (λ (c : Choice). chunk_of c.pattern 0 0 Deleted fields 0 (uncounted (entries slots))) is
    ∙ ap (λ (e : EntrySlots). chunk_of wanted 0 0 Deleted fields 0 (uncounted (entries e))) same
    ∙ ap (λ (s : Entries). chunk_of wanted 0 0 Deleted fields 0 (uncounted s)) whole
    ∙ ap (λ (l : RowList). chunk_of wanted from size l fields t (cache_of core)) (sym deleted)
