-- The rows of a step are dropped.
use Rattle.std.proofs.Common.{◌≡◌, ◌∙◌, inl, inr, ℕ, zero, suc, ◌+◌, ◌-◌, ◌≤◌, Bool, cond, List, filter, sym, ap, subst, arith}
use Rattle.std.specs.Prelude.{find, unwrap_or, Option}
use Rattle.std.specs.List.{Contains, count_by, range_with_len}
use Rattle.std.proofs.lemmas.Bool.{cases_Bool}
use Rattle.seg_words.specs.Members.{Contains-filter}
use Rattle.seg_words.specs.Probing.{Goes}
use Rattle.seg_words.specs.Windows.{Aside, held_blocks}
use Rattle.apcu_model.specs.declared.searching.Pattern.{Pattern}
use Rattle.apcu_model.specs.Cache.{Row, Cache}
use Rattle.apcu_model.specs.Chunks.{chunk_dropped, chunk_end, chunk_rows, is_item}
use Rattle.apcu_model.specs.Facts.{order_from}
use Rattle.apcu_model.specs.SlotOrder.{in_slot_order}
use Rattle.entry_slots.specs.declared.slots.EntrySlots.{EntrySlots}
use Rattle.entry_slots.specs.Lists.{is_at}
use Rattle.entry_slots.specs.Entries.{Entries, entries_of}
use Rattle.entry_slots.specs.Facts.{IsSound}
use Rattle.entry_slots.specs.Standing.{Stands, entries}
use Rattle.entry_slots.specs.Sums.{all_slots}
use Rattle.ttl_expunge.specs.Dropping.{dropped_rows}
use Rattle.ttl_expunge.specs.ProbedRows.{Drops}
use Rattle.ttl_expunge.specs.Lists.{row_places, AreRowsAt}
use Rattle.cache_core.specs.declared.cache.Core.{Core}
use Rattle.cache_core.specs.CoreCache.{cache_of}
use Rattle.cache_core.specs.LentEntries.{with_slots}
use Rattle.row_search.specs.Choices.{uncounted}
use Rattle.ttl_expunge.specs.Laws.{DropLaws}
use Rattle.entry_slots.specs.Laws.{StandingLaws}
use Rattle.apcu_iter.proofs.RowBounds.{some_of}
use Rattle.apcu_iter.proofs.SlotRows.{between_is, is_between}

-- ---- which rows they are

-- the first number of some that passes is one of them, or the number behind them
pub record IsWithin (from upto end : ℕ) : Type 0 where
  pub low : from ≤ end
  pub high : end ≤ upto

found_within : (test : ℕ → Bool) (n a upto : ℕ) → a + n ≡ upto
    → IsWithin a upto (unwrap_or (find test (range_with_len a n)) upto)
found_within test zero a upto e = record { low = omega (arith, e); high = omega arith }
found_within test (suc n) a upto e = elim (cases_Bool (test a)) [
  | inl t ↦ rw t (record { low = omega arith; high = omega (arith, e) })
  | inr f ↦
      let later = found_within test n (a + 1) upto (omega (arith, e)) in
      rw f (record { low = omega (arith, later.low); high = later.high })
]

pub end_within : (wanted : Option Pattern) (t : ℕ) (c : Cache) (from size : ℕ) → from ≤ c.conf.slots
    → IsWithin from c.conf.slots (chunk_end wanted t c from size)
end_within wanted t c from size low =
    found_within _ (c.conf.slots - from) from c.conf.slots (omega (arith, low))

-- the row is one of the step
abbrev pub is_in_step : Option Pattern → ℕ → Entries → ℕ → ℕ → Row → Bool
is_in_step wanted t s from size =
    is_between (is_item wanted t) s.conf from (chunk_end wanted t (uncounted s) from size)

-- by slot and place they are the rows of the step
pub chunk_ordered : (wanted : Option Pattern) (t : ℕ) (s : Entries) (from size : ℕ)
    → from ≤ s.conf.slots → chunk_rows wanted t (uncounted s) from size
    ≡ in_slot_order s.conf (filter (is_in_step wanted t s from size) s.rows)
chunk_ordered wanted t s from size low =
    let end = end_within wanted t (uncounted s) from size low in
    between_is (is_item wanted t) s.conf from (chunk_end wanted t (uncounted s) from size) s.rows
    end.low end.high

-- they are rows, each once
pub rows_of_chunk : {s : Entries} {words windows : List ℕ} (wanted : Option Pattern) (t from size : ℕ)
    (places : List ℕ) → IsSound s words windows → from ≤ s.conf.slots
    → places ≡ row_places (chunk_rows wanted t (uncounted s) from size)
    → AreRowsAt s.rows places (chunk_rows wanted t (uncounted s) from size)
rows_of_chunk {s} wanted t from size places sound low are =
    let pass = is_in_step wanted t s from size in
    let ordered = chunk_ordered wanted t s from size low in
    record {
      places_are = sym are;
      there = λ row c.
          (Contains-filter pass s.rows row (order_from s.conf (filter pass s.rows) row (subst (λ l. Contains l row) ordered c))).0;
      once = λ at.
          let one : Row → ℕ = λ row. cond (is_at at row) 1 0 in
          omega (
            arith,
            ap (count_by (is_at at)) ordered,
            all_slots one s.conf (filter pass s.rows) (omega (arith, sound.usable.slots_least)),
            some_of one pass s.rows,
            sound.once at,
          );
    }

-- so are those that were collected where a core lent its entries
pub rows_collected : StandingLaws → (core : Core) (slots : EntrySlots) (words : List ℕ) (aside : Aside)
    (wanted : Option Pattern) (t from size : ℕ) (places : List ℕ) → slots ≡ core.slots
    → Stands core.slots words aside (entries core.slots)
    → entries core.slots ≡ entries_of (cache_of core) → from ≤ core.conf.slots
    → places ≡ row_places (chunk_rows wanted t (uncounted (entries slots)) from size)
    → AreRowsAt (entries slots).rows places (chunk_rows wanted t (uncounted (entries slots)) from size)
rows_collected laws core slots words aside wanted t from size places value stand whole low are =
    let stands = subst (λ (e : EntrySlots). Stands e words aside (entries e)) (sym value) stand in
    let within = subst (λ (e : EntrySlots). from ≤ (entries e).conf.slots) (sym value)
    (subst (λ (s : Entries). from ≤ s.conf.slots) (sym whole) low) in
    rows_of_chunk wanted t from size places (laws.sound slots words aside (entries slots) stands) within are

-- ---- the cache then

-- they were dropped, as the core has it that lent its entries
pub drops_of_core : (core : Core) (slots : EntrySlots) {new : Entries} {before start after : Aside}
    {t : ℕ} {gone all : List Row} → slots ≡ core.slots → before ≡ start → gone ≡ all
    → Drops (entries slots) new before after t gone → Drops (entries core.slots) new start after t all
drops_of_core core slots {new} {before} {start} {after} {t} {gone} {all} value same are drops =
    subst (λ (l : List Row). Drops (entries core.slots) new start after t l) are
    (subst (λ (a : Aside). Drops (entries core.slots) new a after t gone) same
    (subst (λ (e : EntrySlots). Drops (entries e) new before after t gone) value drops))

pub core_dropped : DropLaws → (old : Core) (slots : EntrySlots) {before after : Aside}
    (wanted : Option Pattern) (from size t : ℕ) → entries old.slots ≡ entries_of (cache_of old)
    → Drops (entries old.slots) (entries slots) before after t (chunk_rows wanted t (uncounted (entries old.slots)) from size)
    → (later : Aside) → Goes after later
    → entries slots ≡ entries_of (chunk_dropped (held_blocks later) wanted from size t (cache_of old))
core_dropped laws old slots {before} {after} wanted from size t whole drops later on =
    let s = entries old.slots in
    laws.later s (entries slots) before after later t (chunk_rows wanted t (uncounted s) from size) drops on
    ∙ ap (λ (x : Entries). dropped_rows (held_blocks later) t (chunk_rows wanted t (uncounted x) from size) x) whole

-- what a core is whose entries are those of that cache
pub record IsDropped (core : Core) (gone : Cache) : Type 0 where
  pub cache : cache_of core ≡ gone
  pub whole : entries core.slots ≡ entries_of (cache_of core)

pub cache_dropped : (old : Core) (slots : EntrySlots) (held : List ℕ) (wanted : Option Pattern)
    (from size t : ℕ) → entries slots ≡ entries_of (chunk_dropped held wanted from size t (cache_of old))
    → IsDropped (with_slots old slots) (chunk_dropped held wanted from size t (cache_of old))
cache_dropped old slots held wanted from size t e =
    let same : cache_of (with_slots old slots) ≡ chunk_dropped held wanted from size t (cache_of old) =
    ap (λ (s : Entries). let x : Cache = record (cache_of old) { rows = s.rows; removed = s.removed; next_number = s.next_number } in x) e in
    record { cache = same; whole = e ∙ ap entries_of (sym same) }
