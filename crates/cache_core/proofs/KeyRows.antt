-- The row of a key is dropped, or used.
use Rattle.std.proofs.Common.{◌≡◌, inl, inr, ℕ, ◌≤◌, Bool, true, false, cond, List, [], ◌∷◌, map, filter, Option, Some, refl, sym, ap, ◌∙◌, subst, arith}
use Rattle.std.specs.Prelude.{ℤ, is_some, if◌then◌else◌}
use Rattle.std.specs.List.{Contains, count_by}
use Rattle.std.proofs.lemmas.Bool.{cases_Bool, eq-eqb, false≢true, false_from_ne_true}
use Rattle.seg_words.specs.Windows.{Aside, held_blocks}
use Rattle.seg_words.specs.Probing.{Goes}
use Rattle.apcu_model.specs.Cache.{Row, Cache, has_key, risen}
use Rattle.apcu_model.specs.Counters.{with_integer, with_integer_at, integer_set}
use Rattle.apcu_model.specs.Change.{dropped, deleted, cleared, leaving}
use Rattle.apcu_model.specs.Expiry.{live_row}
use Rattle.apcu_model.specs.Sequential.{touched, looked_up}
use Rattle.entry_slots.specs.Lists.{is_at, only_at}
use Rattle.entry_slots.specs.Entries.{Entries, entries_of, touched_row, touched_in, number_row, with_number}
use Rattle.entry_slots.specs.Facts.{IsSound}
use Rattle.ttl_expunge.specs.Dropping.{dropped_rows}
use Rattle.ttl_expunge.specs.ProbedRows.{Drops}
use Rattle.entry_slots.specs.Standing.{entries}
use Rattle.cache_core.specs.declared.cache.Core.{Core}
use Rattle.cache_core.specs.declared.cache_counts.CacheCounts.{CacheCounts}
use Rattle.cache_core.specs.CoreCache.{cache_of}
use Rattle.cache_core.specs.Uses.{used_at}
use Rattle.cache_core.specs.Laws.{CacheLaws}
use Rattle.cache_core.proofs.CoreCacheLemmas.{cache_made, whole_made}
use Rattle.seg_words.specs.Members.{counted_some, count-cons, none_counted, Contains-first, Contains-later, Contains-cases, Contains-filter, Contains-kept}
use Rattle.entry_slots.specs.RowPlaces.{only_none}
use Rattle.cache_core.proofs.ReplacedRows.{IsOld}

-- the row at a place where one row at most is
only_once : (at : ℕ) (rows : List Row) (row : Row) → Contains rows row → row.place ≡ at → count_by (is_at at) rows ≤ 1 → only_at at rows ≡ row ∷ []
only_once at [] row c place few = absurd (omega (arith, c.1))
only_once at (r ∷ rows) row c place few = elim (Contains-cases r rows row c) [
  | inl same ↦
      let here : is_at at r ≡ true = eq-eqb r.place at (ap (λ (x : Row). x.place) same ∙ place) in
      let one : cond {A = ℕ} (is_at at r) 1 0 ≡ 1 = ap (λ (b : Bool). cond {A = ℕ} b 1 0) here in
      let none = none_counted (is_at at) rows (omega (arith, few, one, count-cons (is_at at) r rows)) in
      ap (λ b. cond b (r ∷ only_at at rows) (only_at at rows)) here ∙ (ap (λ l. r ∷ l) (only_none at rows none) ∙ ap (λ (x : Row). x ∷ []) same)
  | inr later ↦
      let some : 1 ≤ count_by (is_at at) rows = counted_some (is_at at) rows row later (eq-eqb row.place at place) in
      let none : is_at at r ≡ false = false_from_ne_true (is_at at r) (λ h.
      let one : cond {A = ℕ} (is_at at r) 1 0 ≡ 1 = ap (λ (b : Bool). cond {A = ℕ} b 1 0) h in
      omega (arith, few, one, some, count-cons (is_at at) r rows)) in
      ap (λ b. cond b (r ∷ only_at at rows) (only_at at rows)) none ∙ only_once at rows row later place (omega (arith, few, count-cons (is_at at) r rows))
]

-- the rows were dropped, by the blocks that are held later too
pub gone_later : (laws : CacheLaws) {s new : Entries} {before after : Aside} {t : ℕ} {gone : List Row} (c : Cache) → Drops s new before after t gone → s ≡ entries_of c → (later : Aside) → Goes after later
    → new ≡ entries_of (dropped (held_blocks later) t gone c)
gone_later laws {s} {new} {before} {after} {t} {gone} c drops e later on =
    laws.drops.later s new before after later t gone drops on ∙ ap (λ (x : Entries). dropped_rows (held_blocks later) t gone x) e

map_alike : (f h : Row → Row) (rows : List Row) → ((row : Row) → Contains rows row → f row ≡ h row) → map f rows ≡ map h rows
map_alike f h [] e = refl
map_alike f h (row ∷ rows) e = ap (λ x. x ∷ map f rows) (e row (Contains-first row rows)) ∙ ap (λ l. h row ∷ l) (map_alike f h rows (λ r c. e r (Contains-later row rows r c)))

-- the row at `at` is the one of the key
pub at_key : {s : Entries} {words windows : List ℕ} (key : List ℕ) (at : ℕ) → IsOld s key at → IsSound s words windows → (row : Row) → Contains s.rows row → is_at at row ≡ has_key key row
at_key {s} key at o sound row c = elim (cases_Bool (has_key key row)) [
  | inl is ↦ (Contains-filter (is_at at) s.rows row (subst (λ l. Contains l row) (sym only) (Contains-kept (has_key key) s.rows row c is))).1 ∙ sym is
  | inr isnt ↦ false_from_ne_true (is_at at row) (λ t.
      false≢true (sym isnt ∙ (Contains-filter (has_key key) s.rows row (subst (λ l. Contains l row) only (Contains-kept (is_at at) s.rows row c t))).1)) ∙ sym isnt
]
  where
    only : only_at at s.rows ≡ filter (has_key key) s.rows
    only = only_once at s.rows o.row o.there o.place (omega (arith, sound.once at)) ∙ sym o.one

-- it was used
pub touched_keyed : {s : Entries} {words windows : List ℕ} (key : List ℕ) (at t : ℕ) → IsOld s key at → IsSound s words windows
    → map {A = Row} {B = Row} (touched_row at t) s.rows ≡ map {A = Row} {B = Row} (λ r. if has_key key r then touched t r else r) s.rows
touched_keyed {s} key at t o sound =
    map_alike (touched_row at t) (λ r. if has_key key r then touched t r else r) s.rows (λ row c. ap (λ (b : Bool). if b then touched t row else row) (at_key key at o sound row c))

-- it holds an integer that was set
pub set_keyed : {s : Entries} {words windows : List ℕ} (key : List ℕ) (at : ℕ) (n : ℤ) (t : ℕ) → IsOld s key at → IsSound s words windows
    → map {A = Row} {B = Row} (number_row at n t) s.rows ≡ map {A = Row} {B = Row} (with_integer_at key n t) s.rows
set_keyed {s} key at n t o sound =
    map_alike (number_row at n t) (with_integer_at key n t) s.rows (λ row c. ap (λ (b : Bool). if b then with_integer n t row else row) (at_key key at o sound row c))

-- a core's cache once the row of a key was dropped
pub core_deleted : (laws : CacheLaws) (old new : Core) {before after : Aside} {words windows : List ℕ} (key : List ℕ) (t at : ℕ) → entries old.slots ≡ entries_of (cache_of old) → IsOld (entries old.slots) key at
    → IsSound (entries old.slots) words windows → Drops (entries old.slots) (entries new.slots) before after t (only_at at (entries old.slots).rows) → new.conf ≡ old.conf → new.cache_counts ≡ old.cache_counts
    → is_some (live_row key t (cache_of old)) ≡ true → (later : Aside) → Goes after later → (cache_of new ≡ deleted (held_blocks later) key t (cache_of old)) × (entries new.slots ≡ entries_of (cache_of new))
core_deleted laws old new {before} {after} key t at whole o sound drops conf cache_counts live later on =
    let s = entries old.slots in
    let only : only_at at s.rows ≡ o.row ∷ [] = only_once at s.rows o.row o.there o.place (omega (arith, sound.once at)) in
    let keyed : Drops s (entries new.slots) before after t (filter (has_key key) s.rows) =
    subst (λ (l : List Row). Drops s (entries new.slots) before after t l) (only ∙ sym o.one) drops in
    let gone : Cache = dropped (held_blocks later) t (filter (has_key key) s.rows) (cache_of old) in
    let e : entries new.slots ≡ entries_of gone = gone_later laws (cache_of old) keyed whole later on in
    let same : cache_of new ≡ gone = cache_made new gone e conf (record {
      hits = ap (λ (x : CacheCounts). x.hits) cache_counts;
      misses = ap (λ (x : CacheCounts). x.misses) cache_counts;
      inserts = ap (λ (x : CacheCounts). x.inserts) cache_counts;
      expunges = ap (λ (x : CacheCounts). x.expunges) cache_counts;
    }) in (
      same ∙ ap (λ (b : Bool). if b then gone else cache_of old) (sym live),
      whole_made new gone e same,
    )

-- and once all rows were
pub core_cleared : (laws : CacheLaws) (old new : Core) {before after : Aside} (t : ℕ) → entries old.slots ≡ entries_of (cache_of old)
    → Drops (entries old.slots) (entries new.slots) before after t (leaving (entries old.slots).conf (entries old.slots).rows) → new.conf ≡ old.conf → new.cache_counts ≡ record { hits = 0; misses = 0; inserts = 0; expunges = 0 }
    → (later : Aside) → Goes after later → (cache_of new ≡ cleared (held_blocks later) t (cache_of old)) × (entries new.slots ≡ entries_of (cache_of new))
core_cleared laws old new {before} {after} t whole drops conf cache_counts later on =
    let s = entries old.slots in
    let gone : Cache = cleared (held_blocks later) t (cache_of old) in
    let order = ap (λ (x : Entries). leaving x.conf s.rows) whole in
    let e : entries new.slots ≡ entries_of gone = gone_later laws (cache_of old) (subst (λ (l : List Row). Drops s (entries new.slots) before after t l) order drops) whole later on in
    let same : cache_of new ≡ gone = cache_made new gone e conf (record {
      hits = ap (λ (x : CacheCounts). x.hits) cache_counts;
      misses = ap (λ (x : CacheCounts). x.misses) cache_counts;
      inserts = ap (λ (x : CacheCounts). x.inserts) cache_counts;
      expunges = ap (λ (x : CacheCounts). x.expunges) cache_counts;
    }) in
    (same, whole_made new gone e same)

-- a core's cache once the row at a place was used
pub core_used : (old new : Core) (at t : ℕ) → entries old.slots ≡ entries_of (cache_of old) → entries new.slots ≡ touched_in at t (entries old.slots) → new.conf ≡ old.conf → new.cache_counts ≡ record old.cache_counts { hits = risen old.cache_counts.hits }
    → (cache_of new ≡ used_at at t (cache_of old)) × (entries new.slots ≡ entries_of (cache_of new))
core_used old new at t whole now conf cache_counts =
    let d : Cache = used_at at t (cache_of old) in
    let e : entries new.slots ≡ entries_of d = now ∙ ap (λ (y : Entries). touched_in at t y) whole in
    let same : cache_of new ≡ d = cache_made new d e conf (record {
      hits = ap (λ (x : CacheCounts). x.hits) cache_counts;
      misses = ap (λ (x : CacheCounts). x.misses) cache_counts;
      inserts = ap (λ (x : CacheCounts). x.inserts) cache_counts;
      expunges = ap (λ (x : CacheCounts). x.expunges) cache_counts;
    }) in
    (same, whole_made new d e same)

-- that is the one of the key
pub used_keyed : (old : Core) {words windows : List ℕ} (key : List ℕ) (at t : ℕ) (row : Row) → IsOld (entries old.slots) key at → IsSound (entries old.slots) words windows
    → used_at at t (cache_of old) ≡ looked_up key t (Some row) (cache_of old)
used_keyed old key at t row o sound =
    ap (λ (l : List Row). let x : Cache = record (cache_of old) { rows = l; hits = risen (cache_of old).hits } in x) (touched_keyed key at t o sound)

-- so it is once a look-up found it
pub core_touched : (old new : Core) {words windows : List ℕ} (key : List ℕ) (t at : ℕ) (row : Row) → entries old.slots ≡ entries_of (cache_of old) → IsOld (entries old.slots) key at → IsSound (entries old.slots) words windows
    → entries new.slots ≡ touched_in at t (entries old.slots) → new.conf ≡ old.conf → new.cache_counts ≡ record old.cache_counts { hits = risen old.cache_counts.hits } → live_row key t (cache_of old) ≡ Some row
    → (cache_of new ≡ looked_up key t (live_row key t (cache_of old)) (cache_of old)) × (entries new.slots ≡ entries_of (cache_of new))
core_touched old new key t at row whole o sound now conf cache_counts live =
    let used = core_used old new at t whole now conf cache_counts in
    (used.0 ∙ (used_keyed old key at t row o sound ∙ ap (λ (r : Option Row). looked_up key t r (cache_of old)) (sym live)), used.1)

-- a core's cache once the row at a place holds an integer that was set
abbrev pub numbered : ℕ → ℤ → ℕ → Cache → Cache
numbered at n t c = record c { rows = map {A = Row} {B = Row} (number_row at n t) c.rows }

pub core_numbered : (old new : Core) (at : ℕ) (n : ℤ) (t : ℕ) → entries old.slots ≡ entries_of (cache_of old) → entries new.slots ≡ with_number at n t (entries old.slots) → new.conf ≡ old.conf → new.cache_counts ≡ old.cache_counts
    → (cache_of new ≡ numbered at n t (cache_of old)) × (entries new.slots ≡ entries_of (cache_of new))
core_numbered old new at n t whole now conf cache_counts =
    let d : Cache = numbered at n t (cache_of old) in
    let e : entries new.slots ≡ entries_of d = now ∙ ap (λ (y : Entries). with_number at n t y) whole in
    let same : cache_of new ≡ d = cache_made new d e conf (record {
      hits = ap (λ (x : CacheCounts). x.hits) cache_counts;
      misses = ap (λ (x : CacheCounts). x.misses) cache_counts;
      inserts = ap (λ (x : CacheCounts). x.inserts) cache_counts;
      expunges = ap (λ (x : CacheCounts). x.expunges) cache_counts;
    }) in
    (same, whole_made new d e same)

-- that is the one of the key
pub numbered_keyed : (old : Core) {words windows : List ℕ} (key : List ℕ) (at : ℕ) (n : ℤ) (t : ℕ) → IsOld (entries old.slots) key at → IsSound (entries old.slots) words windows
    → numbered at n t (cache_of old) ≡ integer_set key n t (cache_of old)
numbered_keyed old key at n t o sound =
    ap (λ (l : List Row). let x : Cache = record (cache_of old) { rows = l } in x) (set_keyed key at n t o sound)
