-- A new row is added: what a core's cache is then.
use Rattle.std.proofs.Common.{◌≡◌, ℕ, Bool, List, length, Option, Some, None, refl, sym, ap, ◌∙◌}
use Rattle.std.specs.Prelude.{if◌then◌else◌}
use Rattle.seg_words.specs.Windows.{Aside, held_blocks}
use Rattle.seg_words.specs.Probing.{Goes, goes_on}
use Rattle.php_graph.specs.declared.kind.Kind.{Kind}
use Rattle.php_graph.specs.Size.{block_size}
use Rattle.apcu_model.specs.declared.request.StoreAnswer.TheVariants.{NoRoom, Stored}
use Rattle.apcu_model.specs.Cache.{Cache, risen}
use Rattle.apcu_model.specs.Change.{Insertion, with_room, placed}
use Rattle.entry_slots.specs.Entries.{Entries, entries_of}
use Rattle.entry_slots.specs.Standing.{entries}
use Rattle.ttl_expunge.specs.Room.{with_found, MakesRoom}
use Rattle.cache_core.specs.declared.cache.Core.{Core}
use Rattle.cache_core.specs.declared.cache_counts.CacheCounts.{CacheCounts}
use Rattle.cache_core.specs.CoreCache.{cache_of}
use Rattle.cache_core.specs.Laws.{CacheLaws}
use Rattle.cache_core.specs.Placing.{Puts}
use Rattle.cache_core.specs.Storing.{added}
use Rattle.cache_core.proofs.CoreCacheLemmas.{AreCounts, cache_made, counts_after_room, own_counts}
use Rattle.cache_core.proofs.Insertions.{added_at}

-- what is counted once room was made
pub record IsAfterRoom (full : Bool) (old new : CacheCounts) : Type 0 where
  pub hits : new.hits ≡ (if full then 0 else old.hits)
  pub misses : new.misses ≡ (if full then 0 else old.misses)
  pub inserts : new.inserts ≡ (if full then 0 else old.inserts)
  pub expunges : new.expunges ≡ (if full then risen old.expunges else old.expunges)

module _ (laws : CacheLaws) (old : Core) (key : List ℕ) (graph : List Kind) (ttl t : ℕ) where
  room_counts : {s : Entries} {a0 a1 : Aside} {place : Option ℕ} {full : Bool} (cache_counts : CacheCounts) → entries old.slots ≡ entries_of (cache_of old) → MakesRoom (entries old.slots) s a0 a1 (block_size (length key) graph) t place full
      → IsAfterRoom full old.cache_counts cache_counts → (later : Aside) → Goes a1 later → AreCounts cache_counts (with_room (held_blocks later) (block_size (length key) graph) t (cache_of old))
  room_counts {full = full} cache_counts whole m after later on =
      counts_after_room laws (held_blocks later) (block_size (length key) graph) t (cache_of old) old.cache_counts cache_counts full (m.full_is (cache_of old) later whole on) (own_counts old) after.hits after.misses after.inserts after.expunges

  room_conf : {s : Entries} {a0 a1 : Aside} {place : Option ℕ} {full : Bool} → entries old.slots ≡ entries_of (cache_of old) → MakesRoom (entries old.slots) s a0 a1 (block_size (length key) graph) t place full
      → (later : Aside) → Goes a1 later → old.conf ≡ (with_room (held_blocks later) (block_size (length key) graph) t (cache_of old)).conf
  room_conf {s} {place = place} whole m later on =
      sym (ap (λ (x : Entries). x.conf) whole) ∙ (sym m.conf_is ∙ (ap (λ (x : Entries). x.conf) (m.room (cache_of old) later whole on) ∙ block_conf place))
    where
      block_conf : (p : Option ℕ) → (with_found p (block_size (length key) graph) (entries_of (with_room (held_blocks later) (block_size (length key) graph) t (cache_of old)))).conf
          ≡ (with_room (held_blocks later) (block_size (length key) graph) t (cache_of old)).conf
      block_conf None = refl
      block_conf (Some at) = refl

  -- no gap was large enough
  pub none_added : (new : Core) {a0 a1 : Aside} {full : Bool} → entries old.slots ≡ entries_of (cache_of old) → MakesRoom (entries old.slots) (entries new.slots) a0 a1 (block_size (length key) graph) t None full
      → new.conf ≡ old.conf → IsAfterRoom full old.cache_counts new.cache_counts → (later : Aside) → Goes a1 later
      → (cache_of new ≡ with_room (held_blocks later) (block_size (length key) graph) t (cache_of old)) × (added (held_blocks later) key graph ttl t (cache_of old) ≡ record { answer = NoRoom; cache = cache_of new })
  none_added new whole m conf after later on =
      let room : Cache = with_room (held_blocks later) (block_size (length key) graph) t (cache_of old) in
      let same : cache_of new ≡ room = cache_made new room (m.room (cache_of old) later whole on) (conf ∙ room_conf whole m later on) (room_counts new.cache_counts whole m after later on) in (
        same,
        added_at (held_blocks later) key graph ttl t (cache_of old) None (m.place_is (cache_of old) later whole on)
            ∙ ap (λ (c : Cache). let i : Insertion = record { answer = NoRoom; cache = c } in i) (sym same),
      )

  -- the row was put
  pub row_added : (new : Core) {s : Entries} {a0 a1 a2 : Aside} {at : ℕ} {full : Bool} (cache_counts : CacheCounts) → entries old.slots ≡ entries_of (cache_of old) → MakesRoom (entries old.slots) s a0 a1 (block_size (length key) graph) t (Some at) full
      → Puts s (entries new.slots) a1 a2 at key graph ttl t → new.conf ≡ old.conf → IsAfterRoom full old.cache_counts cache_counts → new.cache_counts ≡ record cache_counts { inserts = risen cache_counts.inserts } → (later : Aside) → Goes a2 later
      → (cache_of new ≡ placed (held_blocks later) key graph ttl t (block_size (length key) graph) (with_room (held_blocks later) (block_size (length key) graph) t (cache_of old)) at)
      × (entries new.slots ≡ entries_of (placed (held_blocks later) key graph ttl t (block_size (length key) graph) (with_room (held_blocks later) (block_size (length key) graph) t (cache_of old)) at))
      × (added (held_blocks later) key graph ttl t (cache_of old) ≡ record { answer = Stored; cache = cache_of new })
  row_added new {s} {a0} {a1} {a2} {at} cache_counts whole m p conf after inserted later on =
      let room : Cache = with_room (held_blocks later) (block_size (length key) graph) t (cache_of old) in
      let on' : Goes a1 later = goes_on a1 a2 later p.goes on in
      let put : Cache = placed (held_blocks later) key graph ttl t (block_size (length key) graph) room at in
      let e : entries new.slots ≡ entries_of put = p.placed_is room later (m.room (cache_of old) later whole on') on in
      let counts = room_counts cache_counts whole m after later on' in
      let counted : AreCounts new.cache_counts put = record {
        hits = ap (λ (x : CacheCounts). x.hits) inserted ∙ counts.hits;
        misses = ap (λ (x : CacheCounts). x.misses) inserted ∙ counts.misses;
        inserts = ap (λ (x : CacheCounts). x.inserts) inserted ∙ ap risen counts.inserts;
        expunges = ap (λ (x : CacheCounts). x.expunges) inserted ∙ counts.expunges;
      } in
      let same : cache_of new ≡ put = cache_made new put e (conf ∙ room_conf whole m later on') counted in (
        same,
        e,
        added_at (held_blocks later) key graph ttl t (cache_of old) (Some at) (m.place_is (cache_of old) later whole on')
            ∙ ap (λ (c : Cache). let i : Insertion = record { answer = Stored; cache = c } in i) (sym same),
      )
