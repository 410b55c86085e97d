use Rattle.std.proofs.Common.{◌≡◌, ℕ, Bool, List, length, refl, sym, ap, ◌∙◌, subst}
use Rattle.std.proofs.lemmas.Bool.{false≢true}
use Rattle.seg_words.specs.Windows.{Aside, held_blocks}
use Rattle.php_graph.specs.Size.{block_size}
use Rattle.apcu_model.specs.Cache.{Row}
use Rattle.apcu_model.specs.Change.{with_room}
use Rattle.entry_slots.specs.declared.spots.Spot.{Spot}
use Rattle.entry_slots.specs.Standing.{entries}
use Rattle.cache_core.specs.Spots.{IsSpotIfAny, HaveSameRows}
use Rattle.cache_core.proofs.SpotsAfterRoom.{rows_stay, still_spot}
use Rattle.seg_words.specs.Probing.{goes_nowhere, goes_on}
use Rattle.std.specs.Prelude.{Option}
use Rattle.apcu_model.specs.declared.conf.Conf.{Conf}
use Rattle.apcu_model.specs.SlotOrder.{slot_of}
use Rattle.entry_slots.specs.Entries.{Entries}
use Rattle.ttl_expunge.specs.Room.{MakesRoom}
use Rattle.cache_core.specs.declared.cache.Core.{Core}
use Rattle.cache_core.specs.CoreCache.{cache_of, CacheStands}
use Rattle.cache_core.proofs.CoreCacheLemmas.{whole_made}
use Rattle.cache_core.proofs.AddedRows.{none_added, row_added}
use Rattle.value_image.specs.Contained.{graph_of}
use Rattle.cache_core.proofs.cache.Core.add.Goals as goal

made_as : {s s1 : Entries} {a0 a1 : Aside} {n n' t : ℕ} {r r' : Option ℕ} {full : Bool} → n ≡ n' → r ≡ r' → MakesRoom s s1 a0 a1 n t r full → MakesRoom s s1 a0 a1 n' t r' full
made_as {s} {s1} {a0} {a1} {n} {n'} {t} {r} {r'} {full} q o m =
    subst (λ (x : Option ℕ). MakesRoom s s1 a0 a1 n' t x full) o (subst (λ (k : ℕ). MakesRoom s s1 a0 a1 k t r full) q m)

pub make_room_next-place-requires-clause-ready : goal.make_room_next-place-requires-clause-ready
make_room_next-place-requires-clause-ready g c = record { stand = c.requires.ready.stand.stand; refused = c.requires.ready.refused }

pub make_room_next-place-requires-clause-limit : goal.make_room_next-place-requires-clause-limit
make_room_next-place-requires-clause-limit g c = ap (λ (x : Entries). x.conf.ttl) (sym c.requires.ready.stand.whole)

pub make_room_next-place-requires-clause-whole : goal.make_room_next-place-requires-clause-whole
make_room_next-place-requires-clause-whole g c = (ap (λ (x : Entries). x.unlinked) c.requires.ready.stand.whole, ap (λ (x : Entries). x.taken) c.requires.ready.stand.whole)

pub put_in-requires-clause-ready : goal.put_in-requires-clause-ready
put_in-requires-clause-ready g c = record { stand = c.make_room_next-place.ensures.stand; refused = c.make_room_next-place.ensures.made.refused }

pub put_in-requires-clause-slot : goal.put_in-requires-clause-slot
put_in-requires-clause-slot g c = c.requires.slot ∙ ap (λ (k : Conf). slot_of k c.args.key.now) (ap (λ (x : Entries). x.conf) (sym c.requires.ready.stand.whole) ∙ sym c.make_room_next-place.ensures.made.conf_is)

pub put_in-requires-clause-limit : goal.put_in-requires-clause-limit
put_in-requires-clause-limit g c = ap (λ (x : Entries). x.conf.ttl) (sym c.requires.ready.stand.whole) ∙ sym (ap (λ k. k.ttl) c.make_room_next-place.ensures.made.conf_is)

pub rows-before-requires : goal.rows-before-requires
rows-before-requires g c = record { stand = record { words = g.S.WordsIn.words c.args.seg.now; aside = g.S.WordsIn.aside c.args.seg.now; stand = c.requires.ready.stand.stand } }

pub rows-after-requires : goal.rows-after-requires
rows-after-requires g c = record { stand = record { words = g.S.WordsIn.words c.make_room_next-place.new.seg; aside = g.S.WordsIn.aside c.make_room_next-place.new.seg; stand = c.make_room_next-place.ensures.stand } }

pub put_in-requires-clause-spot : goal.put_in-requires-clause-spot
put_in-requires-clause-spot g c =
    let old = entries c.args.self.now.slots in
    let new = entries c.make_room_next-place.new.slots in
    let made = made_as c.content_block_words-n.ensures c.in-Some.is c.make_room_next-place.ensures.made in
    let now = g.S.WordsIn.aside c.make_room_next-place.new.seg in
    let cache = cache_of c.args.self.now in
    let n = block_size (length c.args.key.now) (graph_of c.args.content.now) in
    let rows : new.rows ≡ (with_room (held_blocks now) n c.args.t cache).rows = ap (λ (x : Entries). x.rows) (made.room cache now c.requires.ready.stand.whole (goes_nowhere now now refl)) in
    let same : c.rows-after.result ≡ c.rows-before.result → HaveSameRows old new = λ e. record {
      conf = made.conf_is;
      rows = rows ∙ rows_stay (held_blocks now) n c.args.t cache (sym (ap (λ (l : List Row). length l) rows) ∙ (sym c.rows-after.ensures.rows ∙ (e ∙ c.rows-before.ensures.rows)));
    } in
    subst (λ (o : Option Spot). IsSpotIfAny new c.args.key.now c.args.t o) (sym c.if_still-spot.ensures)
    (still_spot c.args.key.now c.args.t c.args.spot c.rows-before.result c.rows-after.result same c.requires.spot)

pub returns-in_default : goal.returns-in_default
returns-in_default g c =
    let core = c.args.self.now in
    let new : Core = record { slots = c.make_room_next-place.new.slots; conf = core.conf; cache_counts = c.after_room-self.result } in
    let made = made_as c.content_block_words-n.ensures c.in_default.is c.make_room_next-place.ensures.made in
    let after = c.after_room-self.ensures in
    let whole = c.requires.ready.stand.whole in
    let now = g.S.WordsIn.aside c.make_room_next-place.new.seg in
    let none = none_added c.lower_laws.ensures core c.args.key.now (graph_of c.args.content.now) c.args.ttl c.args.t new whole made refl
    (record { hits = after.hits; misses = after.misses; inserts = after.inserts; expunges = after.expunges }) in
    let stands : CacheStands g.S.WordsIn new c.make_room_next-place.new.seg = record { stand = c.make_room_next-place.ensures.stand; whole = whole_made new _ (made.room (cache_of core) now whole (goes_nowhere now now refl)) (none now (goes_nowhere now now refl)).0 } in
    record {
      added = λ later on. sym (none later on).1;
      room = refl;
      step = record { goes = made.goes; keeps = made.keeps; refused = λ was. made.refused; stand = stands; rest = c.make_room_next-place.ensures.rest };
      next = record { stand = stands; unrefused = λ was. absurd (false≢true (sym was)); held = λ was. made.held; refused = made.refused };
    }

pub returns : goal.returns
returns g c =
    let core = c.args.self.now in
    let new : Core = record { slots = c.put_in.new.slots; conf = core.conf; cache_counts = c.after_insert-self.result } in
    let made = made_as c.content_block_words-n.ensures c.in-Some.is c.make_room_next-place.ensures.made in
    let puts = c.put_in.ensures.puts in
    let after = c.after_room-self.ensures in
    let between = g.S.WordsIn.aside c.make_room_next-place.new.seg in
    let now = g.S.WordsIn.aside c.put_in.new.seg in
    let done = row_added c.lower_laws.ensures core c.args.key.now (graph_of c.args.content.now) c.args.ttl c.args.t new c.after_room-self.result c.requires.ready.stand.whole made puts refl
    (record { hits = after.hits; misses = after.misses; inserts = after.inserts; expunges = after.expunges }) c.after_insert-self.ensures in
    let all = done now (goes_nowhere now now refl) in
    let stands : CacheStands g.S.WordsIn new c.put_in.new.seg = record { stand = c.put_in.ensures.stand; whole = whole_made new _ all.1 all.0 } in
    record {
      added = λ later on. sym (done later on).2;
      room = refl;
      step = record {
        goes = goes_on (g.S.WordsIn.aside c.args.seg.now) between now made.goes puts.goes;
        keeps = c.lower_laws.ensures.drops.joined (entries core.slots) (entries c.make_room_next-place.new.slots) (entries c.put_in.new.slots) between now puts.goes made.keeps puts.keeps;
        refused = λ was. puts.refused;
        stand = stands;
        rest = c.put_in.ensures.rest ∙ c.make_room_next-place.ensures.rest;
      };
      next = record { stand = stands; unrefused = λ was. absurd (false≢true (sym was)); held = λ was. puts.held made.held; refused = puts.refused };
    }
