use Rattle.std.proofs.Common.{◌≡◌, ◌≤◌, refl, sym, ap, subst, ◌∙◌, arith}
use Rattle.std.proofs.lemmas.Grind.{common_steps}
use Rattle.seg_words.specs.Probing.{goes_nowhere}
use Rattle.seg_words.specs.Windows.{held_blocks}
use Rattle.apcu_model.specs.declared.request.Reply.TheVariants as replies
use Rattle.apcu_model.specs.Chunks.{chunk_end, chunk_rows}
use Rattle.entry_slots.specs.declared.slots.EntrySlots.{EntrySlots}
use Rattle.entry_slots.specs.Entries.{Entries}
use Rattle.entry_slots.specs.Facts.{IsSound}
use Rattle.entry_slots.specs.Standing.{entries}
use Rattle.ttl_expunge.specs.ProbedRows.{Drops}
use Rattle.ttl_expunge.specs.Steps.{MayDropRows, DropsRows}
use Rattle.ttl_expunge.proofs.EventSteps.{may_kept}
use Rattle.row_search.specs.Choices.{Choice, uncounted}
use Rattle.apcu_iter.proofs.DroppedRows.{rows_of_chunk, rows_collected, drops_of_core, core_dropped, cache_dropped}
use Rattle.apcu_iter.proofs.deleting.chunk_delete.Goals as goal
use Rattle.apcu_iter.proofs.deleting.chunk_delete.Given as given

pub collect_chunk-requires-clause-list : goal.collect_chunk-requires-clause-list
collect_chunk-requires-clause-list g c = ap (λ (x : Choice). x.list) c.in_ok-test.ensures

pub drop_rows-requires-clause-ready : goal.drop_rows-requires-clause-ready
drop_rows-requires-clause-ready g c =
    let may : MayDropRows g.S.WordsIn c.args.core.now.slots c.args.seg.now = record { stand = c.requires.ready.stand.stand; refused = c.requires.ready.refused } in
    may_kept c.slots-slots.result.now c.in_ok-next.ensures.kept (subst (λ (e : EntrySlots). MayDropRows g.S.WordsIn e c.args.seg.now) (sym c.slots-slots.ensures.value) may)

pub drop_rows-requires-clause-rows : goal.drop_rows-requires-clause-rows
drop_rows-requires-clause-rows g c = (
  _,
  rows_collected c.standing_laws.ensures c.args.core.now c.slots-slots.result.now (g.S.WordsIn.words c.args.seg.now) (g.S.WordsIn.aside c.args.seg.now) c.in_ok-test.test.pattern c.in_ok-test.test.t c.args.from c.args.size
      c.deref.result.now c.slots-slots.ensures.value c.requires.ready.stand.stand c.requires.ready.stand.whole c.requires.from (c.deref.ensures.value ∙ c.in_ok-next.ensures.places),
)

-- the rows that the step has were dropped
left : (g : given.Over) (c : goal.Joined-test-2 g) → DropsRows g.S.WordsIn c.slots-slots.result.now c.drop_rows.new.slots c.collect_chunk.new.seg c.drop_rows.new.seg c.args.t
    (chunk_rows c.in_ok-test.test.pattern c.in_ok-test.test.t (uncounted (entries c.slots-slots.result.now)) c.args.from c.args.size)
left g c = c.drop_rows.ensures _ (rows_collected c.standing_laws.ensures c.args.core.now c.slots-slots.result.now (g.S.WordsIn.words c.args.seg.now) (g.S.WordsIn.aside c.args.seg.now) c.in_ok-test.test.pattern c.in_ok-test.test.t c.args.from c.args.size
    c.deref.result.now c.slots-slots.ensures.value c.requires.ready.stand.stand c.requires.ready.stand.whole c.requires.from (c.deref.ensures.value ∙ c.in_ok-next.ensures.places))

-- they are rows of the core
drops : (g : given.Over) (c : goal.Joined-test-2 g) → Drops (entries c.args.core.now.slots) (entries c.drop_rows.new.slots)
    (g.S.WordsIn.aside c.args.seg.now) (g.S.WordsIn.aside c.drop_rows.new.seg) c.args.t
    (chunk_rows c.args.search.now c.args.t (uncounted (entries c.args.core.now.slots)) c.args.from c.args.size)
drops g c =
    let slots = c.slots-slots.result.now in
    let same : chunk_rows c.in_ok-test.test.pattern c.in_ok-test.test.t (uncounted (entries slots)) c.args.from c.args.size
    ≡ chunk_rows c.args.search.now c.args.t (uncounted (entries c.args.core.now.slots)) c.args.from c.args.size =
    ap (λ (x : Choice). chunk_rows x.pattern x.t (uncounted (entries slots)) c.args.from c.args.size) c.in_ok-test.ensures
    ∙ ap (λ (e : EntrySlots). chunk_rows c.args.search.now c.args.t (uncounted (entries e)) c.args.from c.args.size) c.slots-slots.ensures.value in
    drops_of_core c.args.core.now slots c.slots-slots.ensures.value c.in_ok-next.ensures.kept.aside same (left g c).drops

sound : (g : given.Over) (c : goal.Joined-test-2 g) → IsSound (entries c.args.core.now.slots) (g.S.WordsIn.words c.args.seg.now) (g.S.WordsIn.aside c.args.seg.now).windows
sound g c = c.standing_laws.ensures.sound c.args.core.now.slots (g.S.WordsIn.words c.args.seg.now) (g.S.WordsIn.aside c.args.seg.now) (entries c.args.core.now.slots) c.requires.ready.stand.stand

low : (g : given.Over) (c : goal.Joined-test-2 g) → c.args.from ≤ (entries c.args.core.now.slots).conf.slots
low g c = subst (λ (s : Entries). c.args.from ≤ s.conf.slots) (sym c.requires.ready.stand.whole) c.requires.from

pub returns-clause-does : goal.returns-clause-does
returns-clause-does g c =
    let core = c.args.core.now in
    let key = c.args.search.now in
    let slots = c.slots-slots.result.now in
    let new = c.drop_rows.new.slots in
    let s = entries core.slots in
    let before = g.S.WordsIn.aside c.args.seg.now in
    let now = g.S.WordsIn.aside c.drop_rows.new.seg in
    let laws = c.drop_laws.ensures in
    let gone = core_dropped laws core new key c.args.from c.args.size c.args.t c.requires.ready.stand.whole (drops g c) in
    let rows = rows_of_chunk key c.args.t c.args.from c.args.size _ (sound g c) (low g c) refl in
    let next = c.in_ok-next.ensures.next
    ∙ ap (λ (x : Choice). chunk_end x.pattern x.t (uncounted (entries slots)) c.args.from c.args.size) c.in_ok-test.ensures
    ∙ ap (λ (e : EntrySlots). chunk_end key c.args.t (uncounted (entries e)) c.args.from c.args.size) c.slots-slots.ensures.value
    ∙ ap (λ (s : Entries). chunk_end key c.args.t (uncounted s) c.args.from c.args.size) c.requires.ready.stand.whole in
    record {
      done = record {
        reply = λ later on. ap replies.Next next;
        cache = λ later on. (cache_dropped core new (held_blocks later) key c.args.from c.args.size c.args.t (gone later on)).cache;
        step = record {
          goes = (drops g c).goes;
          keeps = laws.keeps s (entries new) (g.S.WordsIn.words c.args.seg.now) before.windows before now c.args.t (chunk_rows key c.args.t (uncounted s) c.args.from c.args.size) (sound g c) rows.there (drops g c);
          refused = λ was. (drops g c).refused;
          stand = record { stand = (left g c).stand; whole = (cache_dropped core new (held_blocks now) key c.args.from c.args.size c.args.t (gone now (goes_nowhere now now refl))).whole };
          rest = (left g c).rest ∙ c.in_ok-next.ensures.kept.rest;
        };
      };
      same = tt;
    }

pub collect_chunk-requires-clause-from : goal.collect_chunk-requires-clause-from
collect_chunk-requires-clause-from g c = grind (arith, common_steps)
