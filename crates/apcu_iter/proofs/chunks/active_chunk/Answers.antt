use Rattle.std.proofs.Common.{◌∙◌, ◌+◌, ◌<◌, ◌≤◌, ◌++◌, map, length, ap, sym, refl, arith}
use Rattle.std.proofs.lemmas.List.{length-map}
use Rattle.apcu_model.specs.Chunks.{item_of, items_between}
use Rattle.apcu_model.specs.declared.items.ItemRow.{ItemRow}
use Rattle.entry_slots.specs.Entries.{chain_of}
use Rattle.entry_slots.specs.Standing.{entries}
use Rattle.row_search.specs.Choices.{Choice, chosen_items, uncounted}
use Rattle.apcu_iter.proofs.ChunkItems.{slot_more, between_few, chunk_made}
use Rattle.apcu_iter.proofs.RowBounds.{are_few}
use Rattle.apcu_iter.proofs.ChunkEnds.{step_starts, step_on, step_ends, none_between}
use Rattle.apcu_iter.proofs.ReadOnlyCalls.{stand_kept, kept_on}
use Rattle.apcu_iter.proofs.chunks.active_chunk.Goals as goal

pub loop-slot-init : goal.loop-slot-init
loop-slot-init g c =
    let s = entries c.args.slots.now in
    let test = c.args.test.now in
    record {
      items = c.new-items.ensures.items ∙ sym (ap (map (item_of c.args.fields)) (none_between test.pattern test.t (uncounted s) c.args.from));
      step = step_starts test.pattern test.t (uncounted s) c.args.from c.args.size c.requires.size;
      test = refl;
      kept = record { words = refl; aside = refl; rest = refl };
    }

pub loop-slot-preserved : goal.loop-slot-preserved
loop-slot-preserved g c =
    let s = entries c.args.slots.now in
    let test = c.args.test.now in
    let i = c.loop-slot.invariant in
    let row = c.in_ok-list_slot.ensures in
    let at = c.loop-slot.slot in
    let added = row.items ∙ ap (λ (choice : Choice). c.loop-slot.items.items ++ chosen_items choice c.args.fields (chain_of s at)) i.test in
    let all = slot_more (item_of c.args.fields) test s c.args.from at c.loop-slot.items.items c.list_slot.new.items.items c.requires.list i.step.low i.items added in
    let items = items_between test.pattern test.t (uncounted s) c.args.from (at + 1) in
    let few : length items < c.args.size =
    omega (arith, c.if-len-size.false, c.len.ensures, c.list_slot.new.items.ok.0, ap (length {A = ItemRow}) all, length-map items (item_of c.args.fields)) in
    record {
      items = all;
      step = step_on test.pattern test.t (uncounted s) c.args.from c.args.size at i.step (omega (arith, c.loop-slot-test.true, c.slots-end.ensures.slots)) few;
      test = row.test ∙ i.test;
      kept = record { words = row.kept.words ∙ i.kept.words; aside = row.kept.aside ∙ i.kept.aside; rest = row.kept.rest ∙ i.kept.rest };
    }

pub from_vec-requires : goal.from_vec-requires
from_vec-requires g c =
    let s = entries c.args.slots.now in
    let test = c.args.test.now in
    let i = c.loop-slot.invariant in
    let row = c.in_ok-list_slot.ensures in
    let at = c.loop-slot.slot in
    let added = row.items ∙ ap (λ (choice : Choice). c.loop-slot.items.items ++ chosen_items choice c.args.fields (chain_of s at)) i.test in
    let all = slot_more (item_of c.args.fields) test s c.args.from at c.loop-slot.items.items c.list_slot.new.items.items c.requires.list i.step.low i.items added in
    let few = are_few c.args.slots.now (g.S.WordsIn.words c.args.seg.now) (g.S.WordsIn.aside c.args.seg.now) s c.requires.stand in
    let items = items_between test.pattern test.t (uncounted s) c.args.from (at + 1) in
    let most = between_few test.pattern test.t s c.args.from (at + 1) few (omega (arith, c.requires.stand.usable.slots_least)) (omega (arith, i.step.low)) (omega (arith, c.loop-slot-test.true, c.slots-end.ensures.slots)) in
    omega (arith, most, ap (length {A = ItemRow}) all, length-map items (item_of c.args.fields))

pub returns-then-len-size-clause-chunk : goal.returns-then-len-size-clause-chunk
returns-then-len-size-clause-chunk g c =
    let s = entries c.args.slots.now in
    let test = c.args.test.now in
    let i = c.loop-slot.invariant in
    let row = c.in_ok-list_slot.ensures in
    let at = c.loop-slot.slot in
    let added = row.items ∙ ap (λ (choice : Choice). c.loop-slot.items.items ++ chosen_items choice c.args.fields (chain_of s at)) i.test in
    let all = slot_more (item_of c.args.fields) test s c.args.from at c.loop-slot.items.items c.list_slot.new.items.items c.requires.list i.step.low i.items added in
    let items = items_between test.pattern test.t (uncounted s) c.args.from (at + 1) in
    let many : c.args.size ≤ length items =
    omega (arith, c.if-len-size.true, c.len.ensures, c.list_slot.new.items.ok.0, ap (length {A = ItemRow}) all, length-map items (item_of c.args.fields)) in
    let end = step_ends test.pattern test.t (uncounted s) c.args.from c.args.size at i.step (omega (arith, c.loop-slot-test.true, c.slots-end.ensures.slots)) many in
    chunk_made test.pattern test.t (uncounted s) c.args.fields c.args.from c.args.size (at + 1) c.from_vec.result end (c.from_vec.ensures ∙ all)

pub list_slot-requires-clause-stand : goal.list_slot-requires-clause-stand
list_slot-requires-clause-stand g c = stand_kept c.args.slots.now c.loop-slot.invariant.kept c.requires.stand

pub returns-in_err-list_slot-clause-test : goal.returns-in_err-list_slot-clause-test
returns-in_err-list_slot-clause-test g c = c.in_err-list_slot.ensures.test ∙ c.loop-slot.invariant.test

pub returns-in_err-list_slot-clause-kept : goal.returns-in_err-list_slot-clause-kept
returns-in_err-list_slot-clause-kept g c = kept_on c.in_err-list_slot.ensures.kept c.loop-slot.invariant.kept

pub returns-then-len-size-clause-test : goal.returns-then-len-size-clause-test
returns-then-len-size-clause-test g c = c.in_ok-list_slot.ensures.test ∙ c.loop-slot.invariant.test

pub returns-then-len-size-clause-kept : goal.returns-then-len-size-clause-kept
returns-then-len-size-clause-kept g c = kept_on c.in_ok-list_slot.ensures.kept c.loop-slot.invariant.kept
