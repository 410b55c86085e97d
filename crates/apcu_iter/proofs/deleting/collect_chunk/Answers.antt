use Rattle.std.proofs.Common.{◌∙◌, ◌+◌, ◌<◌, ◌≤◌, ◌++◌, ℕ, length, ap, sym, refl, arith}
use Rattle.std.proofs.lemmas.List.{length-map}
use Rattle.apcu_model.specs.Cache.{Row}
use Rattle.apcu_model.specs.Chunks.{items_between}
use Rattle.entry_slots.specs.Entries.{chain_of}
use Rattle.entry_slots.specs.Standing.{entries}
use Rattle.ttl_expunge.specs.Lists.{row_places}
use Rattle.row_search.specs.Choices.{Choice, chosen_places, uncounted}
use Rattle.apcu_iter.proofs.ChunkItems.{slot_more}
use Rattle.apcu_iter.proofs.ChunkEnds.{step_starts, step_on, step_ends, none_between}
use Rattle.apcu_iter.proofs.ReadOnlyCalls.{stand_kept, kept_on}
use Rattle.apcu_iter.proofs.deleting.collect_chunk.Goals as goal

pub loop-slot-init : goal.loop-slot-init
loop-slot-init g c =
    let s = entries c.args.slots.now in
    let test = c.args.test.now in
    record {
      places = c.new-places.ensures.items ∙ sym (ap row_places (none_between test.pattern test.t (uncounted s) c.args.from));
      step = step_starts test.pattern test.t (uncounted s) c.args.from c.args.size c.requires.size;
      test = refl;
      kept = record { words = refl; aside = refl; rest = refl };
    }

pub loop-slot-preserved : goal.loop-slot-preserved
loop-slot-preserved g c =
    let s = entries c.args.slots.now in
    let test = c.args.test.now in
    let i = c.loop-slot.invariant in
    let row = c.in_ok-collect_slot.ensures in
    let at = c.loop-slot.slot in
    let added = row.places ∙ ap (λ (choice : Choice). c.loop-slot.places.items ++ chosen_places choice (chain_of s at)) i.test in
    let all = slot_more (λ (row : Row). row.place) test s c.args.from at c.loop-slot.places.items c.collect_slot.new.places.items c.requires.list i.step.low i.places added in
    let items = items_between test.pattern test.t (uncounted s) c.args.from (at + 1) in
    let few : length items < c.args.size =
    omega (arith, c.if-len-size.false, c.len.ensures, c.collect_slot.new.places.ok.0, ap (length {A = ℕ}) all, length-map items (λ (row : Row). row.place)) in
    record {
      places = all;
      step = step_on test.pattern test.t (uncounted s) c.args.from c.args.size at i.step (omega (arith, c.loop-slot-test.true, c.slots-end.ensures.slots)) few;
      test = row.test ∙ i.test;
      kept = record { words = row.kept.words ∙ i.kept.words; aside = row.kept.aside ∙ i.kept.aside; rest = row.kept.rest ∙ i.kept.rest };
    }

pub returns-then-len-size-clause-next : goal.returns-then-len-size-clause-next
returns-then-len-size-clause-next g c =
    let s = entries c.args.slots.now in
    let test = c.args.test.now in
    let i = c.loop-slot.invariant in
    let row = c.in_ok-collect_slot.ensures in
    let at = c.loop-slot.slot in
    let added = row.places ∙ ap (λ (choice : Choice). c.loop-slot.places.items ++ chosen_places choice (chain_of s at)) i.test in
    let all = slot_more (λ (row : Row). row.place) test s c.args.from at c.loop-slot.places.items c.collect_slot.new.places.items c.requires.list i.step.low i.places added in
    let items = items_between test.pattern test.t (uncounted s) c.args.from (at + 1) in
    let many : c.args.size ≤ length items =
    omega (arith, c.if-len-size.true, c.len.ensures, c.collect_slot.new.places.ok.0, ap (length {A = ℕ}) all, length-map items (λ (row : Row). row.place)) in
    sym (step_ends test.pattern test.t (uncounted s) c.args.from c.args.size at i.step (omega (arith, c.loop-slot-test.true, c.slots-end.ensures.slots)) many)

pub returns-then-len-size-clause-places : goal.returns-then-len-size-clause-places
returns-then-len-size-clause-places g c =
    let s = entries c.args.slots.now in
    let test = c.args.test.now in
    let i = c.loop-slot.invariant in
    let row = c.in_ok-collect_slot.ensures in
    let at = c.loop-slot.slot in
    let added = row.places ∙ ap (λ (choice : Choice). c.loop-slot.places.items ++ chosen_places choice (chain_of s at)) i.test in
    let all = slot_more (λ (row : Row). row.place) test s c.args.from at c.loop-slot.places.items c.collect_slot.new.places.items c.requires.list i.step.low i.places added in
    all ∙ ap (λ n. row_places (items_between test.pattern test.t (uncounted s) c.args.from n)) (returns-then-len-size-clause-next g c)

pub collect_slot-requires-clause-stand : goal.collect_slot-requires-clause-stand
collect_slot-requires-clause-stand g c = stand_kept c.args.slots.now c.loop-slot.invariant.kept c.requires.stand

pub returns-in_err-collect_slot-clause-test : goal.returns-in_err-collect_slot-clause-test
returns-in_err-collect_slot-clause-test g c = c.in_err-collect_slot.ensures.test ∙ c.loop-slot.invariant.test

pub returns-in_err-collect_slot-clause-kept : goal.returns-in_err-collect_slot-clause-kept
returns-in_err-collect_slot-clause-kept g c = kept_on c.in_err-collect_slot.ensures.kept c.loop-slot.invariant.kept

pub returns-then-len-size-clause-test : goal.returns-then-len-size-clause-test
returns-then-len-size-clause-test g c = c.in_ok-collect_slot.ensures.test ∙ c.loop-slot.invariant.test

pub returns-then-len-size-clause-kept : goal.returns-then-len-size-clause-kept
returns-then-len-size-clause-kept g c = kept_on c.in_ok-collect_slot.ensures.kept c.loop-slot.invariant.kept
