use Rattle.std.proofs.Common.{◌≡◌, ◌∙◌, ◌<◌, filter, ap, refl, arith}
use Rattle.entry_slots.specs.Entries.{chain_of}
use Rattle.entry_slots.specs.Standing.{entries}
use Rattle.apcu_iter.specs.RowSums.{with_rows, no_sums}
use Rattle.row_search.specs.Choices.{Choice, is_chosen}
use Rattle.apcu_iter.proofs.RowFolds.{slots_before, one_slot_more, all_slots_sum}
use Rattle.apcu_iter.proofs.summing.add_active.Goals as goal

pub loop-slot-init : goal.loop-slot-init
loop-slot-init g c = record {
  sums = c.new-sums.ensures;
  test = refl;
  kept = record { words = refl; aside = refl; rest = refl };
}

pub loop-slot-preserved : goal.loop-slot-preserved
loop-slot-preserved g c =
    let s = entries c.args.slots.now in
    let i = c.loop-slot.invariant in
    let row = c.in_ok-more.ensures in
    let here = row.sums ∙ ap (λ (choice : Choice). with_rows no_sums (filter (is_chosen choice) (chain_of s c.loop-slot.slot))) i.test in
    record {
      sums = one_slot_more (is_chosen c.args.test.now) s.conf s.rows c.loop-slot.slot c.loop-slot.sums c.plus-sums.result c.in_ok-more.more i.sums here c.plus-sums.ensures;
      test = row.test ∙ i.test;
      kept = record { words = row.kept.words ∙ i.kept.words; aside = row.kept.aside ∙ i.kept.aside; rest = row.kept.rest ∙ i.kept.rest };
    }

pub returns-clause-sums : goal.returns-clause-sums
returns-clause-sums g c =
    let s = entries c.args.slots.now in
    let i = c.loop-slot.invariant in
    let p = is_chosen c.args.test.now in
    let some : 0 < s.conf.slots = omega (arith, c.requires.stand.usable.slots_least) in
    let end : c.loop-slot.slot ≡ s.conf.slots = omega (arith, c.loop-slot-test.false, c.loop-slot.auto.slot-end, c.slots-slot-end.ensures.slots) in
    i.sums ∙ ap (λ n. with_rows no_sums (slots_before p s.conf s.rows n)) end ∙ all_slots_sum p s.conf s.rows some
