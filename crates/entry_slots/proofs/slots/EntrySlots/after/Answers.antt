use Rattle.std.proofs.Common.{◌∙◌, arith}
use Rattle.entry_slots.specs.Standing.{entries}
use Rattle.entry_slots.proofs.RowBlocks.{row_there, room, told_at}
use Rattle.entry_slots.proofs.Chains.{small_after, next_row, next_removed}
use Rattle.entry_slots.proofs.GhostEntries.{entry_now}
use Rattle.entry_slots.proofs.slots.EntrySlots.after.Goals as goal

pub next_of-requires : goal.next_of-requires
next_of-requires g c =
    let r = row_there (entry_now c.requires.stand c.requires.there) in
    let w = room r.1 in
    record {
      inside = omega (arith, w.high, w.enough, r.2);
      told = told_at r.1 c.args.at 1 r.2 (omega arith) (omega arith);
      place = small_after (entry_now c.requires.stand c.requires.there);
    }

pub returns-clause-row : goal.returns-clause-row
returns-clause-row g c = λ slot lt there. c.next_of.ensures.next ∙ next_row (entries c.args.self.now) c.args.at slot c.requires.stand (omega (arith, c.requires.stand.from, lt)) there

pub returns-clause-removed : goal.returns-clause-removed
returns-clause-removed g c = λ there. c.next_of.ensures.next ∙ next_removed (entries c.args.self.now) c.args.at c.requires.stand there
