use Rattle.std.proofs.Common.{◌+◌, arith}
use Rattle.entry_slots.proofs.RowBlocks.{row_there, room, home_listed}
use Rattle.entry_slots.proofs.RowLookUps.{image_is}
use Rattle.entry_slots.proofs.GhostEntries.{entry_now}
use Rattle.entry_slots.proofs.slots.EntrySlots.image_at.Goals as goal

pub overflow_add-result : goal.overflow_add-result
overflow_add-result g c = let r = row_there (entry_now c.requires.stand c.requires.there) in let w = room r.1 in omega (arith, w.high, w.enough, w.short, r.2)

pub overflow_add-result-2 : goal.overflow_add-result-2
overflow_add-result-2 g c = let r = row_there (entry_now c.requires.stand c.requires.there) in let w = room r.1 in omega (arith, w.high, w.enough, w.short, r.2, c.words_in.ensures)

pub returns : goal.returns
returns g c = record {
  image = λ row is long.
      image_is row (home_listed row c.requires.stand is.there) c.args.at c.args.key_len (c.args.at + 12 + c.words_in.result) is.place long (omega (arith, c.words_in.ensures));
}
