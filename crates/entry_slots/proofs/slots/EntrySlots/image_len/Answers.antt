use Rattle.std.proofs.Common.{ℕ, ◌+◌, List, sym, ap, ◌∙◌, arith, slice_index}
use Rattle.entry_slots.proofs.RowBlocks.{row_there, room, told_at, home_listed}
use Rattle.entry_slots.proofs.GhostEntries.{entry_now}
use Rattle.entry_slots.proofs.slots.EntrySlots.image_len.Goals as goal

pub overflow_add-at : goal.overflow_add-at
overflow_add-at g c = let r = row_there (entry_now c.requires.stand c.requires.there) in let w = room r.1 in omega (arith, w.high, w.enough, w.short, r.2)

pub load-requires : goal.load-requires
load-requires g c = let r = row_there (entry_now c.requires.stand c.requires.there) in let w = room r.1 in omega (arith, w.high, w.enough, r.2)

pub overflow_cast-result : goal.overflow_cast-result
overflow_cast-result g c =
    let ws : List ℕ = g.S.WordsIn.words c.args.seg.now in
    let r = row_there (entry_now c.requires.stand c.requires.there) in
    let w = room r.1 in
    let read = c.load.ensures.word (told_at r.1 c.args.at 3 r.2 (omega arith) (omega arith)) in
    omega (arith, read ∙ (ap (λ (n : ℕ). slice_index ws (n + 3)) (sym r.2) ∙ r.1.entry.value_length), w.high, w.enough, w.short)

pub returns-clause-len : goal.returns-clause-len
returns-clause-len g c = λ row is.
    let ws : List ℕ = g.S.WordsIn.words c.args.seg.now in
    let home = home_listed row c.requires.stand is.there in
    let read = c.load.ensures.word (told_at home c.args.at 3 is.place (omega arith) (omega arith)) in
    read ∙ (ap (λ (n : ℕ). slice_index ws (n + 3)) (sym is.place) ∙ home.entry.value_length)
