use Rattle.std.proofs.Common.{◌+◌, arith}
use Rattle.entry_slots.proofs.RowBlocks.{row_there, room, told_at, home_listed}
use Rattle.entry_slots.proofs.Heads.{short_words, head_is}
use Rattle.entry_slots.proofs.GhostEntries.{entry_now}
use Rattle.entry_slots.proofs.slots.EntrySlots.head.Goals as goal

pub first_words-words-requires-clause-inside : goal.first_words-words-requires-clause-inside
first_words-words-requires-clause-inside g c = let r = row_there (entry_now c.requires.stand c.requires.there) in let w = room r.1 in omega (arith, w.high, w.enough, r.2)

pub first_words-words-requires-clause-told : goal.first_words-words-requires-clause-told
first_words-words-requires-clause-told g c = λ k few. let r = row_there (entry_now c.requires.stand c.requires.there) in told_at r.1 c.args.at k r.2 (omega arith) (omega arith)

pub overflow_cast-key_len-2 : goal.overflow_cast-key_len-2
overflow_cast-key_len-2 g c = let r = row_there (entry_now c.requires.stand c.requires.there) in let w = short_words r.1 c.args.at c.first_words-words.result r.2 c.first_words-words.ensures.each in omega (arith, w.key)

pub overflow_add-result : goal.overflow_add-result
overflow_add-result g c = let r = row_there (entry_now c.requires.stand c.requires.there) in let w = room r.1 in omega (arith, w.high, w.enough, w.short, r.2)

pub overflow_add-result-2 : goal.overflow_add-result-2
overflow_add-result-2 g c = let r = row_there (entry_now c.requires.stand c.requires.there) in let w = short_words r.1 c.args.at c.first_words-words.result r.2 c.first_words-words.ensures.each in omega (arith, w.image, c.words_in.ensures)

pub overflow_cast-result-2 : goal.overflow_cast-result-2
overflow_cast-result-2 g c = let r = row_there (entry_now c.requires.stand c.requires.there) in let w = short_words r.1 c.args.at c.first_words-words.result r.2 c.first_words-words.ensures.each in omega (arith, w.value)

pub overflow_cast-result-4 : goal.overflow_cast-result-4
overflow_cast-result-4 g c = let r = row_there (entry_now c.requires.stand c.requires.there) in let w = short_words r.1 c.args.at c.first_words-words.result r.2 c.first_words-words.ensures.each in omega (arith, w.ttl)

pub overflow_cast-result-10 : goal.overflow_cast-result-10
overflow_cast-result-10 g c = let r = row_there (entry_now c.requires.stand c.requires.there) in let w = short_words r.1 c.args.at c.first_words-words.result r.2 c.first_words-words.ensures.each in omega (arith, w.size)

pub returns-clause-head : goal.returns-clause-head
returns-clause-head g c = λ row is.
    head_is row (home_listed row c.requires.stand is.there) c.args.at c.first_words-words.result (c.args.at + 12 + c.words_in.result) is.place c.first_words-words.ensures.each (omega (arith, c.words_in.ensures))
