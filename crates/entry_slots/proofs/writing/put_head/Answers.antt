use Rattle.std.proofs.Common.{◌≡◌, ℕ, ◌+◌, List, length, rules, arith}
use Rattle.entry_slots.proofs.Runs.{eight_written, may_write_along, written_along}
use Rattle.entry_slots.proofs.writing.put_head.Goals as goal

pub store_eight-requires-clause-apart : goal.store_eight-requires-clause-apart
store_eight-requires-clause-apart g c = λ k low. c.requires.apart (c.args.at + k) (omega arith) (omega (arith, low))

pub put_words-requires : goal.put_words-requires
put_words-requires g c =
    let ws : List ℕ = g.S.WordsIn.words c.args.seg.now in
    let count : length c.args.first.now ≡ 8 = search rules in
    let more : length c.args.last.now ≡ 3 = search rules in
    let law = c.lower_laws.ensures in
    may_write_along law ws (g.S.WordsIn.aside c.args.seg.now) c.args.at 11 c.args.first.now (g.S.WordsIn.words c.store_eight.new.self) (g.S.WordsIn.aside c.store_eight.new.self) (c.args.at + 8) (length c.args.last.now) c.requires
    (eight_written law ws c.args.at c.args.first.now _ count (omega (arith, c.requires.inside)) c.store_eight.ensures.words) c.store_eight.ensures.aside (omega (arith, count)) (omega (arith, count, more))

pub returns-clause-words : goal.returns-clause-words
returns-clause-words g c =
    let ws : List ℕ = g.S.WordsIn.words c.args.seg.now in
    let count : length c.args.first.now ≡ 8 = search rules in
    let law = c.lower_laws.ensures in
    written_along law ws c.args.at c.args.first.now c.args.last.now (g.S.WordsIn.words c.store_eight.new.self) _ (c.args.at + 8)
    (eight_written law ws c.args.at c.args.first.now _ count (omega (arith, c.requires.inside)) c.store_eight.ensures.words) c.put_words.ensures.words (omega (arith, count))
