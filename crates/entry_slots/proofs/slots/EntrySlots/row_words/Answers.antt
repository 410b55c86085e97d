use Rattle.std.proofs.Common.{◌-◌, ap, ◌∙◌, arith, length}
use Rattle.entry_slots.specs.Standing.{entries}
use Rattle.entry_slots.proofs.Blocks.{read_along}
use Rattle.entry_slots.proofs.Chains.{chain_first}
use Rattle.entry_slots.proofs.RowWords.{all_words, left_all, left_here, left_inside, left_told, left_word, left_small, left_enough, left_next, left_end}
use Rattle.entry_slots.proofs.KeySearch.{stands_along}
use Rattle.entry_slots.proofs.slots.EntrySlots.row_words.Goals as goal

pub overflow_sub-words-2 : goal.overflow_sub-words-2
overflow_sub-words-2 g c =
    let all = all_words c.args.self.now (g.S.WordsIn.words c.args.seg.now) (g.S.WordsIn.aside c.args.seg.now) (entries c.args.self.now) c.requires.stand c.requires.whole c.free_words-free.result c.free_words-free.ensures.value in
    omega (arith, all)

pub loop-at-init : goal.loop-at-init
loop-at-init g c =
    let all = all_words c.args.self.now (g.S.WordsIn.words c.args.seg.now) (g.S.WordsIn.aside c.args.seg.now) (entries c.args.self.now) c.requires.stand c.requires.whole c.free_words-free.result c.free_words-free.ensures.value in
    record {
      left = left_all c.requires.stand c.args.self.now.removed (c.args.self.now.sma.bounds.to - c.args.self.now.sma.bounds.from - c.free_words-free.result) (chain_first (g.S.WordsIn.words c.args.seg.now) c.args.self.now.removed (entries c.args.self.now).removed c.requires.stand.removed_chain) (omega (arith, all));
      kept = c.free_words-free.ensures.kept;
    }

pub load-requires : goal.load-requires
load-requires g c =
    let i = c.loop-at.invariant in
    omega (arith, left_inside c.requires.stand i.left c.loop-at-test.true, ap length i.kept.words)

pub overflow_cast-words : goal.overflow_cast-words
overflow_cast-words g c =
    let i = c.loop-at.invariant in
    let some = c.loop-at-test.true in
    let at = c.loop-at.at in
    let ws = g.S.WordsIn.words c.args.seg.now in
    let size = read_along ws (g.S.WordsIn.words c.loop-at.seg) (g.S.WordsIn.aside c.args.seg.now) (g.S.WordsIn.aside c.loop-at.seg) at c.load.result i.kept.words i.kept.aside (left_told c.requires.stand i.left some) c.load.ensures.word
    ∙ left_word c.requires.stand i.left some in
    omega (arith, size, (left_small c.requires.stand i.left some).1)

pub overflow_sub-words-in-loop-at : goal.overflow_sub-words-in-loop-at
overflow_sub-words-in-loop-at g c =
    let i = c.loop-at.invariant in
    let some = c.loop-at-test.true in
    let at = c.loop-at.at in
    let ws = g.S.WordsIn.words c.args.seg.now in
    let size = read_along ws (g.S.WordsIn.words c.loop-at.seg) (g.S.WordsIn.aside c.args.seg.now) (g.S.WordsIn.aside c.loop-at.seg) at c.load.result i.kept.words i.kept.aside (left_told c.requires.stand i.left some) c.load.ensures.word
    ∙ left_word c.requires.stand i.left some in
    omega (arith, size, left_enough c.requires.stand i.left some)

pub after-at-requires-clause-stand : goal.after-at-requires-clause-stand
after-at-requires-clause-stand g c =
    let i = c.loop-at.invariant in
    stands_along (g.S.WordsIn.words c.load.new.self) (g.S.WordsIn.aside c.load.new.self) c.requires.stand (c.load.ensures.words ∙ i.kept.words) (c.load.ensures.aside ∙ i.kept.aside)

pub after-at-requires-clause-there : goal.after-at-requires-clause-there
after-at-requires-clause-there g c = (left_here c.requires.stand c.loop-at.invariant.left c.loop-at-test.true).in_listed

pub loop-at-smaller : goal.loop-at-smaller
loop-at-smaller g c =
    let i = c.loop-at.invariant in
    let some = c.loop-at-test.true in
    let at = c.loop-at.at in
    let ws = g.S.WordsIn.words c.args.seg.now in
    let size = read_along ws (g.S.WordsIn.words c.loop-at.seg) (g.S.WordsIn.aside c.args.seg.now) (g.S.WordsIn.aside c.loop-at.seg) at c.load.result i.kept.words i.kept.aside (left_told c.requires.stand i.left some) c.load.ensures.word
    ∙ left_word c.requires.stand i.left some in
    omega (arith, size, left_enough c.requires.stand i.left some, (left_small c.requires.stand i.left some).0)

pub loop-at-preserved : goal.loop-at-preserved
loop-at-preserved g c =
    let i = c.loop-at.invariant in
    let some = c.loop-at-test.true in
    let at = c.loop-at.at in
    let ws = g.S.WordsIn.words c.args.seg.now in
    let size = read_along ws (g.S.WordsIn.words c.loop-at.seg) (g.S.WordsIn.aside c.args.seg.now) (g.S.WordsIn.aside c.loop-at.seg) at c.load.result i.kept.words i.kept.aside (left_told c.requires.stand i.left some) c.load.ensures.word
    ∙ left_word c.requires.stand i.left some in
    let here = left_here c.requires.stand i.left some in
    let next = c.after-at.ensures in
    record {
      left = left_next c.requires.stand i.left some c.after-at.result c.load.result (next.removed here.in_rows ∙ here.next) size;
      kept = record { words = next.kept.words ∙ (c.load.ensures.words ∙ i.kept.words); aside = next.kept.aside ∙ (c.load.ensures.aside ∙ i.kept.aside); rest = next.kept.rest ∙ (c.load.ensures.rest ∙ i.kept.rest) };
    }

pub returns-clause-words : goal.returns-clause-words
returns-clause-words g c = left_end c.requires.stand c.loop-at.invariant.left c.loop-at-test.false
