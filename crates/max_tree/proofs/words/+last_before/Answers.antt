use Rattle.std.proofs.Common.{◌≡◌, ℕ, ◌*◌, ◌+◌, ◌/◌, List, get_or, take, Some, refl, sym, subst, arith}
use Rattle.std.proofs.lemmas.List.{length-take}
use Rattle.max_tree.specs.declared.bits.TheConstants.{WORD}
use Rattle.max_tree.proofs.Rows.{alone_of, rows_room, parts_of}
use Rattle.max_tree.proofs.BitLemmas.{IsLastBit, word_some, last_own, last_alone, last_nowhere, last_word}
use Rattle.max_tree.proofs.WordLemmas.{word_rows, read_front}
use Rattle.max_tree.proofs.words.+last_before.Goals as goal

pub returns-then-below-gt0 : goal.returns-then-below-gt0
returns-then-below-gt0 t c =
    let same = read_front c.args.count c.args.words.now (c.args.i / WORD) (omega (arith, c.requires.inside)) in
    let h = last_own (take c.args.count c.args.words.now) c.args.i c.bit_of.result _ c.bit_of.ensures same c.highest.result c.highest.ensures.set_is c.highest.ensures.last in
    record { found = h.found; last = h.last }

pub returns-then-above-eq0-clause-found : goal.returns-then-above-eq0-clause-found
returns-then-above-eq0-clause-found t c =
    let same = read_front c.args.count c.args.words.now (c.args.i / WORD) (omega (arith, c.requires.inside)) in
    let one = alone_of word_rows c.args.above c.args.count c.args.words.now c.requires.levels c.if-above-eq0.true in
    let long = length-take c.args.count c.args.words.now in
    (last_alone (take c.args.count c.args.words.now) c.args.i c.bit_of.result _ c.bit_of.ensures same (omega (arith, c.if-below-gt0.false)) (omega (arith, long, one.1)) (omega (arith, long, one.0, c.requires.inside))).found

pub split_at-requires : goal.split_at-requires
split_at-requires t c = rows_room word_rows c.args.above c.args.count c.args.words.now c.requires.levels

pub returns-in_default-clause-found : goal.returns-in_default-clause-found
returns-in_default-clause-found t c =
    let words = c.args.words.now in
    let parts = parts_of word_rows c.args.above c.args.count c.word_count.result words (take c.args.count words) c.split_at.result.1.now c.requires.levels c.if-above-eq0.false c.word_count.ensures refl c.split_at.ensures.back in
    let same = read_front c.args.count words (c.args.i / WORD) (omega (arith, c.requires.inside)) in
    (last_nowhere (take c.args.count words) c.args.i c.bit_of.result _ c.bit_of.ensures same _ parts.1 (omega (arith, c.if-below-gt0.false)) c.in_default.ensures.found).found

pub highest-requires-2 : goal.highest-requires-2
highest-requires-2 t c =
    let own = c.split_at.result.0.now in
    let parts = parts_of word_rows c.args.above c.args.count c.word_count.result c.args.words.now own c.split_at.result.1.now c.requires.levels c.if-above-eq0.false c.word_count.ensures c.split_at.ensures.front c.split_at.ensures.back in
    word_some own _ c.in-Some.k parts.1 c.in-Some.ensures.found.1

pub returns-clause-last : goal.returns-clause-last
returns-clause-last t c =
    let words = c.args.words.now in
    let own = c.split_at.result.0.now in
    let front = c.split_at.ensures.front in
    let parts = parts_of word_rows c.args.above c.args.count c.word_count.result words own c.split_at.result.1.now c.requires.levels c.if-above-eq0.false c.word_count.ensures front c.split_at.ensures.back in
    let same = subst (λ (xs : List ℕ). get_or words (c.args.i / WORD) 0 ≡ get_or xs (c.args.i / WORD) 0) (sym front) (read_front c.args.count words (c.args.i / WORD) (omega (arith, c.requires.inside))) in
    let h = last_word own c.args.i c.bit_of.result _ c.bit_of.ensures same _ parts.1 (omega (arith, c.if-below-gt0.false)) c.in-Some.k c.highest-2.result c.in-Some.ensures.found.0 c.in-Some.ensures.last c.highest-2.ensures.inside c.highest-2.ensures.set_is c.highest-2.ensures.last in
    (subst (λ (xs : List ℕ). IsLastBit xs c.args.i (Some (c.in-Some.k * WORD + c.highest-2.result))) front h).last
