use Rattle.std.proofs.Common.{◌/◌, ◌%◌, get_or, inl, inr, ◌∙◌, arith, w64}
use Rattle.std.specs.Int.{bit_not}
use Rattle.std.specs.Int.Bits.{bit_and}
use Rattle.std.proofs.lemmas.Nat.{and_le_l}
use Rattle.std.proofs.lemmas.List.{length-set}
use Rattle.max_tree.specs.declared.bits.TheConstants.{WORD}
use Rattle.max_tree.proofs.Rows.{rows_room}
use Rattle.max_tree.proofs.BitLemmas.{unmarked}
use Rattle.max_tree.proofs.WordLemmas.{word_rows, set_alone, set_above, rest_rows}
use Rattle.max_tree.proofs.words.+unmark.Goals as goal

pub returns-then-word-gt0 : goal.returns-then-word-gt0
returns-then-word-gt0 t c =
    let was = get_or c.args.words.now (c.args.i / WORD) 0 in
    let new = bit_and was (bit_not w64 c.bit_of.result) in
    let one = unmarked was (c.args.i % WORD) c.bit_of.result c.bit_of.ensures (omega arith) in
    let h = set_alone c.args.above c.args.count c.args.words.now c.args.i new 0 c.requires.levels c.requires.inside one (λ some. elim c.then-word-gt0.either [
      | inl on ↦ omega (arith, on, and_le_l was (bit_not w64 c.bit_of.result))
      | inr none ↦ absurd (some none.1)
    ]) in
    record { levels = h.levels; there = h.bits.there; others = h.bits.others }

pub split_at_mut-some-requires : goal.split_at_mut-some-requires
split_at_mut-some-requires t c =
    let new = bit_and (get_or c.args.words.now (c.args.i / WORD) 0) (bit_not w64 c.bit_of.result) in
    omega (arith, length-set c.args.words.now (c.args.i / WORD) new, rows_room word_rows c.args.above c.args.count c.args.words.now c.requires.levels)

pub unmark-requires : goal.unmark-requires
unmark-requires t c =
    let was = get_or c.args.words.now (c.args.i / WORD) 0 in
    let one = unmarked was (c.args.i % WORD) c.bit_of.result c.bit_of.ensures (omega arith) in
    let parts = c.split_at_mut-some in (
      omega (arith, c.decreases, c.if-above-eq0.false),
      (
        rest_rows c.args.above c.args.count c.args.words.now c.args.i (bit_and was (bit_not w64 c.bit_of.result)) 0 c.requires.levels c.requires.inside one c.word_count.result parts.result.0.now parts.result.1.now c.if-above-eq0.false c.word_count.ensures parts.ensures.front parts.ensures.back,
        omega (arith, c.requires.inside, c.word_count.ensures),
      ),
    )

pub returns : goal.returns
returns t c =
    let was = get_or c.args.words.now (c.args.i / WORD) 0 in
    let new = bit_and was (bit_not w64 c.bit_of.result) in
    let one = unmarked was (c.args.i % WORD) c.bit_of.result c.bit_of.ensures (omega arith) in
    let parts = c.split_at_mut-some in
    let e = c.unmark.ensures in
    let h = set_above c.args.above c.args.count c.args.words.now c.args.i new 0 c.requires.levels c.requires.inside one c.word_count.result parts.result.0.now parts.result.1.now c.if-above-eq0.false c.word_count.ensures parts.ensures.front parts.ensures.back c.unmark.new.words
    (record { levels = e.levels; bits = record { there = e.there ∙ omega (arith, c.if-word-gt0.false); others = e.others } }) in
    record { levels = h.levels; there = h.bits.there; others = h.bits.others }
