use Rattle.std.proofs.Common.{◌≡◌, ◌∙◌, ◌*◌, ◌/◌, ◌%◌, ◌-◌, arith, ap, length, take, drop}
use Rattle.std.proofs.lemmas.List.{take_rest, length-drop}
use Rattle.value_image.specs.PackedBytes.{word_at}
use Rattle.value_image.proofs.PackedByteLemmas.{word_at-shifted}
use Rattle.value_image.proofs.bytes.byte_word.Goals as goal

pub returns-then-bytes-lt8 : goal.returns-then-bytes-lt8
returns-then-bytes-lt8 c = rw (take_rest c.args.bytes.now (8 * c.args.i)) at c.short_word.ensures

pub returns-then-rest-ge8 : goal.returns-then-rest-ge8
returns-then-rest-ge8 c = rw (take_rest c.args.bytes.now (8 * c.args.i)) at c.read_u64.ensures

pub returns : goal.returns
returns c =
    let bytes = c.args.bytes.now in
    let rest = take (length bytes - 8 * c.args.i) (drop (8 * c.args.i) bytes) in
    let long : length rest ≡ length bytes - 8 * c.args.i = ap length (take_rest bytes (8 * c.args.i)) ∙ length-drop (8 * c.args.i) bytes in
    let left : length rest ≡ length bytes % 8 = omega (arith, long, c.requires, c.if-rest-ge8.false) in
    let last = rw (take_rest bytes (length bytes - 8)) at c.read_u64-2.ensures in
    let at : length bytes / 8 ≡ c.args.i = omega (arith, long, c.requires, c.if-rest-ge8.false) in
    word_at-shifted bytes (length rest) c.read_u64-2.result (omega (arith, c.if-bytes-lt8.false)) left (λ j. omega (arith, c.type_inv.bytes j)) last
    ∙ ap (word_at bytes) at
