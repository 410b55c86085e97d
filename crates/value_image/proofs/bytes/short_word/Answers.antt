use Rattle.std.proofs.Common.{arith}
use Rattle.std.proofs.lemmas.List.{take_rest, get_or-drop, get_or_past}
use Rattle.value_image.proofs.bytes.short_word.Goals as goal

pub overflow_mul-result : goal.overflow_mul-result
overflow_mul-result c = omega (arith, c.few_bytes-2.ensures.small)

pub overflow_add-result : goal.overflow_add-result
overflow_add-result c = omega (arith, c.few_bytes-2.ensures.small)

pub returns-then-bytes-lt4 : goal.returns-then-bytes-lt4
returns-then-bytes-lt4 c =
    let bytes = c.args.bytes.now in
    omega (
      arith,
      c.few_bytes.ensures.number,
      get_or_past bytes 4 0 (omega (arith, c.if-bytes-lt4.true)),
      get_or_past bytes 5 0 (omega (arith, c.if-bytes-lt4.true)),
      get_or_past bytes 6 0 (omega (arith, c.if-bytes-lt4.true)),
      get_or_past bytes 7 0 (omega (arith, c.if-bytes-lt4.true)),
    )

pub returns : goal.returns
returns c =
    let bytes = c.args.bytes.now in
    let rest = rw (take_rest bytes 4) at c.few_bytes-2.ensures.number in
    omega (
      arith,
      c.from-low.ensures,
      c.read_u32.ensures,
      rest,
      get_or-drop 4 bytes 0 0,
      get_or-drop 4 bytes 1 0,
      get_or-drop 4 bytes 2 0,
      get_or-drop 4 bytes 3 0,
    )
