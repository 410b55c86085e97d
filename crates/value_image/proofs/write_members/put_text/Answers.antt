use Rattle.std.proofs.Common.{◌≡◌, ◌+◌, ◌*◌, [], ◌∷◌, length, arith}
use Rattle.std.proofs.lemmas.Grind.{common_steps}
use Rattle.value_image.proofs.Runs.{may_write-fewer, may_write-along}
use Rattle.value_image.proofs.write_members.put_text.Goals as goal

pub put_one-next-requires : goal.put_one-next-requires
put_one-next-requires g c = may_write-fewer _ _ _ _ 1 c.requires.apart (omega arith)

pub put_bytes-requires : goal.put_bytes-requires
put_bytes-requires g c =
    may_write-along _ _ _ _ ((3 + 8 * length c.args.bytes.now) ∷ []) _ _ _ _ c.requires.apart c.put_one-next.ensures.words c.put_one-next.ensures.beside.aside c.put_one-next.ensures.end (omega arith)

pub returns-clause-words : goal.returns-clause-words
returns-clause-words g c = grind (arith, common_steps)
