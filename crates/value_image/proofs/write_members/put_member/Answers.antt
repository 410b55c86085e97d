use Rattle.std.proofs.Common.{[], ◌∷◌, arith}
use Rattle.value_image.proofs.Runs.{may_write-fewer, may_write-along}
use Rattle.value_image.proofs.write_members.put_member.Goals as goal

pub put_one-next-requires : goal.put_one-next-requires
put_one-next-requires g c = may_write-fewer _ _ _ _ 1 c.requires.apart (omega arith)

pub put_key-requires : goal.put_key-requires
put_key-requires g c =
    may_write-along _ _ _ _ (c.child_word.result ∷ []) _ _ _ _ c.requires.apart c.put_one-next.ensures.words c.put_one-next.ensures.beside.aside c.put_one-next.ensures.end (omega arith)
