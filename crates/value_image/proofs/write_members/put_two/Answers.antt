use Rattle.std.proofs.Common.{[], ◌∷◌, arith}
use Rattle.value_image.proofs.Runs.{may_write-fewer, may_write-along}
use Rattle.value_image.proofs.write_members.put_two.Goals as goal

pub put_one-next-requires : goal.put_one-next-requires
put_one-next-requires g c = may_write-fewer _ _ _ _ 1 c.requires (omega arith)

pub put_one-requires : goal.put_one-requires
put_one-requires g c =
    may_write-along _ _ _ _ (c.args.first ∷ []) _ _ _ 1 c.requires c.put_one-next.ensures.words c.put_one-next.ensures.beside.aside c.put_one-next.ensures.end (omega arith)
