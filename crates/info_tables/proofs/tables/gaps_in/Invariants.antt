use Rattle.std.proofs.Common.{◌≡◌, ◌++◌, drop}
use Rattle.apcu_model.specs.Infos.{gaps_in}
use Rattle.info_tables.proofs.tables.gaps_in.Given as goal

abbrev pub invariant-loop-gap : goal.invariant-loop-gap
invariant-loop-gap l = l.list.items ++ gaps_in l.piece (drop l.gap-index l.gaps) l.k ≡ gaps_in l.piece l.gaps l.k
