use Rattle.std.proofs.Common.{◌≡◌, ◌+◌, ◌++◌, drop, map, length}
use Rattle.apcu_model.specs.Infos.{info_gap}
use Rattle.apcu_model.specs.InfoGraphs.{values_run}
use Rattle.info_tables.proofs.tables.push_gaps.Given as goal

abbrev pub invariant-loop-gap : goal.invariant-loop-gap
invariant-loop-gap l =
    l.telling ++ values_run (length l.telling + 1) (map info_gap (drop l.gap-index l.gaps))
    ≡ l.initial.telling ++ values_run (length l.initial.telling + 1) (map info_gap l.gaps)
