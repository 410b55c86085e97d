use Rattle.std.proofs.Common.{◌≡◌, ◌+◌, ◌-◌, ◌++◌, length, map}
use Rattle.std.specs.List.{range_with_len}
use Rattle.apcu_model.specs.Infos.{info_segment}
use Rattle.apcu_model.specs.InfoGraphs.{values_run}
use Rattle.info_tables.proofs.tables.push_segments.Given as goal

abbrev pub invariant-loop-k : goal.invariant-loop-k
invariant-loop-k l =
    l.telling ++ values_run (length l.telling + 1) (map (info_segment l.piece l.gaps) (range_with_len l.k (l.segments - l.k)))
    ≡ l.initial.telling ++ values_run (length l.initial.telling + 1) (map (info_segment l.piece l.gaps) (range_with_len 0 l.segments))
