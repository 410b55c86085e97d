use Rattle.std.proofs.Common.{◌≡◌, ◌+◌, ◌-◌, ◌^◌, ◌≤◌, min, drop}
use Rattle.std.specs.Prelude.{sum_by}
use Rattle.apcu_model.specs.Cache.{Row}
use Rattle.plain_cache.proofs.infos.words_of.Given as goal

abbrev pub invariant-loop-row : goal.invariant-loop-row
invariant-loop-row l = record {
  sum : min (l.words + sum_by (λ (row : Row). row.size) (drop l.row-index l.rows)) (2 ^ 64 - 1) ≡ min (sum_by (λ (row : Row). row.size) l.rows) (2 ^ 64 - 1);
  small : l.words ≤ 2 ^ 64 - 1;
}
