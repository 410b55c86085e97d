use Rattle.std.proofs.Common.{◌≡◌, ◌&&◌, not, drop}
use Rattle.std.specs.List.{find}
use Rattle.apcu_model.specs.Cache.{has_key}
use Rattle.apcu_model.specs.Expiry.{is_hard_expired}
use Rattle.plain_cache.proofs.rows.live_in.Given as goal

abbrev pub invariant-loop-row : goal.invariant-loop-row
invariant-loop-row l = find (λ row. has_key l.key row && not (is_hard_expired l.t row)) l.rows ≡ find (λ row. has_key l.key row && not (is_hard_expired l.t row)) (drop l.row-index l.rows)
