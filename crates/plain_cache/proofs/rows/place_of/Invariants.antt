use Rattle.std.proofs.Common.{◌≡◌, take, false}
use Rattle.std.specs.List.{list_any}
use Rattle.apcu_model.specs.Cache.{has_key}
use Rattle.plain_cache.proofs.rows.place_of.Given as goal

abbrev pub invariant-loop-i : goal.invariant-loop-i
invariant-loop-i l = list_any (has_key l.key) (take l.i l.rows) ≡ false
