-- A count that rises by several at once.
use Rattle.std.proofs.Common.{◌≡◌, ℕ, zero, suc, ◌+◌, ◌-◌, ◌^◌, ◌≤◌, ap, ◌∙◌, arith}
use Rattle.std.specs.Prelude.{min}
use Rattle.apcu_model.specs.Cache.{risen}
use Rattle.cache_core.specs.Counting.{risen_by}

pub risen_by_is : (n count : ℕ) → count ≤ 2 ^ 64 - 1 → min (count + n) (2 ^ 64 - 1) ≡ risen_by n count
risen_by_is zero count small = grind arith
risen_by_is (suc n) count small = step ∙ ap risen (risen_by_is n count small)
  where
    step : min (count + suc n) (2 ^ 64 - 1) ≡ risen (min (count + n) (2 ^ 64 - 1))
    step = grind arith
