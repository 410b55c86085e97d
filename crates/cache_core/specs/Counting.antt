-- Look-ups that are counted later.
use Rattle.std.specs.Prelude.{ℕ, zero, suc}
use Rattle.apcu_model.specs.Cache.{Cache, risen}

-- increased by this number, but a counter stops at the maximum of 64 bits
abbrev pub risen_by : ℕ → ℕ → ℕ
risen_by zero count = count
risen_by (suc n) count = risen (risen_by n count)

-- this number of look-ups found no row
abbrev pub with_misses : ℕ → Cache → Cache
with_misses n c = record c { misses = risen_by n c.misses }
