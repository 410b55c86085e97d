-- When a row is expired (this project's profile of apc.ttl).
use Rattle.std.specs.Prelude.{ℕ, ◌+◌, ◌==◌, ◌&&◌, ◌||◌, not, nat_lt, Bool, List, Option, find}
use Rattle.apcu_model.specs.declared.conf.Conf.{Conf}
use Rattle.apcu_model.specs.Cache.{Row, Cache, has_key}

-- its own ttl has expired: a look-up does not find it
abbrev pub is_hard_expired : ℕ → Row → Bool
is_hard_expired t row = nat_lt 0 row.ttl && nat_lt (row.ctime + row.ttl) t

-- it has no ttl of its own, and was not used for longer than this many seconds; 0 is no limit
abbrev pub is_unused : ℕ → ℕ → Row → Bool
is_unused limit t row = row.ttl == 0 && nat_lt 0 limit && nat_lt (row.atime + limit) t

-- it has no ttl of its own, and was not used for longer than the cache's: a look-up still finds it
abbrev pub is_soft_expired : Conf → ℕ → Row → Bool
is_soft_expired conf t row = is_unused conf.ttl t row

abbrev pub is_expired : Conf → ℕ → Row → Bool
is_expired conf t row = is_hard_expired t row || is_soft_expired conf t row

-- the row that a look-up of the key finds
abbrev pub live_row : List ℕ → ℕ → Cache → Option Row
live_row key t c = find (λ row. has_key key row && not (is_hard_expired t row)) c.rows
