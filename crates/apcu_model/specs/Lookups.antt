-- The cache after a look-up that counts.
use Rattle.std.specs.Prelude.{ℕ, if◌then◌else◌, List, map, Option, Some, None}
use Rattle.apcu_model.specs.Cache.{Row, Cache, risen, has_key}

-- the row was used
abbrev pub touched : ℕ → Row → Row
touched t row = record row { hits = risen row.hits; atime = t }

-- a look-up that found a row uses it and counts a hit; one that found none counts a miss
abbrev pub looked_up : List ℕ → ℕ → Option Row → Cache → Cache
looked_up key t (Some row) c = record c {
  rows = map {A = Row} (λ r. if has_key key r then touched t r else r) c.rows;
  hits = risen c.hits;
}
looked_up key t None c = record c { misses = risen c.misses }
