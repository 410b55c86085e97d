-- Which requests may be made.
use Rattle.std.specs.Prelude.{◌≡◌, ℕ, ◌<◌, ◌≤◌, ◌^◌, length, Option}
use Rattle.apcu_model.specs.declared.conf.Conf.{Conf}
use Rattle.apcu_model.specs.declared.searching.Pattern.{Pattern}
use Rattle.apcu_model.specs.declared.request.Request.{Request}
use Rattle.apcu_model.specs.declared.request.Request.TheVariants as requests
use Rattle.apcu_model.specs.Levels.{most_levels}

-- a step of an iterator: the request has the search's pattern, and the step begins within the slots
pub record MaySearch (conf : Conf) (searched wanted : Option Pattern) (from size : ℕ)
    : Type 0 where
  pub same : wanted ≡ searched
  pub within : from ≤ conf.slots
  pub some : 1 ≤ size

-- the request has the search's pattern
pub record IsSearch (searched wanted : Option Pattern) : Type 0 where
  pub same : wanted ≡ searched

-- The arguments are in their ranges, and `searched` is the pattern of the search that was made for
-- the request.
abbrev pub MayBeAsked : Conf → Option Pattern → Request → Type 0
MayBeAsked conf searched (requests.Store key value ttl exclusive) = length key < 2 ^ 32
MayBeAsked conf searched (requests.Fetch key) = length key < 2 ^ 32
MayBeAsked conf searched (requests.Exists key) = length key < 2 ^ 32
MayBeAsked conf searched (requests.Delete key) = length key < 2 ^ 32
MayBeAsked conf searched (requests.Inc key step ttl) = length key < 2 ^ 32
MayBeAsked conf searched (requests.Cas key expect set) = length key < 2 ^ 32
MayBeAsked conf searched (requests.Entry g) = length g.levels ≤ most_levels
MayBeAsked conf searched requests.Clear = Unit {0}
MayBeAsked conf searched (requests.KeyInfo key) = length key < 2 ^ 32
MayBeAsked conf searched (requests.CacheInfo limited) = Unit {0}
MayBeAsked conf searched (requests.SmaInfo limited) = Unit {0}
MayBeAsked conf searched (requests.Chunk wanted from size list fields) =
    MaySearch conf searched wanted from size
MayBeAsked conf searched (requests.ChunkDelete wanted from size) =
    MaySearch conf searched wanted from size
MayBeAsked conf searched (requests.Totals wanted list) = IsSearch searched wanted
MayBeAsked conf searched requests.Retire = Unit {0}
