-- What the plain cache keeps.
use Rattle.std.specs.Prelude.{◌≡◌, true, []}
use Rattle.plain_cache.specs.declared.state.State.{State}
use Rattle.apcu_model.specs.Cache.{Cache}
use Rattle.apcu_model.specs.Conf.{IsUsable}
use Rattle.apcu_model.specs.Rows.{are_apart}

-- the cache that a state is
abbrev pub cache_in : State → Cache
cache_in s = record {
  conf = s.conf;
  rows = s.rows.items;
  removed = [];
  next_number = s.next_number;
  hits = s.hits;
  misses = s.misses;
  inserts = s.inserts;
  expunges = s.expunges;
}

-- what holds of a state before and after each request
pub record IsValid (s : State) : Type 0 where
  pub usable : IsUsable s.conf
  pub apart : are_apart s.rows.items ≡ true
