-- The requests of a call on a pool to the cache.
use Rattle.std.specs.Prelude.{◌≡◌, ℕ, ℤ, pos, Bool, true, false, ◌&&◌, if◌then◌else◌, List, []}
use Rattle.std.specs.Prelude.{◌∷◌, length, map, Option, Some, None, slice_get, nat_abs}
use Rattle.std.specs.Prelude.{int_le, int_lt}
use Rattle.std.specs.List.{list_all}
use Rattle.php_graph.specs.declared.kind.Kind.{Kind}
use Rattle.apcu_model.specs.declared.request.Request.{Request}
use Rattle.apcu_model.specs.declared.request.Request.TheVariants as asks
use Rattle.apcu_model.specs.declared.searching.Pattern.{Pattern}
use Rattle.simple_pool.specs.declared.call.PoolCall.{PoolCall}
use Rattle.simple_pool.specs.declared.call.PoolAsk.{PoolAsk}
use Rattle.simple_pool.specs.declared.call.PoolAsk.TheVariants.{Get, Set, SetPlain, Delete, Clear}
use Rattle.simple_pool.specs.declared.call.PoolAsk.TheVariants.{GetMany, SetMany, SetManyPlain}
use Rattle.simple_pool.specs.declared.call.PoolAsk.TheVariants.{DeleteMany, Has}
use Rattle.simple_pool.specs.Names.{is_good_name, is_good_key, pool_key, pattern_of}

-- the least number of keys of a step of clearing
abbrev pub pool_step : ℕ
pool_step = 100

-- the value is kept for this many seconds, or without a time limit if they are 0
abbrev pub store_of : List ℕ → List ℕ × List Kind → ℕ → Request
store_of pool pair ttl = asks.Store (pool_key pool pair.0) pair.1 ttl false

-- with a time that is not positive it is not kept
abbrev pub set_of : List ℕ → List ℕ × List Kind → ℤ → Request
set_of pool pair ttl =
    if int_lt (pos 0) ttl then store_of pool pair (nat_abs ttl)
    else asks.Delete (pool_key pool pair.0)

-- The requests of a call: one after the other, or for `Clear` step by step.
pub data PoolAsking : Type 0 where
  Each : List Request → PoolAsking
  Steps : (ℕ → Request) → PoolAsking

abbrev pub pool_asking : List ℕ → PoolAsk → PoolAsking
pool_asking pool (Get key default) = Each (asks.Fetch (pool_key pool key) ∷ [])
pool_asking pool (Set key value ttl) = Each (set_of pool (key, value) ttl ∷ [])
pool_asking pool (SetPlain key value) = Each (store_of pool (key, value) 0 ∷ [])
pool_asking pool (Delete key) = Each (asks.Delete (pool_key pool key) ∷ [])
pool_asking pool Clear =
    Steps (λ from. asks.ChunkDelete (Some (pattern_of pool)) from pool_step)
pool_asking pool (GetMany keys default) = Each (map (λ key. asks.Fetch (pool_key pool key)) keys)
pool_asking pool (SetMany pairs ttl) = Each (map (λ pair. set_of pool pair ttl) pairs)
pool_asking pool (SetManyPlain pairs) = Each (map (λ pair. store_of pool pair 0) pairs)
pool_asking pool (DeleteMany keys) =
    Each (map (λ key. asks.Delete (pool_key pool key)) keys)
pool_asking pool (Has key) = Each (asks.Exists (pool_key pool key) ∷ [])

-- the request of event i, if there is one; of steps, that from slot i on
abbrev pub asked_at : PoolAsking → ℕ → Option Request
asked_at (Each requests) i = slice_get requests i
asked_at (Steps ask) i = Some (ask i)

abbrev pub request_at : PoolCall → ℕ → Option Request
request_at call i = asked_at (pool_asking call.pool call.ask) i

-- the pattern of a call's walk
abbrev pub ask_pattern : List ℕ → PoolAsk → Option Pattern
ask_pattern pool Clear = Some (pattern_of pool)
ask_pattern pool _ = None

-- a time to live in seconds that a row can have, or one that has expired
abbrev pub is_good_ttl : ℤ → Bool
is_good_ttl ttl = int_le ttl (pos 4294967295)

abbrev pub are_good_keys : List (List ℕ) → Bool
are_good_keys keys = list_all is_good_key keys

abbrev pub are_good_pairs : List (List ℕ × List Kind) → Bool
are_good_pairs pairs = list_all (λ (pair : List ℕ × List Kind). is_good_key pair.0) pairs

-- the keys have their form, and the time to live is in its range
abbrev pub is_good_ask : PoolAsk → Bool
is_good_ask (Get key default) = is_good_key key
is_good_ask (Set key value ttl) = is_good_key key && is_good_ttl ttl
is_good_ask (SetPlain key value) = is_good_key key
is_good_ask (Delete key) = is_good_key key
is_good_ask Clear = true
is_good_ask (GetMany keys default) = are_good_keys keys
is_good_ask (SetMany pairs ttl) = are_good_pairs pairs && is_good_ttl ttl
is_good_ask (SetManyPlain pairs) = are_good_pairs pairs
is_good_ask (DeleteMany keys) = are_good_keys keys
is_good_ask (Has key) = is_good_key key

pub record IsGoodCall (call : PoolCall) : Type 0 where
  pub named : is_good_name call.pool ≡ true
  pub asks_well : is_good_ask call.ask ≡ true

-- the largest number of a call's events, in a cache of this many slots: each step of clearing takes
-- at least one slot
abbrev pub pool_bound : ℕ → PoolAsk → ℕ
pool_bound slots (Get key default) = 1
pool_bound slots (Set key value ttl) = 1
pool_bound slots (SetPlain key value) = 1
pool_bound slots (Delete key) = 1
pool_bound slots Clear = slots
pool_bound slots (GetMany keys default) = length keys
pool_bound slots (SetMany pairs ttl) = length pairs
pool_bound slots (SetManyPlain pairs) = length pairs
pool_bound slots (DeleteMany keys) = length keys
pool_bound slots (Has key) = 1
