-- How often a call asks.
use Rattle.std.proofs.Common.{◌≡◌, ℕ, suc, ◌+◌, ◌<◌, Bool, true, false, List, [], ◌∷◌, length, map, Some, arith, refl, ap}
use Rattle.std.specs.Prelude.{nat_lt, if◌then◌else◌}
use Rattle.php_graph.specs.declared.kind.Kind.{Kind}
use Rattle.apcu_model.specs.declared.conf.Conf.{Conf}
use Rattle.apcu_model.specs.declared.searching.List.TheVariants.{Active, Deleted}
use Rattle.apcu_model.specs.declared.request.Request.{Request}
use Rattle.apcu_model.specs.declared.request.Request.TheVariants as requests
use Rattle.apcu_model.specs.declared.request.Reply.{Reply}
use Rattle.script_read.specs.declared.call.Call.{Call}
use Rattle.script_read.specs.declared.call.Call.TheVariants.{StoreOne, StoreMany, FetchOne, FetchMany, ExistsOne, ExistsMany, DeleteOne, DeleteMany, Inc, Cas, Entry, Clear, Enabled, KeyInfo, CacheInfo, SmaInfo, Walk, WalkDelete, Totals, Pool}
use Rattle.simple_pool.specs.declared.call.PoolAsk.{PoolAsk}
use Rattle.simple_pool.specs.declared.call.PoolAsk.TheVariants as pools
use Rattle.simple_pool.specs.Names.{pool_key, pattern_of}
use Rattle.simple_pool.specs.Requests.{pool_asking, pool_bound, pool_step, set_of, store_of}
use Rattle.script_read.specs.Calls.{event_bound}
use Rattle.script_read.specs.Play.{Asks, Leaves, asks_each, asks_steps, step_end, slot_after, next_of, asking_in, asks_so}

-- ---- one after the other

each_few : (asked : List Request) (replies : List Reply) (request : Request) → asks_each asked replies ≡ Asks request → length replies < length asked
each_few [] replies request e = absurd cc
each_few (first ∷ more) [] request e = omega arith
each_few (first ∷ more) (reply ∷ replies) request e = omega (arith, each_few more replies request e)

map_len : {A B : Type 0} (f : A → B) (xs : List A) → length (map f xs) ≡ length xs
map_len f [] = refl
map_len f (x ∷ xs) = ap suc (map_len f xs)

many_few : {A : Type 0} (f : A → Request) (xs : List A) (replies : List Reply) (request : Request) → asks_each (map f xs) replies ≡ Asks request → length replies < length xs
many_few f xs replies request e = omega (arith, each_few (map f xs) replies request e, map_len f xs)

-- ---- step by step

is_above : (a b : ℕ) → nat_lt a b ≡ true → a < b
is_above a b e = grind (arith, e)

-- a walk goes up
goes_up : (slots from : ℕ) (reply : Reply) → from < slots → from < slot_after slots from reply
goes_up slots from reply some = by_test (nat_lt from (step_end slots reply)) (is_above from (step_end slots reply))
  where
    by_test : (b : Bool) → (b ≡ true → from < step_end slots reply) → from < (if b then step_end slots reply else slots)
    by_test true above = above refl
    by_test false above = some

steps_few : (slots : ℕ) (ask : ℕ → Request) (from : ℕ) (replies : List Reply) (request : Request) → asks_steps slots ask from replies ≡ Asks request → from + length replies < slots
steps_few slots ask from [] request e = by_test (nat_lt from slots) (is_above from slots) e
  where
    by_test : (b : Bool) → (b ≡ true → from < slots) → (if b then Asks (ask from) else Leaves []) ≡ Asks request → from + 0 < slots
    by_test true below e = omega (arith, below refl)
    by_test false below e = absurd cc
steps_few slots ask from (reply ∷ replies) request e =
    by_test (nat_lt from slots) (is_above from slots) (steps_few slots ask (slot_after slots from reply) replies request) e
  where
    by_test : (b : Bool) → (b ≡ true → from < slots) → (asks_steps slots ask (slot_after slots from reply) replies ≡ Asks request → slot_after slots from reply + length replies < slots)
        → (if b then asks_steps slots ask (slot_after slots from reply) replies else Leaves (reply ∷ replies)) ≡ Asks request → from + suc (length replies) < slots
    by_test true below few e = omega (arith, few e, goes_up slots from reply (below refl))
    by_test false below few e = absurd cc

walk_few : (slots : ℕ) (ask : ℕ → Request) (replies : List Reply) (request : Request) → asks_steps slots ask 0 replies ≡ Asks request → length replies < slots
walk_few slots ask replies request e = omega (arith, steps_few slots ask 0 replies request e)

-- ---- a pool's calls

pool_few : (slots : ℕ) (pool : List ℕ) (ask : PoolAsk) (replies : List Reply) (request : Request) → asks_so slots (asking_in (pool_asking pool ask)) replies ≡ Asks request → length replies < pool_bound slots ask
pool_few slots pool (pools.Get key default) replies request e = each_few (requests.Fetch (pool_key pool key) ∷ []) replies request e
pool_few slots pool (pools.Set key value ttl) replies request e = each_few (set_of pool (key, value) ttl ∷ []) replies request e
pool_few slots pool (pools.SetPlain key value) replies request e = each_few (store_of pool (key, value) 0 ∷ []) replies request e
pool_few slots pool (pools.Delete key) replies request e = each_few (requests.Delete (pool_key pool key) ∷ []) replies request e
pool_few slots pool pools.Clear replies request e = walk_few slots (λ from. requests.ChunkDelete (Some (pattern_of pool)) from pool_step) replies request e
pool_few slots pool (pools.GetMany keys default) replies request e = many_few (λ (key : List ℕ). requests.Fetch (pool_key pool key)) keys replies request e
pool_few slots pool (pools.SetMany pairs ttl) replies request e = many_few (λ (pair : List ℕ × List Kind). set_of pool pair ttl) pairs replies request e
pool_few slots pool (pools.SetManyPlain pairs) replies request e = many_few (λ (pair : List ℕ × List Kind). store_of pool pair 0) pairs replies request e
pool_few slots pool (pools.DeleteMany keys) replies request e = many_few (λ (key : List ℕ). requests.Delete (pool_key pool key)) keys replies request e
pool_few slots pool (pools.Has key) replies request e = each_few (requests.Exists (pool_key pool key) ∷ []) replies request e

-- ---- all calls

pub asks_few : (conf : Conf) (call : Call) (replies : List Reply) (request : Request) → next_of conf call replies ≡ Asks request → length replies < event_bound conf.slots call
asks_few conf (StoreOne key value ttl exclusive) replies request e = each_few (requests.Store key value ttl exclusive ∷ []) replies request e
asks_few conf (StoreMany pairs ttl exclusive) replies request e = many_few (λ (pair : List ℕ × List Kind). requests.Store pair.0 pair.1 ttl exclusive) pairs replies request e
asks_few conf (FetchOne key) replies request e = each_few (requests.Fetch key ∷ []) replies request e
asks_few conf (FetchMany keys) replies request e = many_few requests.Fetch keys replies request e
asks_few conf (ExistsOne key) replies request e = each_few (requests.Exists key ∷ []) replies request e
asks_few conf (ExistsMany keys) replies request e = many_few requests.Exists keys replies request e
asks_few conf (DeleteOne key) replies request e = each_few (requests.Delete key ∷ []) replies request e
asks_few conf (DeleteMany keys) replies request e = many_few requests.Delete keys replies request e
asks_few conf (Inc key step ttl) replies request e = each_few (requests.Inc key step ttl ∷ []) replies request e
asks_few conf (Cas key expect set) replies request e = each_few (requests.Cas key expect set ∷ []) replies request e
asks_few conf (Entry gen) replies request e = each_few (requests.Entry gen ∷ []) replies request e
asks_few conf (KeyInfo key) replies request e = each_few (requests.KeyInfo key ∷ []) replies request e
asks_few conf (CacheInfo limited) replies request e = each_few (requests.CacheInfo limited ∷ []) replies request e
asks_few conf (SmaInfo limited) replies request e = each_few (requests.SmaInfo limited ∷ []) replies request e
asks_few conf Clear replies request e = each_few (requests.Clear ∷ []) replies request e
asks_few conf Enabled replies request e = each_few [] replies request e
asks_few conf (Walk wanted fields size Active) replies request e = walk_few conf.slots (λ from. requests.Chunk wanted from size Active fields) replies request e
asks_few conf (Walk wanted fields size Deleted) replies request e = each_few (requests.Chunk wanted 0 size Deleted fields ∷ []) replies request e
asks_few conf (WalkDelete wanted size) replies request e = walk_few conf.slots (λ from. requests.ChunkDelete wanted from size) replies request e
asks_few conf (Totals wanted list) replies request e = each_few (requests.Totals wanted list ∷ []) replies request e
asks_few conf (Pool call) replies request e = pool_few conf.slots call.pool call.ask replies request e
