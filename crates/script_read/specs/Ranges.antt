-- Which scripts have all their arguments in range, and which keys they name.
use Rattle.std.specs.Prelude.{ℕ, List, [], ◌∷◌, map}
use Rattle.std.specs.List.{AllByRecursion}
use Rattle.php_graph.specs.declared.kind.Kind.{Kind}
use Rattle.apcu_model.specs.Levels.{EntryLevel}
use Rattle.simple_pool.specs.declared.call.PoolAsk.{PoolAsk}
use Rattle.simple_pool.specs.declared.call.PoolAsk.TheVariants as asks
use Rattle.script_read.specs.declared.call.Call.{Call}
use Rattle.script_read.specs.declared.call.Call.TheVariants.{StoreOne, StoreMany, FetchOne}
use Rattle.script_read.specs.declared.call.Call.TheVariants.{FetchMany, ExistsOne, ExistsMany}
use Rattle.script_read.specs.declared.call.Call.TheVariants.{DeleteOne, DeleteMany, Inc, Cas, Clear}
use Rattle.script_read.specs.declared.call.Call.TheVariants.{Enabled, Entry, KeyInfo, CacheInfo}
use Rattle.script_read.specs.declared.call.Call.TheVariants.{SmaInfo, Walk, WalkDelete, Totals}
use Rattle.script_read.specs.declared.call.Call.TheVariants.{Pool}
use Rattle.script_read.specs.declared.script.Step.{Step}
use Rattle.script_read.specs.Calls.{IsRanged}
use Rattle.script_read.specs.Ties.{AreSomeBytes}

-- the arguments of all calls are in their ranges
abbrev pub AreRanged : List (List Step) → Type 0
AreRanged scripts = AllByRecursion (λ script. AllByRecursion IsRanged script) scripts

-- the keys of pairs
abbrev pub keys_in_pairs : List (List ℕ × List Kind) → List (List ℕ)
keys_in_pairs pairs = map (λ (pair : List ℕ × List Kind). pair.0) pairs

-- the keys that a pool's call names, as the pool has them
abbrev pub keys_asked : PoolAsk → List (List ℕ)
keys_asked (asks.Get key default) = key ∷ []
keys_asked (asks.Set key value ttl) = key ∷ []
keys_asked (asks.SetPlain key value) = key ∷ []
keys_asked (asks.Delete key) = key ∷ []
keys_asked asks.Clear = []
keys_asked (asks.GetMany keys default) = keys
keys_asked (asks.SetMany pairs ttl) = keys_in_pairs pairs
keys_asked (asks.SetManyPlain pairs) = keys_in_pairs pairs
keys_asked (asks.DeleteMany keys) = keys
keys_asked (asks.Has key) = key ∷ []

-- the keys that a call names
abbrev pub keys_called : Call → List (List ℕ)
keys_called (StoreOne key value ttl exclusive) = key ∷ []
keys_called (StoreMany pairs ttl exclusive) = keys_in_pairs pairs
keys_called (FetchOne key) = key ∷ []
keys_called (FetchMany keys) = keys
keys_called (ExistsOne key) = key ∷ []
keys_called (ExistsMany keys) = keys
keys_called (DeleteOne key) = key ∷ []
keys_called (DeleteMany keys) = keys
keys_called (Inc key step ttl) = key ∷ []
keys_called (Cas key expect set) = key ∷ []
keys_called (Entry gen) = map {A = EntryLevel} (λ level. level.key) gen.levels
keys_called Clear = []
keys_called Enabled = []
keys_called (KeyInfo key) = key ∷ []
keys_called (CacheInfo limited) = []
keys_called (SmaInfo limited) = []
keys_called (Walk wanted fields size list) = []
keys_called (WalkDelete wanted size) = []
keys_called (Totals wanted list) = []
keys_called (Pool call) = keys_asked call.ask

-- the keys that the step names consist of bytes
abbrev pub HasByteKeys : Step → Type 0
HasByteKeys step = AllByRecursion AreSomeBytes (keys_called step.call)

-- those that all steps name do
abbrev pub HaveByteKeys : List (List Step) → Type 0
HaveByteKeys scripts = AllByRecursion (λ script. AllByRecursion HasByteKeys script) scripts
