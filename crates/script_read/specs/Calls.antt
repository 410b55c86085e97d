-- How far a call can go, and what its arguments may be.
use Rattle.std.specs.Prelude.{ℕ, ◌≤◌, ◌<◌, length}
use Rattle.apcu_model.specs.Levels.{most_levels}
use Rattle.apcu_model.specs.declared.searching.List.TheVariants.{Active, Deleted}
use Rattle.script_read.specs.declared.call.Call.{Call}
use Rattle.script_read.specs.declared.call.Call.TheVariants.{StoreOne, StoreMany, FetchOne}
use Rattle.script_read.specs.declared.call.Call.TheVariants.{FetchMany, ExistsOne, ExistsMany}
use Rattle.script_read.specs.declared.call.Call.TheVariants.{DeleteOne, DeleteMany, Inc, Cas, Clear}
use Rattle.script_read.specs.declared.call.Call.TheVariants.{Enabled, Entry, KeyInfo, CacheInfo}
use Rattle.script_read.specs.declared.call.Call.TheVariants.{SmaInfo, Walk, WalkDelete, Totals}
use Rattle.script_read.specs.declared.call.Call.TheVariants.{Pool}
use Rattle.script_read.specs.declared.script.Step.{Step}
use Rattle.simple_pool.specs.Requests.{IsGoodCall, pool_bound}

-- The largest number of events of a call, in a cache of this many slots: a walk over the active
-- rows takes at least one slot in each step, and all removed rows are one step.
abbrev pub event_bound : ℕ → Call → ℕ
event_bound slots (StoreOne key value ttl exclusive) = 1
event_bound slots (StoreMany pairs ttl exclusive) = length pairs
event_bound slots (FetchOne key) = 1
event_bound slots (FetchMany keys) = length keys
event_bound slots (ExistsOne key) = 1
event_bound slots (ExistsMany keys) = length keys
event_bound slots (DeleteOne key) = 1
event_bound slots (DeleteMany keys) = length keys
event_bound slots (Inc key step ttl) = 1
event_bound slots (Cas key expect set) = 1
event_bound slots (Entry gen) = 1
event_bound slots Clear = 1
event_bound slots Enabled = 0
event_bound slots (KeyInfo key) = 1
event_bound slots (CacheInfo limited) = 1
event_bound slots (SmaInfo limited) = 1
event_bound slots (Walk wanted fields size Active) = slots
event_bound slots (Walk wanted fields size Deleted) = 1
event_bound slots (WalkDelete wanted size) = slots
event_bound slots (Totals wanted list) = 1
event_bound slots (Pool call) = pool_bound slots call.ask

-- the last moment, in seconds
abbrev pub last_moment : ℕ
last_moment = 999999999999

-- the step's moments are at most that
abbrev pub IsInTime : Step → Type 0
IsInTime step = (step.t ≤ last_moment) × (step.start ≤ last_moment)

-- the most items of a step of a walk
abbrev pub most_items : ℕ
most_items = 65536

-- A call's arguments are in their ranges, unless their types say it: its generator is an entry,
-- with as many inside as allowed, each step of a walk has at least one item, and a pool's name,
-- keys and time to live have their forms.
abbrev pub HasRanges : Call → Type 0
HasRanges (Entry gen) = (0 < length gen.levels) × (length gen.levels ≤ most_levels)
HasRanges (Walk wanted fields size list) = (0 < size) × (size ≤ most_items)
HasRanges (WalkDelete wanted size) = (0 < size) × (size ≤ most_items)
HasRanges (Pool call) = IsGoodCall call
HasRanges _ = Unit {0}

-- the step's call has its ranges
abbrev pub IsRanged : Step → Type 0
IsRanged step = HasRanges step.call
