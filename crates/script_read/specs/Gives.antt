-- The results of a reader of scripts, in addition to what reading gives.
use Rattle.std.specs.Prelude.{◌≡◌, ℕ, ◌+◌, ◌≤◌, List, length, map, codes, Result, Ok, Err}
use Rattle.notation.specs.declared.fault.Reason.{Reason}
use Rattle.notation.specs.declared.fault.Fault.{Fault}
use Rattle.script_read.specs.declared.fault.Stop.{Stop}
use Rattle.script_read.specs.declared.fault.Stop.TheVariants as stops
use Rattle.script_read.specs.declared.fault.ScriptFault.{ScriptFault}
use Rattle.script_read.specs.declared.fault.ScriptFault.TheVariants as faults
use Rattle.script_read.specs.declared.effect.Effect.{Effect}
use Rattle.script_read.specs.declared.effect.Effect.TheVariants.{Sets, Begins, Calls}
use Rattle.script_read.specs.declared.fields.Field.{Field}
use Rattle.script_read.specs.declared.keyword.Keyword.{Keyword}
use Rattle.script_read.specs.declared.keyword.Row.{Row}
use Rattle.script_read.specs.declared.keyword.Keyword.TheVariants as keywords
use Rattle.script_read.specs.declared.script.Step.{Step}
use Rattle.notation.specs.declared.fault.Reason.TheVariants as reasons
use Rattle.script_read.specs.Calls.{last_moment, HasRanges}
use Rattle.script_read.specs.Table.{Form, Refuse, form_of}
use Rattle.script_read.specs.Reading.{scripts_at}

abbrev pub Stops : {Y : Type 0} → Stop → Result Y Fault → Type 0
Stops stops.Memory read = Unit {0}
Stops (stops.Fault f) read = read ≡ Err f

-- The result of a function, by its view, is what reading gives, unless memory ran out.
abbrev pub GivesItem : {X Y : Type 0} → (X → Y) → Result X Stop → Result Y Fault → Type 0
GivesItem view (Ok x) read = read ≡ Ok (view x)
GivesItem view (Err e) read = Stops e read

-- The first fault of the bytes is at this place, counted from 0.
pub record IsFirstScriptFault (bytes : List ℕ) (place : ℕ) (reason : Reason) : Type 0 where
  pub fault : Fault
  pub reads : scripts_at bytes ≡ Err fault
  pub why : fault.reason ≡ reason
  pub at : place + fault.left ≡ length bytes

-- The scripts are those that are read; a fault is the first one. Memory may always run out.
abbrev pub ReadsScripts : List ℕ → Result (List (List Step)) ScriptFault → Type 0
ReadsScripts bytes (Ok scripts) = scripts_at bytes ≡ Ok scripts
ReadsScripts bytes (Err (faults.Bad place reason)) = IsFirstScriptFault bytes place reason
ReadsScripts bytes (Err faults.Memory) = Unit {0}

-- what follows a word of the code
abbrev pub form_named : Keyword → Form
form_named keywords.Time = form_of (codes "time")
form_named keywords.Request = form_of (codes "request")
form_named keywords.Store = form_of (codes "apcu_store")
form_named keywords.Add = form_of (codes "apcu_add")
form_named keywords.Fetch = form_of (codes "apcu_fetch")
form_named keywords.Exists = form_of (codes "apcu_exists")
form_named keywords.Delete = form_of (codes "apcu_delete")
form_named keywords.Inc = form_of (codes "apcu_inc")
form_named keywords.Dec = form_of (codes "apcu_dec")
form_named keywords.Cas = form_of (codes "apcu_cas")
form_named keywords.Entry = form_of (codes "apcu_entry")
form_named keywords.Clear = form_of (codes "apcu_clear_cache")
form_named keywords.Enabled = form_of (codes "apcu_enabled")
form_named keywords.KeyInfo = form_of (codes "apcu_key_info")
form_named keywords.CacheInfo = form_of (codes "apcu_cache_info")
form_named keywords.SmaInfo = form_of (codes "apcu_sma_info")
form_named keywords.Iterate = form_of (codes "APCUIterator")
form_named keywords.IterateDelete = form_of (codes "APCUIterator_delete")
form_named keywords.IterateTotals = form_of (codes "APCUIterator_totals")
form_named keywords.PoolGet = form_of (codes "pool_get")
form_named keywords.PoolSet = form_of (codes "pool_set")
form_named keywords.PoolDelete = form_of (codes "pool_delete")
form_named keywords.PoolClear = form_of (codes "pool_clear")
form_named keywords.PoolGetMany = form_of (codes "pool_get_multiple")
form_named keywords.PoolSetMany = form_of (codes "pool_set_multiple")
form_named keywords.PoolDeleteMany = form_of (codes "pool_delete_multiple")
form_named keywords.PoolHas = form_of (codes "pool_has")
form_named keywords.Unknown = Refuse reasons.Line

-- the code's words, with what follows each
abbrev pub forms_of : List Row → List (List ℕ × Form)
forms_of rows = map (λ row. (row.text.now, form_named row.word)) rows

-- the code's fields, each with its bit
abbrev pub bits_of : List Field → List (List ℕ × ℕ)
bits_of fields = map (λ field. (field.name.now, field.bit)) fields

-- the effect of a line is in range: its moment, or its call's arguments
abbrev pub IsInRange : Effect → Type 0
IsInRange (Sets t) = t ≤ last_moment
IsInRange (Begins t) = t ≤ last_moment
IsInRange (Calls call) = HasRanges call
