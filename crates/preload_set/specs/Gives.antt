-- The results of a reader of bundles.
use Rattle.std.specs.Prelude.{◌≡◌, ℕ, ◌+◌, ◌<◌, ◌≤◌, ◌⊎◌, List, length, take, drop, Result, Ok, Err}
use Rattle.notation.specs.declared.fault.Reason.{Reason}
use Rattle.notation.specs.declared.fault.Reason.TheVariants.{End}
use Rattle.notation.specs.declared.fault.Fault.{Fault}
use Rattle.notation.specs.declared.fault.ReadFault.{ReadFault}
use Rattle.notation.specs.declared.fault.ReadFault.TheVariants as reads
use Rattle.notation.specs.Place.{Standing, left}
use Rattle.script_read.specs.declared.fault.ScriptFault.{ScriptFault}
use Rattle.script_read.specs.declared.fault.ScriptFault.TheVariants as faults
use Rattle.preload_set.specs.Bundle.{Record}
use Rattle.preload_set.specs.Reading.{bundle_at}

-- reading gives a fault, which is at this place among this many bytes
abbrev pub IsFaultAt : {Y : Type 0} → Result Y Fault → ℕ → ℕ → Reason → Type 0
IsFaultAt read total place reason =
    (fault : Fault) × (read ≡ Err fault)
    × (fault.reason ≡ reason) × (place + fault.left ≡ total)

-- What was read, with the bytes that are left, is what reading gives; a fault is the first one.
-- Memory may always run out.
abbrev pub ReadsFromTo : {X : Type 0}
    → Result (X × List ℕ) Fault → Standing → Standing → Result X ReadFault → Type 0
ReadsFromTo read from to (Ok x) = read ≡ Ok (x, left to)
ReadsFromTo read from to (Err (reads.Bad place reason)) =
    IsFaultAt read (length from.bytes) place reason
ReadsFromTo read from to (Err reads.Memory) = Unit {0}

-- all of the bytes
abbrev pub ReadsRecords : List ℕ → Result (List Record) ReadFault → Type 0
ReadsRecords bytes (Ok records) = bundle_at bytes ≡ Ok records
ReadsRecords bytes (Err (reads.Bad place reason)) =
    IsFaultAt (bundle_at bytes) (length bytes) place reason
ReadsRecords bytes (Err reads.Memory) = Unit {0}

abbrev pub ReadsBundle : List ℕ → Result (List Record) ScriptFault → Type 0
ReadsBundle bytes (Ok records) = bundle_at bytes ≡ Ok records
ReadsBundle bytes (Err (faults.Bad place reason)) =
    IsFaultAt (bundle_at bytes) (length bytes) place reason
ReadsBundle bytes (Err faults.Memory) = Unit {0}

-- ---- a bundle in front of an input

-- The first `len` bytes are no bundle, with the place of their first fault; or the input has fewer
-- bytes, and the fault is at its end.
abbrev pub IsFrontFault : ℕ → List ℕ → ℕ → Reason → Type 0
IsFrontFault len input place reason =
    ((length input < len) × (place ≡ length input) × (reason ≡ End))
    ⊎ ((len ≤ length input) × IsFaultAt (bundle_at (take len input)) len place reason)

-- What was read, by its view: the records of the first `len` bytes, and the bytes after them.
abbrev pub ReadsFront : {X : Type 0}
    → (X → List Record × List ℕ) → ℕ → List ℕ → Result X ScriptFault → Type 0
ReadsFront view len input (Ok x) =
    (len ≤ length input) × (bundle_at (take len input) ≡ Ok (view x).0)
    × ((view x).1 ≡ drop len input)
ReadsFront view len input (Err (faults.Bad place reason)) = IsFrontFault len input place reason
ReadsFront view len input (Err faults.Memory) = Unit {0}
