-- A loader together with scripts in range is in range, and its keys consist of bytes.
use Rattle.std.proofs.Common.{List, [], ◌∷◌, ◌++◌, ℕ}
use Rattle.std.specs.List.{AllByRecursion}
use Rattle.script_read.specs.declared.script.Step.{Step}
use Rattle.script_read.specs.Calls.{IsRanged}
use Rattle.script_read.specs.Ranges.{AreRanged, HasByteKeys, HaveByteKeys}
use Rattle.preload_set.specs.Bundle.{Record, IsRecord, AreRecords}
use Rattle.preload_set.specs.Loader.{loader_of}

loader_ranged : (records : List Record) → AllByRecursion IsRanged (loader_of records)
loader_ranged [] = tt
loader_ranged (r ∷ records) = (tt, loader_ranged records)

loader_keys : (records : List Record) → AllByRecursion IsRecord records → AllByRecursion HasByteKeys (loader_of records)
loader_keys [] are = tt
loader_keys (r ∷ records) are = ((are.0.0.fits.0.1, tt), loader_keys records are.1)

one_more : (P : Step → Type 0) (scripts : List (List Step)) (script : List Step) → AllByRecursion (λ script. AllByRecursion P script) scripts → AllByRecursion P script → AllByRecursion (λ script. AllByRecursion P script) (scripts ++ script ∷ [])
one_more P [] script all last = (last, tt)
one_more P (first ∷ scripts) script all last = (all.0, one_more P scripts script all.1 last)

pub crew_ranged : (scripts : List (List Step)) (records : List Record) → AreRanged scripts → AreRanged (scripts ++ loader_of records ∷ [])
crew_ranged scripts records ranged = one_more IsRanged scripts (loader_of records) ranged (loader_ranged records)

pub crew_keys : (bytes : List ℕ) (scripts : List (List Step)) (records : List Record) → AreRecords bytes records → HaveByteKeys scripts → HaveByteKeys (scripts ++ loader_of records ∷ [])
crew_keys bytes scripts records are keys = one_more HasByteKeys scripts (loader_of records) keys (loader_keys records are.values)
