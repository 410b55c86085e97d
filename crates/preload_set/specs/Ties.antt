-- How reading is tied to what is written.
use Rattle.std.specs.Prelude.{◌≡◌, ℕ, List, Ok}
use Rattle.script_read.specs.Ties.{AreSomeBytes}
use Rattle.preload_set.specs.Bundle.{Record, AreRecords}
use Rattle.preload_set.specs.Reading.{bundle_at}

-- the records that are read of bytes are written there
abbrev pub BundlesTake : Type 0
BundlesTake = (bytes : List ℕ) (records : List Record) → AreSomeBytes bytes
    → bundle_at bytes ≡ Ok records → AreRecords bytes records

-- what is written is read
abbrev pub BundlesAgain : Type 0
BundlesAgain = (bytes : List ℕ) (records : List Record) → AreRecords bytes records
    → bundle_at bytes ≡ Ok records

-- bytes are at most one bundle
abbrev pub BundlesAreOne : Type 0
BundlesAreOne = (bytes : List ℕ) (a b : List Record) → AreRecords bytes a
    → AreRecords bytes b → a ≡ b
