-- The result and the effect of a read of a source.
use Rattle.std.specs.Prelude.{◌≡◌, ℕ, ◌≤◌, List, [], length, take, Option}
use Rattle.std.specs.Io.KnownBytes.{IsAtEnd, prepend_known}
use Rattle.io_edges.specs.declared.source.Got.{Got}
use Rattle.io_edges.specs.declared.source.Got.TheVariants.{Took, End, Failed}
use Rattle.io_edges.specs.Faults.{Rose, one_fault_more}

-- the bytes that a read returned: as many of the buffer's first as it says
abbrev pub bytes_given : Got → List ℕ → List ℕ
bytes_given (Took n) buffer = take n buffer
bytes_given End buffer = []
bytes_given Failed buffer = []

-- a read that returns bytes returns at least one, and no more than fit the buffer
abbrev pub GivesWithin : Got → ℕ → Type 0
GivesWithin (Took n) room = (1 ≤ n) × (n ≤ room)
GivesWithin End room = Unit {0}
GivesWithin Failed room = Unit {0}

-- a read returns `End` only if nothing is left, if that is reported
abbrev pub EndsOnlyAtEnd : Got → Option (List ℕ) → Type 0
EndsOnlyAtEnd (Took n) left = Unit {0}
EndsOnlyAtEnd End left = IsAtEnd left
EndsOnlyAtEnd Failed left = Unit {0}

-- a read returns `Failed` only if the count of faults rose, and otherwise the count is unchanged
abbrev pub CountsReadFault : Got → ℕ → ℕ → Type 0
CountsReadFault (Took n) old new = new ≡ old
CountsReadFault End old new = new ≡ old
CountsReadFault Failed old new = (old ≤ new) × Rose old new

-- the count of faults after a read that counts just its own
abbrev pub faults_after_read : Got → ℕ → ℕ
faults_after_read (Took n) count = count
faults_after_read End count = count
faults_after_read Failed count = one_fault_more count

-- reads took this many bytes from the front of what was left
abbrev pub HasTaken : Option (List ℕ) → Option (List ℕ) → ℕ → Type 0
HasTaken old new count = (bytes : List ℕ) × (length bytes ≡ count) × (old ≡ prepend_known bytes new)

-- reads took at most this many bytes
abbrev pub HasTakenWithin : Option (List ℕ) → Option (List ℕ) → ℕ → Type 0
HasTakenWithin old new most = (count : ℕ) × (count ≤ most) × HasTaken old new count
