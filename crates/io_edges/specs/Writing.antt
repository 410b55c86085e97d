-- The result and the effect of a write to a sink.
use Rattle.std.specs.Prelude.{◌≡◌, ℕ, ◌≤◌, List, [], take}
use Rattle.io_edges.specs.declared.sink.Put.{Put}
use Rattle.io_edges.specs.declared.sink.Put.TheVariants.{Took, Failed}
use Rattle.io_edges.specs.Faults.{Rose, one_fault_more}

-- the bytes that a write took: as many of the first as it says
abbrev pub bytes_taken : Put → List ℕ → List ℕ
bytes_taken (Took n) bytes = take n bytes
bytes_taken Failed bytes = []

-- a write that takes bytes takes at least one, and no more than there are
abbrev pub TakesWithin : Put → ℕ → Type 0
TakesWithin (Took n) count = (1 ≤ n) × (n ≤ count)
TakesWithin Failed count = Unit {0}

-- a write returns `Failed` only if the count of faults rose, and otherwise the count is unchanged
abbrev pub CountsWriteFault : Put → ℕ → ℕ → Type 0
CountsWriteFault (Took n) old new = new ≡ old
CountsWriteFault Failed old new = (old ≤ new) × Rose old new

-- the count of faults after a write that counts just its own
abbrev pub faults_after_write : Put → ℕ → ℕ
faults_after_write (Took n) count = count
faults_after_write Failed count = one_fault_more count
