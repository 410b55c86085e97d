-- Counts of faults, which stop at the maximum of a `u64`.
use Rattle.std.specs.Prelude.{ℕ, ◌+◌, ◌-◌, ◌^◌, ◌<◌, ◌≤◌, ◌⊎◌, min}

-- the count after one more fault: it is one more, but stops at the maximum of a `u64`
abbrev pub one_fault_more : ℕ → ℕ
one_fault_more count = min (count + 1) (2 ^ 64 - 1)

-- a count rose: it is greater than before, or has reached the maximum of a `u64`, where it stops
abbrev pub Rose : ℕ → ℕ → Type 0
Rose old new = (old < new) ⊎ (2 ^ 64 - 1 ≤ new)
