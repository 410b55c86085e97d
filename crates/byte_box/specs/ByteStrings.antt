-- Byte strings.
use Rattle.std.specs.Prelude.{ℕ, ◌<◌, ◌^◌, List, length}
use Rattle.std.specs.List.{AllByRecursion}

-- fewer than 2^32 bytes
abbrev pub AreBytes : List ℕ → Type 0
AreBytes bytes = (length bytes < 2 ^ 32) × AllByRecursion (λ b. b < 256) bytes
