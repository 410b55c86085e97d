-- Reading a bundle from left to right, to its end or to the first fault.
use Rattle.std.specs.Prelude.{ℕ, zero, suc, List, [], ◌∷◌, length, Result, Ok}
use Rattle.notation.specs.declared.fault.Fault.{Fault}
use Rattle.notation.specs.Marks.{◌>>=◌}
use Rattle.notation.specs.Reading.{reading_of}
use Rattle.script_read.specs.Arguments.{key}
use Rattle.script_read.specs.Reading.{choice_at, separator_at}
use Rattle.preload_set.specs.Bundle.{Record}

-- the expected byte
abbrev pub due_byte_at : ℕ → List ℕ → Result (Unit {0} × List ℕ) Fault
due_byte_at due bytes = separator_at due bytes >>= λ rest. Ok (tt, rest)

-- A key, a space, a value and a line feed, with the bytes after them. The fault of a key that is no
-- string is found after it was read.
abbrev pub record_at : List ℕ → Result (Record × List ℕ) Fault
record_at bytes = do
  k ← choice_at key bytes
  argument ← separator_at 32 k.1
  v ← reading_of argument
  rest ← separator_at 10 v.1
  Ok ((k.0, v.0), rest)

-- the records up to the end of the bytes, at most this many
unfoldable pub records_at : ℕ → List ℕ → Result (List Record) Fault
records_at most [] = Ok []
records_at zero (b ∷ rest) = Ok []
records_at (suc most) (b ∷ rest) =
    record_at (b ∷ rest) >>= λ r. records_at most r.1 >>= λ more. Ok (r.0 ∷ more)

-- All of the bytes. Each record takes at least one byte, so there are no more of them than bytes.
abbrev pub bundle_at : List ℕ → Result (List Record) Fault
bundle_at bytes = records_at (length bytes) bytes
