-- How a key that is passed as bytes is written.
use Rattle.std.specs.Prelude.{ℕ, List, Option, Some, None, ℤ}
use Rattle.notation.specs.Notation.{integer_text, string_text}

-- The integer of which the bytes are the decimal, or otherwise the bytes as a string.
abbrev pub written_key : Option ℤ → List ℕ → List ℕ
written_key (Some n) key = integer_text n
written_key None key = string_text key
