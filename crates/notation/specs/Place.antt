-- The position of a reader.
use Rattle.std.specs.Prelude.{ℕ, List, drop}

-- all bytes, and the number of those that were read
pub record Standing : Type 0 where
  pub bytes : List ℕ
  pub place : ℕ

-- the bytes that are still to be read
abbrev pub left : Standing → List ℕ
left s = drop s.place s.bytes
