-- What a result of the reader says.
use Rattle.std.specs.Prelude.{◌≡◌, ℕ, ◌+◌, List, ◌++◌, length, Result, Ok, Err}
use Rattle.php_graph.specs.declared.kind.Kind.{Kind}
use Rattle.notation.specs.declared.fault.Reason.{Reason}
use Rattle.notation.specs.declared.fault.Fault.{Fault}
use Rattle.notation.specs.declared.fault.ReadFault.{ReadFault}
use Rattle.notation.specs.declared.fault.ReadFault.TheVariants.{Bad, Memory}
use Rattle.notation.specs.Notation.{IsSpellingOf}
use Rattle.notation.specs.Place.{Standing, left}
use Rattle.notation.specs.Reading.{reading_of}

-- The first fault is at this place among all bytes, which is this many before their end.
abbrev pub IsFirstFault : Standing → ℕ → Reason → Type 0
IsFirstFault from place reason =
    (fault : Fault) × (reading_of (left from) ≡ Err fault)
    × (fault.reason ≡ reason) × (place + fault.left ≡ length from.bytes)

-- The value's spelling is in front, and what is left then follows it.
pub record IsPassedOver (from to : Standing) (g : List Kind) : Type 0 where
  pub text : List ℕ
  pub spelled : IsSpellingOf text g
  pub there : left from ≡ text ++ left to

-- A value is what was read, with the bytes after it; a fault is the first one. Memory may always
-- run out.
abbrev pub IsReading : Standing → Standing → Result (List Kind) ReadFault → Type 0
IsReading from to (Ok g) = reading_of (left from) ≡ Ok (g, left to)
IsReading from to (Err (Bad place reason)) = IsFirstFault from place reason
IsReading from to (Err Memory) = Unit {0}
