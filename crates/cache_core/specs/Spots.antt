-- The spot of a new row, as it was found before room was made.
use Rattle.std.specs.Prelude.{◌≡◌, ℕ, List, Option, IfSome}
use Rattle.entry_slots.specs.declared.spots.Spot.{Spot}
use Rattle.entry_slots.specs.Entries.{Entries}
use Rattle.entry_slots.specs.Spots.{IsSpotOf}

-- the spot, if there is one, is that of the key
abbrev pub IsSpotIfAny : Entries → List ℕ → ℕ → Option Spot → Type 0
IsSpotIfAny s key t found = IfSome found (λ spot. IsSpotOf s key t spot)

-- the rows of a cache of one shape are the same
pub record HaveSameRows (old new : Entries) : Type 0 where
  pub conf : new.conf ≡ old.conf
  pub rows : new.rows ≡ old.rows
