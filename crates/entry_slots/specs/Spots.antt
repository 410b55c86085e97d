-- How a walk along a chain has found the row of a key.
use Rattle.std.specs.Prelude.{◌≡◌, ℕ, ◌<◌, List, ◌++◌}
use Rattle.std.specs.List.{list_any}
use Rattle.apcu_model.specs.Cache.{Row}
use Rattle.apcu_model.specs.Expiry.{is_expired}
use Rattle.apcu_model.specs.SlotOrder.{slot_of}
use Rattle.entry_slots.specs.declared.spots.Spot.{Spot}
use Rattle.entry_slots.specs.Lists.{first_place}
use Rattle.entry_slots.specs.Entries.{Entries, chain_of, old_place}
use Rattle.entry_slots.specs.Links.{link_after}

-- The spot is after the rows `front` of its chain: the link is the word that names the row after
-- them, `at` is the place of that row, or 0, and `stale` is whether one of the rows in front is
-- expired at the moment t.
pub record IsSpot (s : Entries) (t : ℕ) (spot : Spot) : Type 0 where
  pub front : List Row
  pub back : List Row
  pub split : chain_of s spot.slot ≡ front ++ back
  pub low : spot.slot < s.conf.slots
  pub link_is : spot.link ≡ link_after spot.slot front
  pub at_is : spot.at ≡ first_place back
  pub stale_is : spot.stale ≡ list_any (is_expired s.conf t) front

-- It is the spot of the key: in the chain of its slot, at its row, or at the end if no row has the
-- key.
pub record IsSpotOf (s : Entries) (key : List ℕ) (t : ℕ) (spot : Spot) : Type 0 where
  pub in_chain : IsSpot s t spot
  pub slot_is : spot.slot ≡ slot_of s.conf key
  pub old_is : spot.at ≡ old_place key s
