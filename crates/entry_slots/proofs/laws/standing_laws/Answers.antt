use Rattle.entry_slots.proofs.RowWindows.{sound, listed_probed, listed_copied, block_inside, blocks_lie_apart}
use Rattle.entry_slots.proofs.DistinctPlaces.{listed_one}
use Rattle.entry_slots.proofs.ChainPositions as walking
use Rattle.entry_slots.proofs.laws.standing_laws.Goals as goal

pub returns : goal.returns
returns c = record {
  sound = sound;
  probed = listed_probed;
  copied = listed_copied;
  inside = block_inside;
  apart = blocks_lie_apart;
  one = listed_one;
  empty = walking.empty;
  walked = walking.walked;
}
