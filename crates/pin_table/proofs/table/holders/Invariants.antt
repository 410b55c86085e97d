use Rattle.std.proofs.Common.{length, ◌≡◌, ◌≤◌, drop}
use Rattle.seg_words.specs.Windows.{holders}
use Rattle.pin_table.proofs.table.holders.Given as goal

abbrev pub invariant-loop-v : goal.invariant-loop-v
invariant-loop-v l = record { within : l.v ≤ length l.windows; mask : l.mask ≡ holders (drop l.v l.windows) l.at }

abbrev pub decreases-loop-v : goal.decreases-loop-v
decreases-loop-v l = l.v
