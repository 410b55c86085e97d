use Rattle.std.proofs.Common.{length, ◌-◌, ◌≡◌, ◌≤◌, ◌++◌, take, drop}
use Rattle.seg_words.specs.Windows.{closed_on}
use Rattle.pin_table.proofs.table.close_windows.Given as goal

abbrev pub invariant-loop-v : goal.invariant-loop-v
invariant-loop-v l = record { within : l.v ≤ length l.windows.items; same : length l.windows.items ≡ length l.initial.windows.items; items : l.windows.items ≡ closed_on l.at (take l.v l.initial.windows.items) ++ drop l.v l.initial.windows.items }

abbrev pub decreases-loop-v : goal.decreases-loop-v
decreases-loop-v l = length l.windows.items - l.v
