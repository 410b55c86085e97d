use Rattle.std.proofs.Common.{◌≡◌, ℕ, ◌-◌, ◌<◌, ◌≤◌, length, get_or}
use Rattle.std.specs.Mem.Slots.{slots_items}
use Rattle.pin_table.proofs.table.copy_back.Given as goal

abbrev pub invariant-loop-i : goal.invariant-loop-i
invariant-loop-i l = record {
  within : l.i ≤ length l.row.items;
  same : length l.row.items ≡ length l.initial.row.items;
  items : (k : ℕ) → k < l.i → get_or l.row.items k 0 ≡ get_or (slots_items l.closed.words) k 0;
}

abbrev pub decreases-loop-i : goal.decreases-loop-i
decreases-loop-i l = length l.row.items - l.i
