use Rattle.std.proofs.Common.{◌≡◌, ◌+◌, length, drop}
use Rattle.std.specs.List.{flat_map}
use Rattle.reply_text.specs.Items.{items_in}
use Rattle.reply_text.proofs.walks.count_items.Given as goal

abbrev pub invariant-loop-step : goal.invariant-loop-step
invariant-loop-step l = l.count + length (flat_map items_in (drop l.step-index l.steps)) ≡ length (flat_map items_in l.steps)
