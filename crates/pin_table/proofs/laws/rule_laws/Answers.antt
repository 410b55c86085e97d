use Rattle.std.proofs.Common.{◌==◌, refl}
use Rattle.pin_table.proofs.WindowLists.{named_there, there_named, held_bit}
use Rattle.pin_table.proofs.HeldBlocks.{bit_held}
use Rattle.pin_table.proofs.EventLogs.{events_after, fetched_after}
use Rattle.pin_table.proofs.RuleParts.{rule_of}
use Rattle.pin_table.proofs.laws.rule_laws.Goals as goal

pub returns : goal.returns
returns c = record {
  carried = rule_of;
  named = named_there;
  there = there_named;
  held = held_bit;
  holds = bit_held;
  own = λ w es e. events_after w es e (e.worker == w) refl;
  last = fetched_after;
}
