use Rattle.std.proofs.Common.{◌≡◌, ◌+◌, ◌≤◌, length, map, drop}
use Rattle.reply_text.specs.Items.{chosen_from}
use Rattle.reply_text.specs.Fields.{field_value}
use Rattle.reply_text.proofs.fields.chosen_count.Given as goal

abbrev pub invariant-loop-bit : goal.invariant-loop-bit
invariant-loop-bit l = record {
  count : l.count + length (chosen_from l.bit l.fields (drop l.bit (map field_value l.all)))
      ≡ length (chosen_from 0 l.fields (map field_value l.all));
  low : l.count ≤ l.bit;
}
