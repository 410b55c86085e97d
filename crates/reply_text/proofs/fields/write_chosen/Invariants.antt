use Rattle.std.proofs.Common.{◌≡◌, ◌+◌, ◌*◌, ◌≤◌, ◌++◌, map, drop}
use Rattle.reply_text.specs.Replies.{members_text, value_members}
use Rattle.reply_text.specs.Items.{numbers_of, chosen_from}
use Rattle.reply_text.specs.Fields.{field_value}
use Rattle.reply_text.proofs.fields.write_chosen.Given as goal

abbrev pub invariant-loop-bit : goal.invariant-loop-bit
invariant-loop-bit l = record {
  text : l.out ++ members_text (value_members l.next (chosen_from l.bit l.fields (map field_value (drop l.bit l.all))))
      ≡ l.initial.out ++ members_text (value_members l.initial.next (chosen_from 0 l.fields (map field_value l.all)));
  next : l.next + numbers_of (chosen_from l.bit l.fields (map field_value (drop l.bit l.all)))
      ≡ l.initial.next + numbers_of (chosen_from 0 l.fields (map field_value l.all));
  low : l.next ≤ l.initial.next + 16777216 * l.bit;
}
