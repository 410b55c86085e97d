use Rattle.std.proofs.Common.{◌≡◌, ◌+◌, ◌≤◌, ◌++◌, drop}
use Rattle.std.specs.List.{sum_by}
use Rattle.reply_text.specs.Replies.{members_text}
use Rattle.reply_text.specs.Items.{item_numbers, item_members}
use Rattle.reply_text.proofs.walks.write_items.Given as goal

abbrev pub invariant-loop-row : goal.invariant-loop-row
invariant-loop-row l = record {
  text : l.out ++ members_text (item_members l.fields l.reached.key l.reached.base (drop l.row-index l.rows))
      ≡ l.initial.out ++ members_text (item_members l.fields l.fn.from.key l.fn.from.base l.rows);
  key : l.reached.key ≡ l.fn.from.key + l.row-index;
  base : l.reached.base + sum_by (item_numbers l.fields) (drop l.row-index l.rows)
      ≡ l.fn.from.base + sum_by (item_numbers l.fields) l.rows;
  fits : l.reached.key ≤ l.reached.base;
}
