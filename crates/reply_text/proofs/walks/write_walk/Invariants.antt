use Rattle.std.proofs.Common.{◌≡◌, ◌≤◌, ◌++◌, drop}
use Rattle.std.specs.List.{flat_map}
use Rattle.reply_text.specs.Replies.{members_text}
use Rattle.reply_text.specs.Items.{items_in, item_members}
use Rattle.reply_text.proofs.walks.write_walk.Given as goal

abbrev pub invariant-loop-step : goal.invariant-loop-step
invariant-loop-step l = record {
  text : l.out ++ members_text (item_members l.fields l.reached.key l.reached.base (flat_map items_in (drop l.step-index l.steps)))
      ≡ l.initial.out ++ members_text (item_members l.fields 0 1 (flat_map items_in l.steps));
  fits : l.reached.key ≤ l.reached.base;
}
