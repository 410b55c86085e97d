use Rattle.std.proofs.Common.{◌≡◌, ◌++◌, ◌+◌, ◌*◌, ◌≤◌, map, drop}
use Rattle.reply_text.specs.Replies.{members_text, value_members}
use Rattle.reply_text.proofs.replies.write_values.Given as goal

abbrev pub invariant-loop-value : goal.invariant-loop-value
invariant-loop-value g l = record {
  text : l.out ++ members_text (value_members l.base (map (λ value. (value.0.now, g.V.Value.kinds_of value.1)) (drop l.value-index l.values)))
      ≡ l.initial.out ++ members_text (value_members 1 (map (λ value. (value.0.now, g.V.Value.kinds_of value.1)) l.values));
  low : l.base ≤ 1 + 16777216 * l.value-index;
}
