use Rattle.std.proofs.Common.{◌≡◌, ◌++◌, map, drop}
use Rattle.reply_text.specs.Replies.{members_text, all_with}
use Rattle.reply_text.proofs.replies.write_each.Given as goal

abbrev pub invariant-loop-key : goal.invariant-loop-key
invariant-loop-key l =
    l.out ++ members_text (all_with l.answer (map (λ key. key.now) (drop l.key-index l.keys)))
    ≡ l.initial.out ++ members_text (all_with l.answer (map (λ key. key.now) l.keys))
