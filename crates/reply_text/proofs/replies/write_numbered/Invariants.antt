use Rattle.std.proofs.Common.{◌≡◌, ◌++◌, map, drop}
use Rattle.reply_text.specs.Replies.{members_text, numbered}
use Rattle.reply_text.proofs.replies.write_numbered.Given as goal

abbrev pub invariant-loop-i : goal.invariant-loop-i
invariant-loop-i l =
    l.out ++ members_text (numbered l.i (map (λ string. string.now) (drop l.i l.strings)))
    ≡ l.initial.out ++ members_text (numbered 0 (map (λ string. string.now) l.strings))
