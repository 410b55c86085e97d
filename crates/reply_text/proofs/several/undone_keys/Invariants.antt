use Rattle.std.proofs.Common.{◌≡◌, ◌++◌, map, drop}
use Rattle.reply_text.specs.Replies.{undone}
use Rattle.reply_text.proofs.several.undone_keys.Given as goal

abbrev pub invariant-loop-i : goal.invariant-loop-i
invariant-loop-i l = map (λ key. key.now) l.some.items ++ undone (drop l.i l.keys) (drop l.i l.replies) ≡ undone l.keys l.replies
