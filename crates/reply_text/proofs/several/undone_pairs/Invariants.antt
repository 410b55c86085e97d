use Rattle.std.proofs.Common.{◌≡◌, ◌++◌, map, drop}
use Rattle.reply_text.specs.Replies.{undone}
use Rattle.reply_text.proofs.several.undone_pairs.Given as goal

abbrev pub invariant-loop-i : goal.invariant-loop-i
invariant-loop-i l = map (λ key. key.now) l.some.items ++ undone (map (λ pair. pair.0) (drop l.i l.pairs)) (drop l.i l.replies) ≡ undone (map (λ pair. pair.0) l.pairs) l.replies
