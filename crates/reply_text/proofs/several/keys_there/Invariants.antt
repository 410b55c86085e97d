use Rattle.std.proofs.Common.{◌≡◌, [], drop}
use Rattle.reply_text.specs.Replies.{all_noted, there_in}
use Rattle.reply_text.proofs.several.keys_there.Given as goal

abbrev pub invariant-loop-i : goal.invariant-loop-i
invariant-loop-i l = all_noted there_in l.notes (drop l.i l.keys) (drop l.i l.replies) ≡ all_noted there_in [] l.keys l.replies
