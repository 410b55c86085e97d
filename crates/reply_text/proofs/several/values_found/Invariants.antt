use Rattle.std.proofs.Common.{◌≡◌, [], drop}
use Rattle.reply_text.specs.Notes.{lent_notes}
use Rattle.reply_text.specs.Replies.{all_noted, value_in}
use Rattle.reply_text.proofs.several.values_found.Given as goal

abbrev pub invariant-loop-i : goal.invariant-loop-i
invariant-loop-i l = all_noted value_in (lent_notes l.notes) (drop l.i l.keys) (drop l.i l.replies) ≡ all_noted value_in [] l.keys l.replies
