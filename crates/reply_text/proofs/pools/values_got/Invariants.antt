use Rattle.std.proofs.Common.{◌≡◌, [], drop}
use Rattle.reply_text.specs.Notes.{lent_notes}
use Rattle.reply_text.specs.PoolReplies.{got_in}
use Rattle.reply_text.specs.Replies.{all_noted}
use Rattle.reply_text.proofs.pools.values_got.Given as goal

abbrev pub invariant-loop-i : goal.invariant-loop-i
invariant-loop-i l =
    all_noted (got_in l.default) (lent_notes l.notes) (drop l.i l.keys) (drop l.i l.replies) ≡ all_noted (got_in l.default) [] l.keys l.replies
