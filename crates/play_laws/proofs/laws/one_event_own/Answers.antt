use Rattle.play_laws.proofs.OwnReplies.{one-more, others-add-none, length-own_replies}
use Rattle.play_laws.proofs.laws.one_event_own.Goals as goal

pub returns : goal.returns
returns c = record { more = one-more; others = others-add-none; count = length-own_replies }
