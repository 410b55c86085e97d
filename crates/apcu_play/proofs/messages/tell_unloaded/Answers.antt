use Rattle.apcu_play.specs.Message.{bundle_message}
use Rattle.apcu_play.proofs.messages.tell_unloaded.Goals as goal

pub returns : goal.returns
unfolding bundle_message
returns g c = c.tell_place.ensures
