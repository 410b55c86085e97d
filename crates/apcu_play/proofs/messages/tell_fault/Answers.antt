use Rattle.apcu_play.specs.Message.{script_message}
use Rattle.apcu_play.proofs.messages.tell_fault.Goals as goal

pub returns : goal.returns
unfolding script_message
returns g c = c.tell_place.ensures
