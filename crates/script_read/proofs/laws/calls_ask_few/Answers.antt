use Rattle.script_read.proofs.EventBounds.{asks_few}
use Rattle.script_read.proofs.laws.calls_ask_few.Goals as goal

pub returns : goal.returns
returns c = asks_few
