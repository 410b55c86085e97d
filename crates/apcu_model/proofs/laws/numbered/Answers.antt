use Rattle.apcu_model.proofs.Windows.{is_numbered}
use Rattle.apcu_model.proofs.laws.numbered.Goals as goal

pub returns : goal.returns
returns c = is_numbered
