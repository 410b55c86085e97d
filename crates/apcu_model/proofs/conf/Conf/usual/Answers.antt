use Rattle.std.proofs.Common.{refl, arith}
use Rattle.apcu_model.specs.Conf.{good_one}
use Rattle.apcu_model.proofs.conf.Conf.usual.Goals as goal

pub returns-clause-good : goal.returns-clause-good
returns-clause-good c = good_one 4194304 4096 0 refl (omega arith) (omega arith) refl (omega arith) (omega arith) (omega arith)
