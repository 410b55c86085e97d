use Rattle.std.proofs.Common.{arith}
use Rattle.apcu_model.specs.Conf.{good_one, usable_of}
use Rattle.shared_tests.proofs.slots.small.Goals as goal

pub returns-clause-usable : goal.returns-clause-usable
returns-clause-usable c =
    usable_of (good_one 512 32 0 (omega arith) (omega arith) (omega arith) (omega arith) (omega arith) (omega arith) (omega arith))
