use Rattle.std.proofs.Common.{arith}
use Rattle.apcu_model.specs.Conf.{good_one, usable_of}
use Rattle.model_tests.proofs.play.small.Goals as goal

pub returns : goal.returns
returns c =
    usable_of (good_one 512 32 c.args.ttl (omega arith) (omega arith) (omega arith) (omega arith) (omega arith) (omega arith) (omega arith))
