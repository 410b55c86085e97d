use Rattle.std.proofs.Common.{arith}
use Rattle.apcu_model.specs.Conf.{good_one, usable_of}
use Rattle.cache_tests.proofs.pair.shape.Goals as goal

pub returns-clause-usable : goal.returns-clause-usable
returns-clause-usable c =
    let even = c.requires.even in
    usable_of (good_one c.args.words 32 c.args.ttl even.0 (omega (arith, even.1)) (omega (arith, even.2)) (omega arith) (omega arith) (omega arith) (omega (arith, even.1)))
