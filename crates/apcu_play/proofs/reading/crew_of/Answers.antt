use Rattle.std.proofs.Common.{rules}
use Rattle.apcu_play.proofs.Causes.{alone_cause}
use Rattle.apcu_play.proofs.reading.crew_of.Goals as goal

pub returns-in-Err-clause-cause : goal.returns-in-Err-clause-cause
returns-in-Err-clause-cause c = λ conf map.
    alone_cause conf c.args.preload map c.args.bytes.now c.in-Err.fault c.ending_by.result (search rules) c.ending_by.ensures c.in-Err.ensures.read c.in-Err.ensures.only
