use Rattle.std.proofs.Common.{rules, arith}
use Rattle.conf_read.specs.declared.task.Task.TheVariants.{Verify}
use Rattle.apcu_play.specs.Causes.{refuses_none}
use Rattle.apcu_play.proofs.Causes.{script_cause}
use Rattle.apcu_play.proofs.InputFaults.{front_fault}
use Rattle.apcu_play.proofs.reading.scripts_in_front.Goals as goal

pub returns-in-Err-clause-cause : goal.returns-in-Err-clause-cause
returns-in-Err-clause-cause c = λ conf.
    script_cause refuses_none conf (Verify c.args.len) c.args.bytes.now 0 c.in-Err.fault c.ending_by.result c.ending_by.ensures
    (front_fault c.args.len c.args.bytes.now _ c.in-Err.fault (search rules) (search rules) c.in-Err.ensures.read c.in-Err.ensures.only)
