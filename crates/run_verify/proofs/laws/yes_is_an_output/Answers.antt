use Rattle.run_verify.proofs.YesVerdicts.{only_outputs, each_output}
use Rattle.run_verify.proofs.laws.yes_is_an_output.Goals as goal

pub returns-clause-only : goal.returns-clause-only
returns-clause-only c = only_outputs

pub returns-clause-each : goal.returns-clause-each
returns-clause-each c = each_output
