use Rattle.std.proofs.Common.{List, ℕ, length, sym, subst}
use Rattle.std.specs.Prelude.{IfOk}
use Rattle.apcu_model.specs.declared.conf.Conf.{Conf}
use Rattle.script_read.specs.declared.script.Step.{Step}
use Rattle.script_read.specs.Clock.{timed}
use Rattle.reply_text.specs.Lines.{script_lines}
use Rattle.worker_play.specs.Goes.{Tells}
use Rattle.worker_play.specs.Turns.{turns_of}
use Rattle.worker_play.proofs.script.play_script.Goals as goal

pub returns-clause-lines : goal.returns-clause-lines
returns-clause-lines g c =
    let own = subst (λ (l : List Step). IfOk c.play_lines.result.1 (λ (out : List ℕ). Tells g.N.TableName.conf (length g.N.TableName.budgets) c.args.pass c.play_lines.result.0 (turns_of g.N.TableName.conf (timed c.args.clock l)) (script_lines g.N.TableName.conf (timed c.args.clock l)) out)) c.of-steps.ensures c.play_lines.ensures.lines in
    subst (λ (conf : Conf). IfOk c.play_lines.result.1 (λ (out : List ℕ). Tells g.N.TableName.conf (length g.N.TableName.budgets) c.args.pass c.play_lines.result.0 (turns_of g.N.TableName.conf (timed c.args.clock c.args.script.now)) (script_lines conf (timed c.args.clock c.args.script.now)) out)) (sym c.requires.conf) own
