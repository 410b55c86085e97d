use Rattle.std.proofs.Common.{List, ℕ, length, ◌∙◌, subst}
use Rattle.std.specs.Prelude.{IfOk}
use Rattle.apcu_model.specs.declared.conf.Conf.{Conf}
use Rattle.script_read.specs.Clock.{timed}
use Rattle.reply_text.specs.Lines.{script_lines}
use Rattle.worker_play.specs.declared.script.Lines.TheVariants.{Kept}
use Rattle.worker_play.specs.Goes.{Tells}
use Rattle.worker_play.specs.Turns.{turns_of}
use Rattle.worker_play.proofs.PassProgress.{OwnLaws}
use Rattle.worker_play.proofs.WorkerEnds.{one_left, unanswered, plays_out_if, has_asked}
use Rattle.worker_play.proofs.ending.play_out.Goals as goal

pub retire-ended-requires : goal.retire-ended-requires
retire-ended-requires g c =
    record {
      pass = record {
        table = c.play_script-pass.ensures.reaches.goes.table ∙ c.requires.table;
        left = one_left g.N.TableName.conf (length g.N.TableName.budgets) c.args.pass c.play_script-pass.result.0 c.args.clock c.args.script.now c.play_script-pass.ensures.reaches c.requires.left;
      };
    }

pub returns-clause-ends : goal.returns-clause-ends
returns-clause-ends g c =
    let conf = g.N.TableName.conf in
    let workers = length g.N.TableName.budgets in
    let script = timed c.args.clock c.args.script.now in
    let held = c.play_script-pass.result.0 in
    let r = c.play_script-pass.ensures.reaches.goes in
    let f = c.retire-ended.ensures in
    let laws : OwnLaws = record { more = c.one_event_own.ensures.more; others = c.one_event_own.ensures.others } in
    let none = unanswered laws conf c.args.pass c.requires.no_event c.requires.whole in
    let lines = subst (λ (its : Conf). IfOk c.play_script-pass.result.1 (λ (out : List ℕ). Tells conf workers c.args.pass held (turns_of conf script) (script_lines its script) out)) c.requires.conf c.play_script-pass.ensures.lines in
    record {
      ended = record {
        table = f.table ∙ (r.table ∙ c.requires.table);
        worker = f.worker ∙ r.worker;
        all_own = f.all_own;
      };
      begun = has_asked laws conf workers c.args.pass held c.retire-ended.result script c.requires.no_event none c.play_script-pass.ensures.reaches f;
      plays = plays_out_if laws conf workers c.args.pass held c.retire-ended.result Kept script c.play_script-pass.result.1 c.requires.no_event none lines f;
    }
