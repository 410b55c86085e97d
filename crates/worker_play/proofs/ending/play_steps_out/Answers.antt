use Rattle.std.proofs.Common.{length, ◌∙◌}
use Rattle.script_read.specs.Clock.{timed}
use Rattle.worker_play.proofs.PassProgress.{OwnLaws}
use Rattle.worker_play.proofs.WorkerEnds.{one_left, unanswered, plays_out_if, has_asked}
use Rattle.worker_play.proofs.ending.play_steps_out.Goals as goal

pub retire-ended-requires : goal.retire-ended-requires
retire-ended-requires g c =
    record {
      pass = record {
        table = c.play_lines-pass.ensures.reaches.goes.table ∙ c.requires.table;
        left = one_left g.N.TableName.conf (length g.N.TableName.budgets) c.args.pass c.play_lines-pass.result.0 c.args.clock (g.S.Steps.to_come c.args.steps) c.play_lines-pass.ensures.reaches c.requires.left;
      };
    }

pub returns-clause-ends : goal.returns-clause-ends
returns-clause-ends g c =
    let conf = g.N.TableName.conf in
    let script = timed c.args.clock (g.S.Steps.to_come c.args.steps) in
    let r = c.play_lines-pass.ensures.reaches.goes in
    let f = c.retire-ended.ensures in
    let laws : OwnLaws = record { more = c.one_event_own.ensures.more; others = c.one_event_own.ensures.others } in
    let none = unanswered laws conf c.args.pass c.requires.no_event c.requires.whole in
    record {
      ended = record {
        table = f.table ∙ (r.table ∙ c.requires.table);
        worker = f.worker ∙ r.worker;
        all_own = f.all_own;
      };
      begun = has_asked laws conf (length g.N.TableName.budgets) c.args.pass c.play_lines-pass.result.0 c.retire-ended.result script c.requires.no_event none c.play_lines-pass.ensures.reaches f;
      plays = plays_out_if laws conf (length g.N.TableName.budgets) c.args.pass c.play_lines-pass.result.0 c.retire-ended.result c.args.lines script c.play_lines-pass.result.1 c.requires.no_event none c.play_lines-pass.ensures.lines f;
    }
