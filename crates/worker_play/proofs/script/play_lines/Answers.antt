use Rattle.std.proofs.Common.{◌≡◌, ◌<◌, ◌++◌, ℕ, List, ◌∷◌, length, ◌∙◌, sym, ap, subst, arith}
use Rattle.std.proofs.lemmas.List.{nil_from_length}
use Rattle.script_read.specs.declared.script.Step.{Step}
use Rattle.script_read.specs.Budgets.{events_in}
use Rattle.script_read.specs.Clock.{timed}
use Rattle.reply_text.specs.Lines.{script_lines}
use Rattle.worker_play.specs.Goes.{left_of}
use Rattle.worker_play.specs.Turns.{turns_of}
use Rattle.worker_play.proofs.PassProgress.{OwnLaws, Midway, begins, of_ok}
use Rattle.worker_play.proofs.ScriptSteps.{AreAmong, among_behind, left_after, left_whole, none_left, one_met, broken_off, all_met}
use Rattle.worker_play.proofs.WorkerEnds.{few_taken, unanswered, has_made}
use Rattle.worker_play.proofs.script.play_lines.Goals as goal

pub loop-index-init : goal.loop-index-init
loop-index-init g c =
    let conf = g.N.TableName.conf in
    let script = timed c.args.clock (g.S.Steps.to_come c.args.steps) in
    record {
      count = omega arith;
      among = λ step there. there;
      table = c.requires.table;
      whole = c.requires.whole;
      left = c.requires.left;
      text = subst (λ (o : List ℕ). left_of c.args.lines o ≡ o) (sym c.new-out.ensures) (none_left c.args.lines);
      midway = subst (λ (o : List ℕ). Midway conf (length g.N.TableName.budgets) c.args.pass c.args.pass (turns_of conf script) (turns_of conf script) (λ replies. left_of c.args.lines (script_lines conf script replies)) (λ later. left_of c.args.lines (o ++ script_lines conf script later))) (sym c.new-out.ensures)
          (begins conf (length g.N.TableName.budgets) c.args.pass (turns_of conf script) (λ replies. left_of c.args.lines (script_lines conf script replies)) c.requires.whole);
    }

pub returns-in_default-clause-left : goal.returns-in_default-clause-left
returns-in_default-clause-left g c =
    few_taken g.N.TableName.conf (length g.N.TableName.budgets) c.args.pass c.loop-index.held c.args.clock (g.S.Steps.to_come c.args.steps) c.loop-index.invariant.midway.0

pub returns-in-Err-clause-reaches : goal.returns-in-Err-clause-reaches
returns-in-Err-clause-reaches g c =
    let conf = g.N.TableName.conf in
    let rest : List Step = g.S.Steps.to_come c.next.new.self in
    let split : g.S.Steps.to_come c.loop-index.steps ≡ c.as_step-step.result.now ∷ rest = c.in-Ok.ensures.first ∙ ap (λ (s : Step). s ∷ rest) (sym c.as_step-step.ensures) in
    broken_off conf (length g.N.TableName.budgets) c.args.pass c.loop-index.held c.play_step-next.result.0 c.args.clock (g.S.Steps.to_come c.args.steps) (g.S.Steps.to_come c.loop-index.steps) c.as_step-step.result.now rest c.args.lines c.loop-index.out c.moment-t.result split c.loop-index.invariant.midway c.moment-t.ensures c.play_step-next.ensures.reaches

pub returns-in-Err-clause-left : goal.returns-in-Err-clause-left
returns-in-Err-clause-left g c =
    let conf = g.N.TableName.conf in
    let rest : List Step = g.S.Steps.to_come c.next.new.self in
    let split : g.S.Steps.to_come c.loop-index.steps ≡ c.as_step-step.result.now ∷ rest = c.in-Ok.ensures.first ∙ ap (λ (s : Step). s ∷ rest) (sym c.as_step-step.ensures) in
    few_taken conf (length g.N.TableName.budgets) c.args.pass c.play_step-next.result.0 c.args.clock (g.S.Steps.to_come c.args.steps)
    (broken_off conf (length g.N.TableName.budgets) c.args.pass c.loop-index.held c.play_step-next.result.0 c.args.clock (g.S.Steps.to_come c.args.steps) (g.S.Steps.to_come c.loop-index.steps) c.as_step-step.result.now rest c.args.lines c.loop-index.out c.moment-t.result split c.loop-index.invariant.midway c.moment-t.ensures c.play_step-next.ensures.reaches)

pub loop-index-preserved : goal.loop-index-preserved
loop-index-preserved g c =
    let conf = g.N.TableName.conf in
    let all : List Step = g.S.Steps.to_come c.args.steps in
    let rest : List Step = g.S.Steps.to_come c.next.new.self in
    let step : Step = c.as_step-step.result.now in
    let split : g.S.Steps.to_come c.loop-index.steps ≡ step ∷ rest = c.in-Ok.ensures.first ∙ ap (λ (s : Step). s ∷ rest) (sym c.as_step-step.ensures) in
    let enough = subst (λ (l : List Step). events_in g.N.TableName.conf.slots l < c.loop-index.held.known.left) split c.loop-index.invariant.left in
    let told = of_ok c.play_step-next.result.1 _ c.in_default-played.is c.play_step-next.ensures.line in
    record {
      count = omega (arith, c.loop-index.invariant.count, ap length split);
      among = among_behind step rest all (subst (λ (l : List Step). AreAmong l all) split c.loop-index.invariant.among);
      table = told.asked.goes.table ∙ c.loop-index.invariant.table;
      whole = told.asked.goes.all_own;
      left = left_after _ _ _ _ _ step rest c.play_step-next.ensures.reaches enough;
      text = left_whole c.args.lines c.play_step-next.new.out c.leave.new.out c.leave.ensures;
      midway = one_met conf (length g.N.TableName.budgets) c.args.pass c.loop-index.held c.play_step-next.result.0 c.args.clock all (g.S.Steps.to_come c.loop-index.steps) step rest c.args.lines c.loop-index.out c.play_step-next.new.out c.leave.new.out c.moment-t.result split c.loop-index.invariant.midway c.moment-t.ensures told c.leave.ensures;
    }

pub returns-clause-lines : goal.returns-clause-lines
returns-clause-lines g c =
    let rest : List Step = g.S.Steps.to_come c.loop-index.steps in
    let none = nil_from_length rest (omega (arith, c.loop-index-test.false, c.len-index-end.ensures, c.loop-index.invariant.count)) in
    all_met g.N.TableName.conf (length g.N.TableName.budgets) c.args.pass c.loop-index.held c.args.clock (g.S.Steps.to_come c.args.steps) rest c.args.lines c.loop-index.out none c.loop-index.invariant.midway c.loop-index.invariant.text

pub returns-clause-made : goal.returns-clause-made
returns-clause-made g c =
    let laws : OwnLaws = record { more = c.one_event_own.ensures.more; others = c.one_event_own.ensures.others } in
    let rest : List Step = g.S.Steps.to_come c.loop-index.steps in
    let none = nil_from_length rest (omega (arith, c.loop-index-test.false, c.len-index-end.ensures, c.loop-index.invariant.count)) in
    has_made g.N.TableName.conf (length g.N.TableName.budgets) c.args.pass c.loop-index.held (timed c.args.clock (g.S.Steps.to_come c.args.steps)) _ _ c.requires.no_event (unanswered laws g.N.TableName.conf c.args.pass c.requires.no_event c.requires.whole)
    (all_met g.N.TableName.conf (length g.N.TableName.budgets) c.args.pass c.loop-index.held c.args.clock (g.S.Steps.to_come c.args.steps) rest c.args.lines c.loop-index.out none c.loop-index.invariant.midway c.loop-index.invariant.text)

pub returns-clause-left : goal.returns-clause-left
returns-clause-left g c =
    few_taken g.N.TableName.conf (length g.N.TableName.budgets) c.args.pass c.loop-index.held c.args.clock (g.S.Steps.to_come c.args.steps) c.loop-index.invariant.midway.0
