use Rattle.std.proofs.Common.{◌≡◌, ◌<◌, ◌+◌, ◌++◌, List, length}
use Rattle.script_read.specs.declared.script.Step.{Step}
use Rattle.script_read.specs.Budgets.{events_in}
use Rattle.script_read.specs.Clock.{timed}
use Rattle.reply_text.specs.Lines.{script_lines}
use Rattle.worker_play.specs.Goes.{KnowsOwnEvents, left_of}
use Rattle.worker_play.specs.Turns.{turns_of}
use Rattle.worker_play.proofs.PassProgress.{Midway}
use Rattle.worker_play.proofs.ScriptSteps.{AreAmong}
use Rattle.worker_play.proofs.script.play_lines.Given as goal

abbrev pub invariant-loop-index : goal.invariant-loop-index
invariant-loop-index g l =
    let conf = g.N.TableName.conf in
    let all : List Step = g.S.Steps.to_come l.fn.steps in
    let rest : List Step = g.S.Steps.to_come l.steps in
    record {
      count : length rest + l.index ≡ length all;
      among : AreAmong rest all;
      table : l.held.table ≡ g.N.TableName.table;
      whole : KnowsOwnEvents l.held;
      left : events_in conf.slots rest < l.held.known.left;
      text : left_of l.lines l.out ≡ l.out;
      midway : Midway conf (length g.N.TableName.budgets) l.fn.pass l.held (turns_of conf (timed l.fn.clock all)) (turns_of conf (timed l.fn.clock rest)) (λ replies. left_of l.lines (script_lines conf (timed l.fn.clock all) replies)) (λ later. left_of l.lines (l.out ++ script_lines conf (timed l.fn.clock rest) later));
    }
