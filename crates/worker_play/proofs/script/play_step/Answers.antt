use Rattle.script_read.specs.Grammar.{ends_line}
use Rattle.reply_text.specs.Lines.{call_text}
use Rattle.worker_play.proofs.CallForms.{line_ends}
use Rattle.worker_play.proofs.PassProgress.{on_ok, of_ok}
use Rattle.worker_play.proofs.script.play_step.Goals as goal

pub returns-in-Ok-clause-line : goal.returns-in-Ok-clause-line
returns-in-Ok-clause-line g c =
    let t = of_ok c.play_call-pass.result.1 _ c.in-Ok.is c.play_call-pass.ensures.line in
    on_ok c.end_line-ended.result (λ e. line_ends _ _ _ _ _ (call_text c.args.call.now) c.args.out.now _ _ ends_line t e) c.end_line-ended.ensures.ok
