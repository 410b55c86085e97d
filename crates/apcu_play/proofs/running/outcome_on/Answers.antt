use Rattle.std.proofs.Common.{◌++◌}
use Rattle.reply_text.specs.Output.{worker_texts}
use Rattle.apcu_play.specs.declared.status.Status.TheVariants.{WriteFault}
use Rattle.apcu_play.proofs.TaskAnswers.{answered_within, leaves_at, part_ends, unread_cut, whole_ends}
use Rattle.apcu_play.proofs.Causes.{cause_within}
use Rattle.apcu_play.proofs.running.outcome_on.Goals as goal

pub returns-then-print-clause-ending : goal.returns-then-print-clause-ending
returns-then-print-clause-ending g c =
    let p = c.in-Ok.printed in
    whole_ends _ c.args.settings.now _ _ (worker_texts 0 p.texts.items ++ p.rest) p.ends c.of.result.status c.of.result.place c.of.result.reason c.of.ensures c.in-Ok.ensures.answer c.if-print.ensures

pub returns-then-print-clause-within : goal.returns-then-print-clause-within
returns-then-print-clause-within g c = λ _.
    let p = c.in-Ok.printed in
    answered_within c.args.settings.now c.args.settings.now.task p.ends p.ends _ _ _ _ (worker_texts 0 p.texts.items ++ p.rest) c.in-Ok.ensures.answer c.in-Ok.ensures.unread_ok

pub returns-then-print-clause-unread : goal.returns-then-print-clause-unread
returns-then-print-clause-unread g c =
    leaves_at c.args.settings.now.task c.in-Ok.printed.ends c.of.result.status (g.S.Source.left c.args.input.now) (g.S.Source.left c.answer.new.input) (g.S.Source.faults c.args.input.now) (g.S.Source.faults c.answer.new.input)
    c.of.ensures c.in-Ok.ensures.unread_ok

pub returns-in-Ok-clause-ending : goal.returns-in-Ok-clause-ending
returns-in-Ok-clause-ending g c =
    let p = c.in-Ok.printed in
    part_ends _ c.args.settings.now _ _ (worker_texts 0 p.texts.items ++ p.rest) p.ends c.of-else-print.result.status c.of-else-print.result.place c.of-else-print.result.reason c.of-else-print.ensures c.in-Ok.ensures.answer c.if-print.ensures

pub returns-in-Ok-clause-within : goal.returns-in-Ok-clause-within
returns-in-Ok-clause-within g c = λ _.
    let p = c.in-Ok.printed in
    answered_within c.args.settings.now c.args.settings.now.task p.ends p.ends _ _ _ _ (worker_texts 0 p.texts.items ++ p.rest) c.in-Ok.ensures.answer c.in-Ok.ensures.unread_ok

pub returns-in-Ok-clause-unread : goal.returns-in-Ok-clause-unread
returns-in-Ok-clause-unread g c =
    leaves_at c.args.settings.now.task WriteFault c.of-else-print.result.status (g.S.Source.left c.args.input.now) (g.S.Source.left c.answer.new.input) (g.S.Source.faults c.args.input.now) (g.S.Source.faults c.answer.new.input)
    c.of-else-print.ensures (unread_cut c.args.settings.now.task c.in-Ok.printed.ends (g.S.Source.left c.args.input.now) (g.S.Source.left c.answer.new.input) (g.S.Source.faults c.args.input.now) (g.S.Source.faults c.answer.new.input) c.in-Ok.ensures.unread_ok)

pub returns-clause-within : goal.returns-clause-within
returns-clause-within g c =
    let e = c.in-Err.ending in
    cause_within _ c.args.settings.now.conf c.args.settings.now.task _ _ _ _ e.status e.place e.reason c.in-Err.ensures.cause c.in-Err.ensures.unread
