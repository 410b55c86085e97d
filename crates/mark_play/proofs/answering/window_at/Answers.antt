use Rattle.std.proofs.Common.{◌∙◌, ap, sym}
use Rattle.apcu_model.specs.History.{is_scalar}
use Rattle.mark_play.proofs.FoundRows.{window_is}
use Rattle.mark_play.proofs.answering.window_at.Goals as goal

pub returns-clause-window : goal.returns-clause-window
returns-clause-window g c row at same =
    window_is c.args.key.now c.in_ok-key.key c.head-number.result.number row
    (ap is_scalar same ∙ (sym c.is_scalar.ensures ∙ c.if-is_scalar.false)) c.in_ok-key.ensures (c.head-number.ensures.head row at).number
