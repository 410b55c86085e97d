use Rattle.std.proofs.Common.{◌∙◌, ◌<◌, ◌^◌, List, Option, ap, arith}
use Rattle.apcu_model.specs.History.{is_legal_mask}
use Rattle.mark_play.specs.declared.answering.Window.{Window}
use Rattle.mark_play.specs.Legal.{is_legal_by}
use Rattle.mark_play.specs.ReplayStages.{Replayed}
use Rattle.mark_play.proofs.LegalMasks.{legal_alike}
use Rattle.mark_play.proofs.replay.Replay.is_legal.Goals as goal

pub returns : goal.returns
returns c =
    let small : c.args.mask < 2 ^ 64 = omega (arith, c.ranges.mask) in
    c.is_legal.ensures ∙ (ap (λ (w : List (Option Window)). is_legal_by w c.args.workers c.args.worker c.args.mask) c.deref.ensures.value
    ∙ (legal_alike c.self.inside.reached.state c.self.inside.windows.items c.args.workers c.args.worker c.args.mask small c.self.invariant.numbers
    ∙ ap (λ (r : Replayed). is_legal_mask c.args.workers c.args.worker r.stage c.args.mask) c.self.view_is))
