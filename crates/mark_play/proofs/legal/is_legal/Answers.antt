use Rattle.std.proofs.Common.{◌≡◌, ◌∙◌, ◌<◌, None, false, length, sym, ap, arith}
use Rattle.std.specs.Prelude.{slice_index_or}
use Rattle.mark_play.specs.Legal.{may_meet}
use Rattle.mark_play.proofs.HeldWorkers.{same_default}
use Rattle.mark_play.proofs.LegalMasks.{all_pass, one_fails}
use Rattle.mark_play.proofs.legal.is_legal.Goals as goal

pub returns-then-not-may_meet : goal.returns-then-not-may_meet
returns-then-not-may_meet c =
    let low : c.loop-v.v < length c.args.windows.now = omega (arith, c.loop-v-test.true, c.requires) in
    let read : slice_index_or c.args.windows.now c.loop-v.v None ≡ c.index-windows-v.result = same_default c.args.windows.now c.loop-v.v None c.index-windows-v.result low ∙ sym c.index-windows-v.is in
    let fails : may_meet c.args.workers c.args.worker c.args.mask c.loop-v.v (slice_index_or c.args.windows.now c.loop-v.v None) ≡ false =
    ap (λ o. may_meet c.args.workers c.args.worker c.args.mask c.loop-v.v o) read ∙ (sym c.may_meet.ensures ∙ c.if-not-may_meet.true) in
    sym (one_fails (λ v. may_meet c.args.workers c.args.worker c.args.mask v (slice_index_or c.args.windows.now v None)) 0 64 c.loop-v.v (omega arith) c.loop-v-test.true fails)

pub returns : goal.returns
returns c = sym (all_pass (λ v. may_meet c.args.workers c.args.worker c.args.mask v (slice_index_or c.args.windows.now v None)) 0 64 (λ k low less. c.loop-v.invariant k (omega (arith, less, c.loop-v-test.false))))
