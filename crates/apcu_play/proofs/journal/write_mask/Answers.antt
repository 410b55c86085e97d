use Rattle.std.proofs.Common.{◌++◌, List, ℕ, sym, ap, ◌∙◌}
use Rattle.std.proofs.lemmas.List.{append-nil}
use Rattle.reply_text.specs.Output.{mask_text}
use Rattle.apcu_play.proofs.MaskTexts.{mask_text-none, mask_text-zero, mask_in_step, mask_out_step}
use Rattle.apcu_play.proofs.journal.write_mask.Goals as goal
use Rattle.apcu_play.proofs.journal.write_mask.Goals.{then-mask-worker-eq1+in_ok-push+in_ok-write_number, else-mask-worker-eq1}

pub returns-then-mask-eq0 : goal.returns-then-mask-eq0
returns-then-mask-eq0 c =
    sym (ap (λ (l : List ℕ). c.args.out.now ++ l) (ap (λ (m : ℕ). mask_text m c.args.workers) c.if-mask-eq0.true ∙ mask_text-zero c.args.workers) ∙ append-nil c.args.out.now)

pub loop-worker-init : goal.loop-worker-init
loop-worker-init c = sym (ap (λ (l : List ℕ). c.args.out.now ++ l) (mask_text-none c.args.mask) ∙ append-nil c.args.out.now)

pub loop-worker-preserved : goal.loop-worker-preserved
loop-worker-preserved c =
    elim c.if-mask-worker-eq1.branch [
      | then-mask-worker-eq1+in_ok-push+in_ok-write_number w ↦
          w.out-is ∙ mask_in_step c.args.out.now c.loop-worker.out w.push.new.self w.write_number.new.out c.args.mask c.loop-worker.worker c.loop-worker.invariant w.in_ok-push.ensures.ok w.in_ok-write_number.ensures w.if-mask-worker-eq1.true
      | else-mask-worker-eq1 w ↦
          w.out-is ∙ mask_out_step c.args.out.now c.loop-worker.out c.args.mask c.loop-worker.worker c.loop-worker.invariant w.if-mask-worker-eq1.false
    ]
