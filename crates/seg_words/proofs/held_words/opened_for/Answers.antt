use Rattle.std.proofs.Common.{◌≡◌, ℕ, ap, sym, ◌∙◌, cond, eqb, ◌%◌, get_or, arith}
use Rattle.std.proofs.lemmas.Bool.{eq-eqb, ne_eqb}
use Rattle.std.proofs.lemmas.List.{length-set}
use Rattle.seg_words.proofs.WorkerWindows.{opened_next}
use Rattle.seg_words.proofs.held_words.opened_for.Goals.{then-left-eq1, else-left-eq1}
use Rattle.seg_words.proofs.held_words.opened_for.Goals as goal

pub loop-worker-preserved : goal.loop-worker-preserved
loop-worker-preserved c =
    let v : ℕ = c.if-left-eq1.windows in
    let is : v ≡ cond (eqb (c.loop-worker.left % 2) 1) (get_or c.args.held.now c.loop-worker.worker 0) 0 = elim c.if-left-eq1.branch [
      | then-left-eq1 w ↦ w.windows-is ∙ sym (ap (λ b. cond {A = ℕ} b (get_or c.args.held.now c.loop-worker.worker 0) 0) (eq-eqb (c.loop-worker.left % 2) 1 w.if-left-eq1.true))
      | else-left-eq1 w ↦ w.windows-is ∙ sym (ap (λ b. cond {A = ℕ} b (get_or c.args.held.now c.loop-worker.worker 0) 0) (ne_eqb (c.loop-worker.left % 2) 1 w.if-left-eq1.false))
    ] in
    let next = opened_next c.args.mask c.loop-worker.left c.loop-worker.worker _ c.args.held.now c.loop-worker.windows (omega arith) (omega (arith, c.told-held, c.loop-worker-test.true)) (omega (arith, c.loop-worker.invariant.count, c.loop-worker-test.true)) c.loop-worker.invariant.opened v is in
    record { count = length-set c.loop-worker.windows c.loop-worker.worker v ∙ c.loop-worker.invariant.count; opened = next }
