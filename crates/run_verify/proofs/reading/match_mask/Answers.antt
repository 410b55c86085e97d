use Rattle.std.proofs.Common.{◌≡◌, ◌+◌, ◌++◌, List, ℕ, ◌∙◌, subst, arith, sym}
use Rattle.std.specs.Prelude.{codes}
use Rattle.std.specs.Fmt.{decimal}
use Rattle.run_verify.specs.TextPieces.{HasPiece, DiffersAt}
use Rattle.run_verify.proofs.MaskTexts.{StandsUpto, none_yet, one_stands, none_needed, one_differs, all_stand, nothing_stands}
use Rattle.run_verify.proofs.reading.match_mask.Goals as goal
use Rattle.run_verify.proofs.reading.match_mask.Goals.{then-mask-worker-eq1+in-Ok, else-mask-worker-eq1}

pub loop-worker-init : goal.loop-worker-init
loop-worker-init c = none_yet c.args.line.now c.args.from c.args.mask c.requires

pub returns-then-mask-eq0-clause-has : goal.returns-then-mask-eq0-clause-has
returns-then-mask-eq0-clause-has c = nothing_stands c.args.line.now c.args.from c.args.mask c.requires c.if-mask-eq0.true

pub returns-in-Err-clause-differs : goal.returns-in-Err-clause-differs
returns-in-Err-clause-differs c =
    let w : ℕ = c.loop-worker.worker in
    let named : c.as_bytes.result.now ≡ decimal w = c.as_bytes.ensures.value ∙ c.format.ensures.text in
    one_differs c.args.line.now c.args.from c.args.mask c.loop-worker.at c.in-Err.place w c.loop-worker-test.true c.if-mask-worker-eq1.true c.loop-worker.invariant
    (subst (λ (l : List ℕ). DiffersAt c.args.line.now c.loop-worker.at (codes " " ++ l) c.in-Err.place) named c.in-Err.ensures.differs)

pub loop-worker-preserved : goal.loop-worker-preserved
loop-worker-preserved c =
    elim c.if-mask-worker-eq1.branch [
      | then-mask-worker-eq1+in-Ok w ↦
          let named : w.as_bytes.result.now ≡ decimal c.loop-worker.worker = w.as_bytes.ensures.value ∙ w.format.ensures.text in
          subst (λ (at : ℕ). StandsUpto c.args.line.now c.args.from c.args.mask at (c.loop-worker.worker + 1)) (sym w.at-is)
          (one_stands c.args.line.now c.args.from c.args.mask c.loop-worker.at w.in-Ok.to c.loop-worker.worker c.loop-worker-test.true w.if-mask-worker-eq1.true c.loop-worker.invariant
          (subst (λ (l : List ℕ). HasPiece c.args.line.now c.loop-worker.at (codes " " ++ l) w.in-Ok.to) named w.in-Ok.ensures.has))
      | else-mask-worker-eq1 w ↦
          subst (λ (at : ℕ). StandsUpto c.args.line.now c.args.from c.args.mask at (c.loop-worker.worker + 1)) (sym w.at-is)
          (none_needed c.args.line.now c.args.from c.args.mask c.loop-worker.at c.loop-worker.worker c.loop-worker-test.true w.if-mask-worker-eq1.false c.loop-worker.invariant)
    ]

pub returns-clause-has : goal.returns-clause-has
returns-clause-has c = all_stand c.args.line.now c.args.from c.args.mask c.loop-worker.at c.loop-worker.worker (omega (arith, c.loop-worker-test.false)) c.loop-worker.invariant
