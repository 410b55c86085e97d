use Rattle.std.proofs.Common.{◌≡◌, ◌≢◌, ◌⊎◌, inl, inr, ◌-◌, ◌<◌, ◌≤◌, ℕ, List, ◌++◌, Some, take, drop, length, get_or, refl, subst}
use Rattle.run_verify.specs.Verdicts.{first_difference}
use Rattle.run_verify.proofs.FirstDifferences.{differs_here, to_end}
use Rattle.run_verify.proofs.comparing.match_piece.Goals as goal
use Rattle.run_verify.proofs.comparing.match_piece.Goals.{then-i-left-via-then-i-left, then-i-left-via-else-i-left+then-left-i}

pub returns-then-i-left-clause-differs : goal.returns-then-i-left-clause-differs
returns-then-i-left-clause-differs c =
    let left : List ℕ = take (length c.args.output.now - c.args.at) (drop c.args.at c.args.output.now) in
    let why : (length left ≤ c.loop-i.i) ⊎ ((c.loop-i.i < length left) × (get_or left c.loop-i.i 0 ≢ get_or c.args.piece.now c.loop-i.i 0)) = elim c.then-i-left.branch [
      | then-i-left-via-then-i-left w ↦ inl w.if-i-left.true
      | then-i-left-via-else-i-left+then-left-i w ↦ inr (w.if-i-left.false, w.if-left-i.true)
    ] in
    record {
      from = c.loop-i.i;
      place_is = refl;
      differs = λ rest. subst (λ l. first_difference l (c.args.piece.now ++ rest) ≡ Some c.loop-i.i) (to_end c.args.output.now c.args.at)
          (differs_here left c.args.piece.now rest c.loop-i.i c.loop-i.invariant.same c.loop-i-test.true why);
    }
