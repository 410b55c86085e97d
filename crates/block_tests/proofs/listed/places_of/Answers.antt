use Rattle.std.proofs.Common.{ℕ, List, sym, subst}
use Rattle.std.specs.List.{All}
use Rattle.sma_blocks.specs.Live.{IsLive}
use Rattle.block_tests.proofs.LiveBlocks.{live_push}
use Rattle.block_tests.proofs.listed.places_of.Goals.{then-bits-eq1+in_ok-push, else-bits-eq1}
use Rattle.block_tests.proofs.listed.places_of.Goals as goal

pub loop-i-preserved : goal.loop-i-preserved
loop-i-preserved c =
    elim c.if-bits-eq1.branch [
      | then-bits-eq1+in_ok-push w ↦
          let more = live_push c.args.blocks.now c.loop-i.places.items c.loop-i.i _ c.loop-i-test.true c.loop-i.invariant in
          subst (λ v. All (IsLive c.args.blocks.now) v.items) (sym w.places-is) (subst (λ (xs : List ℕ). All (IsLive c.args.blocks.now) xs) (sym w.in_ok-push.ensures.items) more)
      | else-bits-eq1 w ↦ subst (λ v. All (IsLive c.args.blocks.now) v.items) (sym w.places-is) c.loop-i.invariant
    ]
