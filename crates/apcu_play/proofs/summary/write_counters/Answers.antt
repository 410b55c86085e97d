use Rattle.std.proofs.Common.{pos, refl}
use Rattle.apcu_play.proofs.PrintedPieces.{counters_go_on}
use Rattle.apcu_play.proofs.summary.write_counters.Goals as goal

pub loop-n-preserved : goal.loop-n-preserved
loop-n-preserved c =
    counters_go_on _ c.loop-n.out c.write_counter.new.out c.args.counters.now c.loop-n.n _ (pos 0) c.loop-n-test.true refl c.in_ok-write_counter.ensures c.loop-n.invariant
