use Rattle.std.specs.Prelude.{codes}
use Rattle.apcu_play.proofs.PrintedPieces.{journal_goes_on}
use Rattle.apcu_play.proofs.journal.write_journal.Goals as goal

pub loop-i-preserved : goal.loop-i-preserved
loop-i-preserved c =
    journal_goes_on c.args.out.now c.loop-i.out c.write_mark.new.out (codes "journal\n") c.args.journal.now.marks c.loop-i.i c.at.result c.loop-i.invariant c.in_ok-write_mark.ensures c.at.ensures
