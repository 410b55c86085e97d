use Rattle.std.proofs.Common.{sym, ◌∙◌, arith}
use Rattle.run_verify.proofs.LineBounds.{found_here}
use Rattle.run_verify.proofs.reading.journal_at.Goals as goal

pub returns-then-begins_journal-clause-part : goal.returns-then-begins_journal-clause-part
returns-then-begins_journal-clause-part c =
    found_here c.args.output.now _ c.back.at (omega (arith, c.back-test.true)) (omega (arith, c.back-test.true, c.back.invariant.within)) c.back.invariant.none
    (sym c.begins_journal.ensures.is ∙ c.if-begins_journal.true)
