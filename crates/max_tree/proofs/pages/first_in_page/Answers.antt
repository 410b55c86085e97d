use Rattle.std.proofs.Common.{◌*◌, arith}
use Rattle.std.proofs.lemmas.Grind.{common_steps}
use Rattle.max_tree.specs.declared.row.TheConstants.{PAGE}
use Rattle.max_tree.proofs.FlagBits.{none_enough, enough_first}
use Rattle.max_tree.proofs.pages.first_in_page.Goals as goal

pub returns-then-marks-eq0-clause-none : goal.returns-then-marks-eq0-clause-none
returns-then-marks-eq0-clause-none c = λ i low high _.
    none_enough c.args.numbers.now (PAGE * c.args.k) c.args.n c.marks_from-marks.result c.marks_from-marks.ensures (omega (arith, c.if-marks-eq0.true)) i low high

pub returns-then-numbers-start-ge-PAGE-clause-none : goal.returns-then-numbers-start-ge-PAGE-clause-none
returns-then-numbers-start-ge-PAGE-clause-none c =
    enough_first c.args.numbers.now (PAGE * c.args.k) c.args.n c.highest.result (c.marks_from-marks.ensures.top c.highest.result c.highest.ensures.low c.highest.ensures.high)

pub loop-i-preserved : goal.loop-i-preserved
loop-i-preserved c = grind (arith, common_steps)

pub returns-clause-none : goal.returns-clause-none
returns-clause-none c = grind (arith, common_steps)

pub returns-then-numbers-i-clause-none : goal.returns-then-numbers-i-clause-none
returns-then-numbers-i-clause-none c = grind (arith, common_steps)

pub returns-then-numbers-i-clause-found : goal.returns-then-numbers-i-clause-found
returns-then-numbers-i-clause-found c = grind (arith, common_steps)

pub returns-then-numbers-start-ge-PAGE-clause-found : goal.returns-then-numbers-start-ge-PAGE-clause-found
returns-then-numbers-start-ge-PAGE-clause-found c = grind (arith, common_steps)
