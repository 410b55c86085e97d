use Rattle.std.proofs.Common.{arith}
use Rattle.max_tree.proofs.TopUpdate.{top_new, top_stays}
use Rattle.max_tree.proofs.pages.top_after.Goals as goal

pub returns-then-value-top : goal.returns-then-value-top
returns-then-value-top c =
    top_new c.args.numbers.now c.args.p c.args.old c.args.top c.args.value c.requires.value c.requires.before c.if-value-top.true

pub returns-then-old-top : goal.returns-then-old-top
returns-then-old-top c =
    top_stays c.args.numbers.now c.args.p c.args.old c.args.top c.requires.before c.requires.inside (omega (arith, c.if-value-top.false)) c.if-old-top.true
