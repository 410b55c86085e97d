use Rattle.std.proofs.Common.{sym, ◌∙◌}
use Rattle.sma_blocks.proofs.sma.Sma.far_fit.Goals as goal

pub returns-in_default-clause-none : goal.returns-in_default-clause-none
returns-in_default-clause-none c = sym c.first_at_least.ensures ∙ c.in_default.is

pub returns-clause-fit : goal.returns-clause-fit
returns-clause-fit c = record {
  first = sym c.first_at_least.ensures ∙ c.in-Some.is;
  size = c.get-size.ensures;
  before = c.last_nonzero_before-before.ensures.found;
  last = c.last_nonzero_before-before.ensures.last;
}
