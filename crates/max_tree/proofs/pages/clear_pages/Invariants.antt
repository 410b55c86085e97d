use Rattle.max_tree.proofs.PageLemmas.{Cleared}
use Rattle.max_tree.proofs.pages.clear_pages.Given as goal

abbrev pub invariant-loop-k : goal.invariant-loop-k
invariant-loop-k l = Cleared l.initial.numbers l.numbers l.k
