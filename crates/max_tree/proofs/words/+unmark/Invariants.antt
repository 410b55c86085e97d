use Rattle.max_tree.proofs.words.+unmark.Given as goal

abbrev pub decreases-unmark : goal.decreases-unmark
decreases-unmark l = l.above
