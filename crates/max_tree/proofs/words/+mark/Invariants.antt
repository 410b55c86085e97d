use Rattle.max_tree.proofs.words.+mark.Given as goal

abbrev pub decreases-mark : goal.decreases-mark
decreases-mark l = l.above
