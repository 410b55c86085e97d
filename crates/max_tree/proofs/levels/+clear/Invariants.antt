use Rattle.max_tree.proofs.levels.+clear.Given as goal

abbrev pub decreases-clear : goal.decreases-clear
decreases-clear l = l.above
