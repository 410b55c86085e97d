use Rattle.max_tree.proofs.levels.+change.Given as goal

abbrev pub decreases-change : goal.decreases-change
decreases-change l = l.above
