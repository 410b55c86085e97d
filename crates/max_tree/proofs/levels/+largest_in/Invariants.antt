use Rattle.max_tree.proofs.levels.+largest_in.Given as goal

abbrev pub decreases-largest_in : goal.decreases-largest_in
decreases-largest_in l = l.above
