use Rattle.max_tree.proofs.levels.+shape_for.Given as goal

abbrev pub decreases-shape_for : goal.decreases-shape_for
decreases-shape_for l = l.count
