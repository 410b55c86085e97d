use Rattle.max_tree.proofs.levels.+first_at_least.Given as goal

abbrev pub decreases-first_at_least : goal.decreases-first_at_least
decreases-first_at_least l = l.above
