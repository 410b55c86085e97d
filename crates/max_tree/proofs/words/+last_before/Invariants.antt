use Rattle.max_tree.proofs.words.+last_before.Given as goal

abbrev pub decreases-last_before : goal.decreases-last_before
decreases-last_before l = l.above
