use Rattle.script_read.proofs.generators.+generator.Given as goal

abbrev pub decreases-generator : goal.decreases-generator
decreases-generator l = l.levels
