use Rattle.std.proofs.Common.{arith, rules}
use Rattle.std.proofs.lemmas.Grind.{common_steps}
use Rattle.cache_core.proofs.cache.Core.seek_new.Goals as goal

pub returns-then-n-from-clause-added : goal.returns-then-n-from-clause-added
returns-then-n-from-clause-added c = grind (arith, common_steps)

pub returns-then-n-from-clause-fits : goal.returns-then-n-from-clause-fits
returns-then-n-from-clause-fits c = grind (arith, common_steps)

pub returns-then-n-from-clause-spot : goal.returns-then-n-from-clause-spot
returns-then-n-from-clause-spot c = grind (arith, common_steps)

pub returns-then-n-from-clause-refused : goal.returns-then-n-from-clause-refused
returns-then-n-from-clause-refused c = grind (arith, common_steps)

pub returns-then-n-from-clause-early : goal.returns-then-n-from-clause-early
returns-then-n-from-clause-early c = grind (arith, common_steps)

pub returns-then-n-from-clause-kept : goal.returns-then-n-from-clause-kept
returns-then-n-from-clause-kept c = grind (arith, common_steps)

pub returns-then-not-exclusive-clause-added : goal.returns-then-not-exclusive-clause-added
returns-then-not-exclusive-clause-added c = grind (arith, common_steps)

pub returns-then-not-exclusive-clause-fits : goal.returns-then-not-exclusive-clause-fits
returns-then-not-exclusive-clause-fits c = grind (arith, common_steps)

pub returns-then-not-exclusive-clause-spot : goal.returns-then-not-exclusive-clause-spot
returns-then-not-exclusive-clause-spot c = grind (arith, common_steps)

pub returns-then-not-exclusive-clause-refused : goal.returns-then-not-exclusive-clause-refused
returns-then-not-exclusive-clause-refused c = grind (arith, common_steps)

pub returns-then-not-exclusive-clause-early : goal.returns-then-not-exclusive-clause-early
returns-then-not-exclusive-clause-early c = grind (arith, common_steps)

pub returns-then-not-exclusive-clause-kept : goal.returns-then-not-exclusive-clause-kept
returns-then-not-exclusive-clause-kept c = grind (arith, common_steps)

pub returns-in-Some-clause-added : goal.returns-in-Some-clause-added
returns-in-Some-clause-added c = grind (arith, common_steps)

pub returns-in-Some-clause-fits : goal.returns-in-Some-clause-fits
returns-in-Some-clause-fits c = grind (arith, common_steps)

pub returns-in-Some-clause-spot : goal.returns-in-Some-clause-spot
returns-in-Some-clause-spot c = grind (arith, common_steps)

pub returns-in-Some-clause-refused : goal.returns-in-Some-clause-refused
returns-in-Some-clause-refused c = grind (arith, common_steps)

pub returns-in-Some-clause-early : goal.returns-in-Some-clause-early
returns-in-Some-clause-early c = grind (arith, common_steps)

pub returns-in-Some-clause-kept : goal.returns-in-Some-clause-kept
returns-in-Some-clause-kept c = grind (arith, common_steps)

pub returns-in-None-clause-added : goal.returns-in-None-clause-added
returns-in-None-clause-added c = search rules

pub returns-in-None-clause-fits : goal.returns-in-None-clause-fits
returns-in-None-clause-fits c = grind (arith, common_steps)

pub returns-in-None-clause-spot : goal.returns-in-None-clause-spot
returns-in-None-clause-spot c = grind (arith, common_steps)

pub returns-in-None-clause-refused : goal.returns-in-None-clause-refused
returns-in-None-clause-refused c = grind (arith, common_steps)

pub returns-in-None-clause-early : goal.returns-in-None-clause-early
returns-in-None-clause-early c = grind (arith, common_steps)

pub returns-in-None-clause-kept : goal.returns-in-None-clause-kept
returns-in-None-clause-kept c = grind (arith, common_steps)
