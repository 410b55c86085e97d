use Rattle.std.proofs.Common.{arith, ◌∙◌, length-drop}
use Rattle.std.proofs.lemmas.Grind.{common_steps}
use Rattle.io_edges.proofs.Bytes.{held_more, rest_from}
use Rattle.io_edges.proofs.writing.write_all.Goals as goal

pub turns-preserved : goal.turns-preserved
turns-preserved g c =
    let took = rw (rest_from c.turns.done c.args.bytes.now) at c.in-Took.ensures.took in
    let bytes = rw (rest_from c.turns.done c.args.bytes.now) at c.in-Took.ensures.bytes in
    record {
      in_range = omega (arith, took.1, length-drop c.turns.done c.args.bytes.now);
      held = held_more _ _ _ _ _ _ c.turns.invariant.held bytes;
      faults = c.in-Took.ensures.faults ∙ c.turns.invariant.faults;
    }

pub returns-clause-all : goal.returns-clause-all
returns-clause-all g c = grind (arith, common_steps)

pub returns-in-Failed-clause-part : goal.returns-in-Failed-clause-part
returns-in-Failed-clause-part g c = grind (arith, common_steps)

pub returns-in-Failed-clause-fault : goal.returns-in-Failed-clause-fault
returns-in-Failed-clause-fault g c = grind (arith, common_steps)

pub returns-clause-calm : goal.returns-clause-calm
returns-clause-calm g c = grind (arith, common_steps)

pub returns-clause-never_falls : goal.returns-clause-never_falls
returns-clause-never_falls g c = grind (arith, common_steps)

pub returns-clause-part : goal.returns-clause-part
returns-clause-part g c = tt

pub returns-clause-fault : goal.returns-clause-fault
returns-clause-fault g c = tt
