use Rattle.std.proofs.Common.{◌≡◌, ◌-◌, ◌≤◌, ◌++◌, length}
use Rattle.std.specs.Prelude.{reverse}
use Rattle.notation.specs.Notation.{text_from}
use Rattle.notation.specs.Writing.{pending, AreBegun}
use Rattle.notation.proofs.writing.put_graph.Given as goal

abbrev pub invariant-writing : goal.invariant-writing
invariant-writing l = record {
  written : l.out ++ pending l.base l.g (reverse l.frames.items) ≡ l.fn.out ++ text_from l.base l.g;
  longer : length l.fn.out ≤ length l.out;
  begun : AreBegun l.g (reverse l.frames.items);
}

abbrev pub decreases-writing : goal.decreases-writing
decreases-writing l = length (l.fn.out ++ text_from l.base l.g) - length l.out
