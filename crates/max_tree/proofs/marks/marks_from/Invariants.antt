use Rattle.std.proofs.Common.{◌+◌, ◌-◌, nat_le, slice_index}
use Rattle.max_tree.specs.Marks.{IsMarked}
use Rattle.max_tree.specs.declared.row.TheConstants.{PAGE}
use Rattle.max_tree.proofs.marks.marks_from.Given as goal

abbrev pub invariant-loop-j : goal.invariant-loop-j
invariant-loop-j l = IsMarked (λ j. nat_le l.n (slice_index l.numbers (l.start + (PAGE - 1 - j)))) l.j l.marks
