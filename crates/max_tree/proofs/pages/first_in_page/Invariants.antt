use Rattle.std.proofs.Common.{ℕ, ◌*◌, ◌<◌, ◌≤◌, slice_index}
use Rattle.max_tree.specs.declared.row.TheConstants.{PAGE}
use Rattle.max_tree.proofs.pages.first_in_page.Given as goal

abbrev pub invariant-loop-i : goal.invariant-loop-i
invariant-loop-i l = (j : ℕ) → PAGE * l.k ≤ j → j < l.i → slice_index l.numbers j < l.n
