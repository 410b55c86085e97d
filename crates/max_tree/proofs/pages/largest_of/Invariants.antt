use Rattle.std.proofs.Common.{◌≡◌, max, drop}
use Rattle.max_tree.specs.Pages.{largest}
use Rattle.max_tree.proofs.pages.largest_of.Given as goal

abbrev pub invariant-loop-number : goal.invariant-loop-number
invariant-loop-number l = max l.top (largest (drop l.number-index l.numbers)) ≡ largest l.numbers
