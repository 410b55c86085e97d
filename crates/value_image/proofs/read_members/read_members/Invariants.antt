use Rattle.std.proofs.Common.{◌≡◌, ◌+◌, List, take, sum_by}
use Rattle.php_graph.specs.declared.key.Key.{Key}
use Rattle.php_graph.specs.declared.child.Child.{Child}
use Rattle.php_graph.specs.Size.{key_cells}
use Rattle.seg_words.specs.Kept.{Kept}
use Rattle.value_image.specs.Reading.{AreMembersAt}
use Rattle.value_image.proofs.read_members.read_members.Given as goal

abbrev pub invariant-loop-i : goal.invariant-loop-i
invariant-loop-i g l = record {
  items : (ms : List (Key × Child)) → AreMembersAt (g.W.WordsIn.words l.initial.from) (g.W.WordsIn.aside l.initial.from).windows l.at l.count ms
      → (l.items.items ≡ take l._i ms) × (l.next ≡ l.at + sum_by (λ m. 1 + key_cells m.0) (take l._i ms));
  kept : Kept g.W.WordsIn l.initial.from l.from;
}
