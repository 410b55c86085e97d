use Rattle.std.proofs.Common.{◌≡◌, ◌+◌, List, take, sum_by, length, ℕ}
use Rattle.php_graph.specs.declared.child.Child.{Child}
use Rattle.seg_words.specs.Layout.{words_in}
use Rattle.seg_words.specs.Kept.{Kept}
use Rattle.value_image.specs.Reading.{ArePropertiesAt}
use Rattle.value_image.proofs.read_members.read_properties.Given as goal

abbrev pub invariant-loop-i : goal.invariant-loop-i
invariant-loop-i g l = record {
  items : (ms : List (List ℕ × Child)) → ArePropertiesAt (g.W.WordsIn.words l.initial.from) (g.W.WordsIn.aside l.initial.from).windows l.at l.count ms
      → (l.items.items ≡ take l._i ms) × (l.next ≡ l.at + sum_by (λ p. 2 + words_in (length p.0)) (take l._i ms));
  kept : Kept g.W.WordsIn l.initial.from l.from;
}
