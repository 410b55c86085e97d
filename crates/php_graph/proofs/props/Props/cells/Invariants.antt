use Rattle.std.proofs.Common.{◌≡◌, ◌+◌, sum_by, drop, length}
use Rattle.seg_words.specs.Layout.{words_in}
use Rattle.php_graph.proofs.props.Props.cells.Given as goal

-- the words so far and those of the rest
abbrev pub invariant-loop-item : goal.invariant-loop-item
invariant-loop-item l = l.cells + sum_by (λ p. 2 + words_in (length p.0)) (drop l.item-index l.item-items) ≡ sum_by (λ p. 2 + words_in (length p.0)) l.self
