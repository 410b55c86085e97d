use Rattle.std.proofs.Common.{◌∙◌, ◌<◌, ap, arith, length, refl, add-one}
use Rattle.std.proofs.lemmas.List.{length-map}
use Rattle.php_graph.proofs.PlaceLemmas.{laid}
use Rattle.php_graph.proofs.places.lay_out.Goals as goal

pub loop-i-preserved : goal.loop-i-preserved
loop-i-preserved c =
    let inv = c.loop-i.invariant in
    let xs = c.loop-i.places.items in
    let high : c.loop-i.i < length xs = omega (arith, c.loop-i-test.true, c.len-i-end.ensures, ap length inv.0, length-map xs (λ p. p.kind), length-map c.args.places.now.items (λ p. p.kind)) in
    let l = laid xs c.loop-i.i c.loop-i.words c.cells-cells.result c.index.result.now c.index_mut.result.now _ high c.index.ensures c.index_mut.ensures.value refl refl c.cells-cells.ensures in
    (l.kinds ∙ inv.0, rw (add-one c.loop-i.i) (l.offsets ∙ inv.1), rw (add-one c.loop-i.i) (l.words ∙ inv.2))
