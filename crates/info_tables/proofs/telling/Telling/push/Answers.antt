use Rattle.std.proofs.Common.{ap, arith, length, ◌+◌, ◌≤◌}
use Rattle.std.proofs.lemmas.List.{length-map}
use Rattle.php_graph.specs.Graph.{most_values}
use Rattle.php_graph.specs.declared.places.Place.{Place}
use Rattle.info_tables.proofs.GraphLayout.{laid_on}
use Rattle.info_tables.proofs.telling.Telling.push.Goals as goal

pub invariant_of-self-2 : goal.invariant_of-self-2
invariant_of-self-2 c =
    let others = c.self.inside.others.items in
    let few : length others + 2 ≤ most_values = omega (arith, c.if-len-ge-MOST_VALUES.false, c.len.ensures.len, ap length c.self.view_is, length-map others (λ (p : Place). p.kind)) in
    rw c.in_ok-push.ensures.items (laid_on c.self.inside.first others c.self.inside.words c.args.kind c.args.cells c.self.invariant few c.requires.cells c.requires.small)
