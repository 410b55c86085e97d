use Rattle.std.proofs.Common.{◌≡◌, ◌∙◌, ◌+◌, ◌≤◌, List, ◌∷◌, ◌++◌, ap, arith, length, map}
use Rattle.std.proofs.lemmas.List.{length-map, map-append}
use Rattle.php_graph.specs.Graph.{most_values}
use Rattle.php_graph.specs.PlaceOffsets.{kinds_at}
use Rattle.php_graph.specs.declared.kind.Kind.{Kind}
use Rattle.php_graph.specs.declared.places.Place.{Place}
use Rattle.apcu_model.specs.Infos.{number_kind}
use Rattle.apcu_model.specs.InfoGraphs.{number_places}
use Rattle.info_tables.proofs.NumberPlaces.{kinds_are, numbers_laid}
use Rattle.info_tables.proofs.telling.Telling.push_numbers.Goals as goal

pub invariant_of-self-2 : goal.invariant_of-self-2
invariant_of-self-2 c =
    let others = c.self.inside.others.items in
    let few : length others + 1 + length c.args.numbers.now ≤ most_values = omega (arith, c.if-numbers-len.false, c.len.ensures.len, ap length c.self.view_is, length-map others (λ (p : Place). p.kind)) in
    rw (c.in_ok-push_places.ensures.ok) (numbers_laid c.self.inside.first others c.self.inside.words c.args.numbers.now c.self.invariant few)

pub returns : goal.returns
returns c =
    let first = c.self.inside.first in
    let others = c.self.inside.others.items in
    let numbers = c.args.numbers.now in
    let more = number_places c.self.inside.words numbers in
    ap (λ (l : List Place). first ∷ kinds_at l) c.in_ok-push_places.ensures.ok
    ∙ ap (λ (ks : List Kind). first ∷ ks) (map-append (λ (p : Place). p.kind) others more)
    ∙ ap (λ (ks : List Kind). (first ∷ kinds_at others) ++ ks) (kinds_are c.self.inside.words numbers)
    ∙ ap (λ (ks : List Kind). ks ++ map number_kind numbers) c.self.view_is
