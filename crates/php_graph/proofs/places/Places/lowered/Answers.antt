use Rattle.std.proofs.Common.{◌≡◌, ◌∙◌, ◌∷◌, ◌-◌, ap, sym, subst, List, Option, take, drop, Vec, Global}
use Rattle.std.specs.Option.{option_map}
use Rattle.php_graph.specs.declared.kind.Kind.{Kind}
use Rattle.php_graph.specs.declared.places.Place.{Place}
use Rattle.php_graph.specs.Graph.{lowered_places}
use Rattle.php_graph.specs.PlaceOffsets.{PlaceList, kinds_at}
use Rattle.php_graph.proofs.PlaceLemmas.{part_list, low_none, low_list}
use Rattle.php_graph.proofs.places.Places.lowered.Goals as goal
use Rattle.php_graph.proofs.places.Places.lowered.Goals.{In_ok-others}

pub returns-in_default : goal.returns-in_default
returns-in_default c =
    let rest = kinds_at (take ((c.args.to - 1) - c.args.from) (drop c.args.from c.args.self.now.others)) in
    sym (ap (lowered_places c.args.by) (part_list c.args.self.now c.args.from c.args.to c.kind.result.now c.requires.before c.kind.ensures)
    ∙ low_none c.args.by c.kind.result.now rest (sym c.in_ok-first.ensures ∙ c.in_default.is))

abbrev kinds_made : Option (Vec Place Global) → Option (List Kind)
kinds_made made = option_map (λ (v : Vec Place Global). kinds_at v.items) made

-- the others, lowered
others_low : (c : In_ok-others) → kinds_made c.in_ok-others.field-0 ≡ lowered_places c.args.by (kinds_at (take ((c.args.to - 1) - c.args.from) (drop c.args.from c.args.self.now.others)))
others_low c =
    let here = subst (λ (ps : List Place). kinds_made c.in_ok-others.field-0 ≡ lowered_places c.args.by (kinds_at (take ((c.args.to - 1) - c.args.from) (drop c.args.from ps)))) c.deref.ensures.value c.in_ok-others.ensures in
    subst (λ (l : PlaceList). kinds_made c.in_ok-others.field-0 ≡ lowered_places c.args.by (kinds_at (take ((c.args.to - 1) - c.args.from) (drop c.args.from l.others)))) c.self.view_is here

pub returns-in_default-2 : goal.returns-in_default-2
returns-in_default-2 c =
    let rest = kinds_at (take ((c.args.to - 1) - c.args.from) (drop c.args.from c.args.self.now.others)) in
    let x = c.kind.result.now in
    let list = part_list c.args.self.now c.args.from c.args.to x c.requires.before c.kind.ensures in
    let low = low_list c.args.by x c.in-Some.first _ rest _ list (sym c.in_ok-first.ensures ∙ c.in-Some.is) (others_low (goal.at.returns-in_default-2 c).In_ok-others) in
    sym (ap (λ (made : Option (Vec Place Global)). option_map (λ (ks : List Kind). c.in-Some.first ∷ ks) (kinds_made made)) c.in_default-2.is) ∙ low

pub returns : goal.returns
returns c =
    let rest = kinds_at (take ((c.args.to - 1) - c.args.from) (drop c.args.from c.args.self.now.others)) in
    let x = c.kind.result.now in
    let list = part_list c.args.self.now c.args.from c.args.to x c.requires.before c.kind.ensures in
    let low = low_list c.args.by x c.in-Some.first _ rest _ list (sym c.in_ok-first.ensures ∙ c.in-Some.is) (others_low (goal.at.returns c).In_ok-others) in
    sym (ap (λ (made : Option (Vec Place Global)). option_map (λ (ks : List Kind). c.in-Some.first ∷ ks) (kinds_made made)) c.in-Some-2.is) ∙ low
