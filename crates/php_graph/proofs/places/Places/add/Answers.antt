use Rattle.std.proofs.Common.{◌≡◌, ◌∙◌, ◌<◌, ◌-◌, ◌∷◌, Some, ap, sym, subst, get_or, set, length}
use Rattle.std.specs.Prelude.{OnOk, slice_set}
use Rattle.std.specs.List.{slice_get}
use Rattle.php_graph.specs.declared.kind.Kind.{Kind}
use Rattle.php_graph.specs.declared.places.Place.{Place}
use Rattle.php_graph.specs.Building.{with_member}
use Rattle.php_graph.specs.PlaceOffsets.{PlaceList, kinds_at, kinds_of}
use Rattle.php_graph.proofs.PlaceLemmas.{other_kind, added}
use Rattle.php_graph.proofs.places.Places.add.Goals as goal

pub add-requires-else-i-eq0-clause-room : goal.add-requires-else-i-eq0-clause-room
add-requires-else-i-eq0-clause-room c =
    let p = c.index_mut.result.now in
    c.requires.room _ (other_kind c.args.self.now c.args.i p c.if-i-eq0.false c.requires.there (c.index_mut.ensures.value ∙ ap (λ (l : PlaceList). get_or l.others (c.args.i - 1) p) c.self.view_is))

pub add-requires-else-i-eq0-clause-named : goal.add-requires-else-i-eq0-clause-named
add-requires-else-i-eq0-clause-named c =
    let p = c.index_mut.result.now in
    c.requires.named _ (other_kind c.args.self.now c.args.i p c.if-i-eq0.false c.requires.there (c.index_mut.ensures.value ∙ ap (λ (l : PlaceList). get_or l.others (c.args.i - 1) p) c.self.view_is))

pub returns-else-i-eq0-clause-ok : goal.returns-else-i-eq0-clause-ok
returns-else-i-eq0-clause-ok c =
    let l : PlaceList = record { first = c.self.inside.first; others = c.self.inside.others.items } in
    let q : Place = record { kind = c.add-else-i-eq0.new.self; at = c.index_mut.result.now.at } in
    let r = c.add-else-i-eq0.result in
    let there : c.args.i < length (kinds_of l) = subst (λ (l : PlaceList). c.args.i < length (kinds_of l)) (sym c.self.view_is) c.requires.there in
    subst (λ (g : PlaceList). OnOk r ((kind : Kind) → slice_get (kinds_of g) c.args.i ≡ Some kind → l.first ∷ kinds_at (set l.others (c.args.i - 1) q) ≡ slice_set (kinds_of g) c.args.i (with_member kind c.args.key c.args.child)))
    c.self.view_is
    (added l c.args.i c.index_mut.result.now q c.args.key c.args.child r c.if-i-eq0.false there c.index_mut.ensures.value c.add-else-i-eq0.ensures.ok)
