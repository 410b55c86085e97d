use Rattle.std.proofs.Common.{◌≡◌, ◌+◌, ℕ, List, length, drop, Option, Some, None, sym, ap, subst, ◌∙◌, arith, length-append}
use Rattle.std.specs.Prelude.{◌∷◌, []}
use Rattle.php_graph.specs.declared.key.Key.{Key}
use Rattle.php_graph.specs.declared.child.Child.{Child}
use Rattle.php_graph.specs.declared.kind.Kind.{Kind}
use Rattle.std.specs.Option.{option_and_then, option_map}
use Rattle.script_read.specs.Arguments.{each, pair_at, key_bytes}
use Rattle.script_read.proofs.Members.{with_front, one_more, no_more, some_places, members_of, member_there}
use Rattle.script_read.proofs.choices.pairs_of.Goals as goal

abbrev found : Kind → Option Kind
found kind = Some kind

abbrev under : Key → Option (List Kind) → Option (List ℕ × List Kind)
under key value = option_map (λ v. (key_bytes key, v)) value

abbrev paired : List Kind → List ℕ → Option (List ℕ × List Kind)
paired value key = Some (key, value)

pub kind-requires-clause-there : goal.kind-requires-clause-there
kind-requires-clause-there c = some_places c.args.graph.now c.places-places.ensures.graph

pub member_value-requires : goal.member_value-requires
member_value-requires c =
    member_there c.args.graph.now c.in-Array.members c.loop-i.i (c.at-child.result.0.now, c.at-child.result.1) c.places-places.ensures.graph (c.kind.ensures ∙ ap found c.in-Array.is) c.at-child.ensures

pub returns-in-None : goal.returns-in-None
returns-in-None c =
    let g = c.args.graph.now in
    let ms = c.in-Array.members in
    let m : Key × Child = (c.at-child.result.0.now, c.at-child.result.1) in
    let at = members_of g ms (c.kind.ensures ∙ ap found c.in-Array.is) in
    let is : pair_at g m ≡ None = ap (under m.0) (sym (sym c.in-None.is ∙ c.in_ok-value.ensures)) in
    let none = no_more (pair_at g) ms c.loop-i.i m c.loop-i.pairs (each (pair_at g) ms) c.at-child.ensures is c.loop-i.invariant.found in
    sym (ap (λ (o : Option (List (Key × Child))). option_and_then (each (pair_at g)) o) at ∙ none)

pub loop-i-preserved : goal.loop-i-preserved
loop-i-preserved c =
    let g = c.args.graph.now in
    let ms = c.in-Array.members in
    let i = c.loop-i.i in
    let m : Key × Child = (c.at-child.result.0.now, c.at-child.result.1) in
    let front = c.loop-i.pairs in
    let key : List ℕ = c.in_ok-bytes_of-in-Some.field-0 in
    let pair : List ℕ × List Kind = (key, c.in-Some.value) in
    let is : pair_at g m ≡ Some pair = ap (under m.0) (sym (sym c.in-Some.is ∙ c.in_ok-value.ensures)) ∙ ap (paired c.in-Some.value) (sym c.in_ok-bytes_of-in-Some.ensures) in
    record {
      found = subst (λ (l : List (List ℕ × List Kind)). with_front l (each (pair_at g) (drop (i + 1) ms)) ≡ each (pair_at g) ms) (sym c.in_ok-push-in-Some.ensures) (one_more (pair_at g) ms i m pair front (each (pair_at g) ms) c.at-child.ensures is c.loop-i.invariant.found);
      few = omega (arith, c.loop-i.invariant.few, ap length c.in_ok-push-in-Some.ensures, length-append front (pair ∷ []));
    }
