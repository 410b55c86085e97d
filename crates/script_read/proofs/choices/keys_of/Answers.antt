use Rattle.std.proofs.Common.{◌≡◌, ◌+◌, ℕ, List, length, drop, Option, Some, sym, ap, subst, ◌∙◌, arith, length-append}
use Rattle.std.specs.Prelude.{◌∷◌, []}
use Rattle.php_graph.specs.declared.key.Key.{Key}
use Rattle.php_graph.specs.declared.child.Child.{Child}
use Rattle.php_graph.specs.declared.kind.Kind.{Kind}
use Rattle.std.specs.Option.{option_and_then}
use Rattle.script_read.specs.Arguments.{each, member_string}
use Rattle.script_read.proofs.Members.{with_front, one_more, no_more, some_places, members_of, member_there}
use Rattle.script_read.proofs.choices.keys_of.Goals as goal

abbrev found : Kind → Option Kind
found kind = Some kind

pub kind-requires-clause-there : goal.kind-requires-clause-there
kind-requires-clause-there c = some_places c.args.graph.now c.places-places.ensures.graph

pub member_string-requires : goal.member_string-requires
member_string-requires c =
    member_there c.args.graph.now c.in-Array.members c.loop-i.i (c.at-child.result.0.now, c.at-child.result.1) c.places-places.ensures.graph (c.kind.ensures ∙ ap found c.in-Array.is) c.at-child.ensures

pub returns-in-None : goal.returns-in-None
returns-in-None c =
    let g = c.args.graph.now in
    let ms = c.in-Array.members in
    let at = members_of g ms (c.kind.ensures ∙ ap found c.in-Array.is) in
    let none = no_more (λ (m : Key × Child). member_string g m.1) ms c.loop-i.i (c.at-child.result.0.now, c.at-child.result.1) c.loop-i.keys (each (λ (m : Key × Child). member_string g m.1) ms) c.at-child.ensures (sym c.in-None.ensures) c.loop-i.invariant.found in
    sym (ap (λ (o : Option (List (Key × Child))). option_and_then (each (λ (m : Key × Child). member_string g m.1)) o) at ∙ none)

pub loop-i-preserved : goal.loop-i-preserved
loop-i-preserved c =
    let g = c.args.graph.now in
    let ms = c.in-Array.members in
    let i = c.loop-i.i in
    let front = c.loop-i.keys in
    let f : Key × Child → Option (List ℕ) = λ m. member_string g m.1 in
    let key : List ℕ = c.in_ok-of-in-Some.field-0 in
    let is : f (c.at-child.result.0.now, c.at-child.result.1) ≡ Some key = sym c.in-Some.ensures ∙ ap (λ (k : List ℕ). Some k) (sym (c.in_ok-of-in-Some.ensures ∙ c.as_slice.ensures.bytes)) in
    record {
      found = subst (λ (l : List (List ℕ)). with_front l (each f (drop (i + 1) ms)) ≡ each f ms) (sym c.in_ok-push-in-Some.ensures) (one_more f ms i (c.at-child.result.0.now, c.at-child.result.1) key front (each f ms) c.at-child.ensures is c.loop-i.invariant.found);
      few = omega (arith, c.loop-i.invariant.few, ap length c.in_ok-push-in-Some.ensures, length-append front (key ∷ []));
    }
