use Rattle.std.proofs.Common.{◌≡◌, ◌∙◌, ◌-◌, true, ap, sym, subst, arith, get_or, set, length, ℕ, Some, Option}
use Rattle.std.specs.List.{slice_get, AllByRecursion}
use Rattle.php_graph.specs.declared.kind.Kind.{Kind}
use Rattle.php_graph.specs.Building.{fault_in, IsAnswer}
use Rattle.php_graph.specs.BuilderState.{kinds_in, places_of, is_open_at}
use Rattle.php_graph.specs.PlaceOffsets.{PlaceList}
use Rattle.php_graph.proofs.DraftLemmas.{one_kind}
use Rattle.php_graph.proofs.InnermostContainers.{none_in}
use Rattle.php_graph.proofs.BuilderAfterItem.{IsLast, last_is, last_answer, last_places, last_ok, last_err}
use Rattle.php_graph.proofs.draft_steps.add_key_to_last.Goals as goal
use Rattle.php_graph.proofs.draft_steps.add_key_to_last.Goals.{After-index_mut-container, After-add_key_to}

number : (c : After-index_mut-container) → c.len-last.result ≡ length c.args.containers.now.items
number c = omega (arith, c.len-last.ensures, c.args.containers.now.ok.0)

last : (c : After-index_mut-container) → IsLast (kinds_in c.args.places.now) c.args.containers.now.items c.index_mut-container.result.now
last c =
    let n = number c in
    last_is (kinds_in c.args.places.now) c.args.containers.now.items c.index_mut-container.result.now (λ e. c.if-last-eq0.false (n ∙ e))
    (c.index_mut-container.ensures.value ∙ ap (λ (k : ℕ). get_or c.args.containers.now.items (k - 1) c.index_mut-container.result.now) n)
    c.requires.known c.requires.opened

pub unreachable-requires : goal.unreachable-requires
unreachable-requires c =
    let n : c.len-last.result ≡ length c.args.containers.now.items = omega (arith, c.len-last.ensures, c.args.containers.now.ok.0) in
    let opened = subst (λ (o : Option PlaceList). AllByRecursion (λ p. is_open_at (kinds_in o) p ≡ true) (places_of c.args.containers.now.items)) c.in_default.is c.requires.opened in
    c.if-last-eq0.false (n ∙ none_in c.args.containers.now.items opened)

pub kind-kind-requires : goal.kind-kind-requires
kind-kind-requires c = let i = last (goal.at.kind-kind-requires c).After-index_mut-container in omega (arith, i.low, i.high, ap (λ (o : Option PlaceList). length (kinds_in o)) c.in-Some.is)

pub add_key_to-requires : goal.add_key_to-requires
add_key_to-requires c =
    let i = last (goal.at.add_key_to-requires c).After-index_mut-container in
    let there = subst (λ (o : Option PlaceList). slice_get (kinds_in o) (c.index_mut-container.result.now.place - 1) ≡ Some c.kind-kind.result.now) (sym c.in-Some.is) c.kind-kind.ensures in
    let same = one_kind (kinds_in c.args.places.now) c.index_mut-container.result.now.place i.kind c.kind-kind.result.now i.there there in
    rw same i.knows

kind_is : (c : After-add_key_to) (i : IsLast (kinds_in c.args.places.now) c.args.containers.now.items c.index_mut-container.result.now) → c.kind-kind.result.now ≡ i.kind
kind_is c i =
    let there = subst (λ (o : Option PlaceList). slice_get (kinds_in o) (c.index_mut-container.result.now.place - 1) ≡ Some c.kind-kind.result.now) (sym c.in-Some.is) c.kind-kind.ensures in
    one_kind (kinds_in c.args.places.now) c.index_mut-container.result.now.place i.kind c.kind-kind.result.now i.there there

pub returns-clause-answer : goal.returns-clause-answer
returns-clause-answer c =
    let i = last (goal.at.returns-clause-answer c).After-index_mut-container in
    let same = kind_is (goal.at.returns-clause-answer c).After-add_key_to i in
    last_answer (kinds_in c.args.places.now) c.args.containers.now.items c.index_mut-container.result.now c.args.key.now c.add_key_to.result i
    (subst (λ (k : Kind). IsAnswer (fault_in k c.args.key.now) c.add_key_to.result) same c.add_key_to.ensures.answer)

pub returns-clause-places : goal.returns-clause-places
returns-clause-places c =
    let i = last (goal.at.returns-clause-places c).After-index_mut-container in
    let n = number (goal.at.returns-clause-places c).After-index_mut-container in
    ap (λ (k : ℕ). places_of (set c.args.containers.now.items (k - 1) c.add_key_to.new.container)) n
    ∙ last_places (kinds_in c.args.places.now) c.args.containers.now.items c.index_mut-container.result.now c.add_key_to.new.container i c.add_key_to.ensures.place

pub returns-clause-ok : goal.returns-clause-ok
returns-clause-ok c =
    let i = last (goal.at.returns-clause-ok c).After-index_mut-container in
    let n = number (goal.at.returns-clause-ok c).After-index_mut-container in
    let same = kind_is (goal.at.returns-clause-ok c).After-add_key_to i in
    rw n (last_ok (kinds_in c.args.places.now) c.args.containers.now.items c.index_mut-container.result.now c.add_key_to.new.container c.args.key.now c.add_key_to.result i c.add_key_to.ensures.place (rw same at c.add_key_to.ensures.ok))

pub returns-clause-err : goal.returns-clause-err
returns-clause-err c =
    let i = last (goal.at.returns-clause-err c).After-index_mut-container in
    let n = number (goal.at.returns-clause-err c).After-index_mut-container in
    let same = kind_is (goal.at.returns-clause-err c).After-add_key_to i in
    rw n (last_err (kinds_in c.args.places.now) c.args.containers.now.items c.index_mut-container.result.now c.add_key_to.new.container c.add_key_to.result i c.add_key_to.ensures.place (rw same at c.add_key_to.ensures.err))
