use Rattle.std.proofs.Common.{◌≡◌, ◌∙◌, ◌+◌, ◌++◌, ◌∷◌, [], ap, sym, subst, List, ℕ}
use Rattle.php_graph.specs.declared.kind.Kind.{Kind}
use Rattle.php_graph.specs.declared.child.Child.TheVariants.{Own}
use Rattle.php_graph.specs.Building.{attached}
use Rattle.php_graph.specs.PlaceOffsets.{kinds_of}
use Rattle.php_graph.specs.BuilderState.{CanAttach, places_of}
use Rattle.php_graph.proofs.PlaceLemmas.{kinds_push}
use Rattle.php_graph.proofs.InnermostContainers.{attached-push, can-push}
use Rattle.php_graph.proofs.draft_steps.push_other.Goals as goal
use Rattle.php_graph.proofs.draft_steps.push_other.Goals.{In_ok-push}

-- the places with the new one
more : (c : In_ok-push) → kinds_of c.push.new.self ≡ kinds_of c.args.places.now ++ c.args.kind ∷ []
more c =
    kinds_push c.args.places.now c.push.new.self (record { kind = c.args.kind; at = 0 }) c.in_ok-push.ensures.first c.in_ok-push.ensures.ok

pub attach-requires : goal.attach-requires
attach-requires c =
    let ps = places_of c.args.containers.now in
    subst (λ (g : List Kind). CanAttach g ps c.args.key.now) (sym (more (goal.at.attach-requires c).In_ok-push)) (can-push (kinds_of c.args.places.now) ps c.args.key.now c.args.kind c.requires.can)

pub returns-in-Ok-clause-ok : goal.returns-in-Ok-clause-ok
returns-in-Ok-clause-ok c =
    let ps = places_of c.args.containers.now in
    let g = kinds_of c.args.places.now in
    c.in-Ok.ensures.ok
    ∙ ap (λ (h : List Kind). attached h ps c.args.key.now (Own (c.len.result + 1))) (more (goal.at.returns-in-Ok-clause-ok c).In_ok-push)
    ∙ attached-push g ps c.args.key.now (Own (c.len.result + 1)) c.args.kind c.requires.can
    ∙ ap (λ (n : ℕ). attached g ps c.args.key.now (Own (n + 1)) ++ c.args.kind ∷ []) c.len.ensures
