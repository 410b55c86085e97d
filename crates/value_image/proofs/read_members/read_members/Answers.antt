use Rattle.std.proofs.Common.{◌+◌, List, [], ◌∷◌, ◌++◌, arith, ap₂, sym, ◌∙◌}
use Rattle.php_graph.specs.declared.key.Key.{Key}
use Rattle.php_graph.specs.declared.child.Child.{Child}
use Rattle.php_graph.specs.Size.{key_cells}
use Rattle.std.proofs.lemmas.Grind.{common_steps}
use Rattle.value_image.proofs.ItemRuns.{take_more-get, cells-more}
use Rattle.value_image.proofs.ImageParts.{members-next}
use Rattle.value_image.proofs.read_members.read_members.Goals as goal

pub read_member-requires : goal.read_member-requires
read_member-requires g c =
    let inv = c.loop-i.invariant.items c.requires.0 c.requires.1 in
    let next = members-next _ _ _ _ c.requires.0 c.loop-i._i _ _ _ c.requires.1 c.loop-i-test.true inv.1 c.loop-i.invariant.kept.words c.loop-i.invariant.kept.aside in
    (next.0, next.2)

pub loop-i-preserved : goal.loop-i-preserved
loop-i-preserved g c = record {
  items = λ ms h.
      let inv = c.loop-i.invariant.items ms h in
      let next = members-next _ _ _ _ ms c.loop-i._i _ _ _ h c.loop-i-test.true inv.1 c.loop-i.invariant.kept.words c.loop-i.invariant.kept.aside in
      let got = c.in_ok-key.ensures.member next.0 next.2 in (
        c.in_ok-push.ensures.items ∙ (ap₂ (λ (ms : List (Key × Child)) (m : Key × Child). ms ++ m ∷ []) inv.0 got.0 ∙ sym (take_more-get ms c.loop-i._i next.0 next.1)),
        omega (arith, got.1, inv.1, cells-more (λ m. 1 + key_cells m.0) ms c.loop-i._i next.0 next.1),
      );
  kept = record { words = c.in_ok-key.ensures.kept.words ∙ c.loop-i.invariant.kept.words; aside = c.in_ok-key.ensures.kept.aside ∙ c.loop-i.invariant.kept.aside; rest = c.in_ok-key.ensures.kept.rest ∙ c.loop-i.invariant.kept.rest };
}

pub returns-clause-members : goal.returns-clause-members
returns-clause-members g c = grind (arith, common_steps)
