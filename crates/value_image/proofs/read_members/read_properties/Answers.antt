use Rattle.std.proofs.Common.{◌+◌, List, [], ◌∷◌, ◌++◌, length, ℕ, arith, ap₂, sym, ◌∙◌}
use Rattle.php_graph.specs.declared.child.Child.{Child}
use Rattle.seg_words.specs.Layout.{words_in}
use Rattle.std.proofs.lemmas.Grind.{common_steps}
use Rattle.value_image.proofs.ItemRuns.{take_more-get, cells-more}
use Rattle.value_image.proofs.ImageParts.{properties-next}
use Rattle.value_image.proofs.read_members.read_properties.Goals as goal

pub read_property-requires : goal.read_property-requires
read_property-requires g c =
    let inv = c.loop-i.invariant.items c.requires.0 c.requires.1 in
    let next = properties-next _ _ _ _ c.requires.0 c.loop-i._i _ _ _ c.requires.1 c.loop-i-test.true inv.1 c.loop-i.invariant.kept.words c.loop-i.invariant.kept.aside in
    (next.0, next.2)

pub loop-i-preserved : goal.loop-i-preserved
loop-i-preserved g c = record {
  items = λ ms h.
      let inv = c.loop-i.invariant.items ms h in
      let next = properties-next _ _ _ _ ms c.loop-i._i _ _ _ h c.loop-i-test.true inv.1 c.loop-i.invariant.kept.words c.loop-i.invariant.kept.aside in
      let got = c.in_ok-name.ensures.property next.0 next.2 in (
        c.in_ok-push.ensures.items ∙ (ap₂ (λ (ms : List (List ℕ × Child)) (m : List ℕ × Child). ms ++ m ∷ []) inv.0 got.0 ∙ sym (take_more-get ms c.loop-i._i next.0 next.1)),
        omega (arith, got.1, inv.1, cells-more (λ p. 2 + words_in (length p.0)) ms c.loop-i._i next.0 next.1),
      );
  kept = record { words = c.in_ok-name.ensures.kept.words ∙ c.loop-i.invariant.kept.words; aside = c.in_ok-name.ensures.kept.aside ∙ c.loop-i.invariant.kept.aside; rest = c.in_ok-name.ensures.kept.rest ∙ c.loop-i.invariant.kept.rest };
}

pub returns-clause-properties : goal.returns-clause-properties
returns-clause-properties g c = grind (arith, common_steps)
