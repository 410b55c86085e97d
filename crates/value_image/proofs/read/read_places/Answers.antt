use Rattle.std.proofs.Common.{ℕ, ◌<◌, ◌^◌, List, refl, arith, sym, subst, ◌∙◌}
use Rattle.php_graph.specs.Size.{offset_of}
use Rattle.value_image.specs.Image.{IsImageOf}
use Rattle.value_image.specs.Reading.{renumbered_kind}
use Rattle.value_image.proofs.Images.{image-inside}
use Rattle.value_image.proofs.OffsetTables.{cells_of-one}
use Rattle.value_image.proofs.ImageWalk.{walk-first, walk-one, walk-next, walk-push, walk-all, kind-cells}
use Rattle.value_image.proofs.read.read_places.Goals as goal

pub read_place-requires : goal.read_place-requires
read_place-requires g c =
    let short : c.args.len < 2 ^ 32 = omega arith in
    let step = walk-first _ (g.W.WordsIn.aside c.args.from.now) c.args.at c.args.len c.requires.image.0 c.requires.image.1 short c.requires.told in
    (renumbered_kind (offset_of c.requires.image.0) step.0, step.2)

pub overflow_sub-offset : goal.overflow_sub-offset
overflow_sub-offset g c =
    let short : c.args.len < 2 ^ 32 = omega arith in
    let step = walk-first _ (g.W.WordsIn.aside c.args.from.now) c.args.at c.args.len c.requires.image.0 c.requires.image.1 short c.requires.told in
    let got = c.in_ok-first.ensures.place (renumbered_kind (offset_of c.requires.image.0) step.0) step.2 in
    omega (arith, got.1)

pub loop-offset-init : goal.loop-offset-init
loop-offset-init g c = record {
  places = λ graph h.
      let short : c.args.len < 2 ^ 32 = omega arith in
      let image = subst (λ (row : List ℕ). IsImageOf row c.args.at c.args.len graph) c.in_ok-first.ensures.kept.words h in
      let step = walk-first _ (g.W.WordsIn.aside c.args.from.now) c.args.at c.args.len graph image short c.requires.told in
      let got = c.in_ok-first.ensures.place (renumbered_kind (offset_of graph) step.0) step.2 in
      let same = kind-cells (offset_of graph) step.0 in
      rw c.new-others.ensures.items (walk-one graph step.0 c.in_ok-first.first _ step.1 got.0 (omega (arith, got.1, same)));
  kept = record { words = refl; aside = refl; rest = refl };
}

pub overflow_add-at : goal.overflow_add-at
overflow_add-at g c =
    let inside = image-inside _ c.args.at c.args.len c.requires.image.0 c.requires.image.1 (omega arith) in
    omega (arith, g.met.W.WordsIn.short c.args.from.now)

pub read_place-requires-in-loop-offset : goal.read_place-requires-in-loop-offset
read_place-requires-in-loop-offset g c =
    let short : c.args.len < 2 ^ 32 = omega arith in
    let graph = c.requires.image.0 in
    let first = c.in_ok-first.ensures.kept in
    let kept = c.loop-offset.invariant.kept in
    let image = subst (λ (row : List ℕ). IsImageOf row c.args.at c.args.len graph) (sym first.words) c.requires.image.1 in
    let step = walk-next _ _ c.args.at c.args.len graph _ _ c.loop-offset.offset _ _ c.requires.image.1 short c.requires.told (c.loop-offset.invariant.places graph image) c.loop-offset-test.true (kept.words ∙ first.words) (kept.aside ∙ first.aside) in
    (renumbered_kind (offset_of graph) step.0, step.2)

pub overflow_sub-offset-in-loop-offset : goal.overflow_sub-offset-in-loop-offset
overflow_sub-offset-in-loop-offset g c =
    let short : c.args.len < 2 ^ 32 = omega arith in
    let graph = c.requires.image.0 in
    let first = c.in_ok-first.ensures.kept in
    let kept = c.loop-offset.invariant.kept in
    let image = subst (λ (row : List ℕ). IsImageOf row c.args.at c.args.len graph) (sym first.words) c.requires.image.1 in
    let step = walk-next _ _ c.args.at c.args.len graph _ _ c.loop-offset.offset _ _ c.requires.image.1 short c.requires.told (c.loop-offset.invariant.places graph image) c.loop-offset-test.true (kept.words ∙ first.words) (kept.aside ∙ first.aside) in
    let got = c.in_ok-kind.ensures.place (renumbered_kind (offset_of graph) step.0) step.2 in
    omega (arith, got.1)

pub loop-offset-smaller : goal.loop-offset-smaller
loop-offset-smaller g c =
    let short : c.args.len < 2 ^ 32 = omega arith in
    let graph = c.requires.image.0 in
    let first = c.in_ok-first.ensures.kept in
    let kept = c.loop-offset.invariant.kept in
    let image = subst (λ (row : List ℕ). IsImageOf row c.args.at c.args.len graph) (sym first.words) c.requires.image.1 in
    let step = walk-next _ _ c.args.at c.args.len graph _ _ c.loop-offset.offset _ _ c.requires.image.1 short c.requires.told (c.loop-offset.invariant.places graph image) c.loop-offset-test.true (kept.words ∙ first.words) (kept.aside ∙ first.aside) in
    let got = c.in_ok-kind.ensures.place (renumbered_kind (offset_of graph) step.0) step.2 in
    omega (arith, got.1, cells_of-one (renumbered_kind (offset_of graph) step.0))

pub loop-offset-preserved : goal.loop-offset-preserved
loop-offset-preserved g c =
    let first = c.in_ok-first.ensures.kept in
    let kept = c.loop-offset.invariant.kept in
    let more = c.in_ok-kind.ensures.kept in
    record {
      places = λ graph h.
          let short : c.args.len < 2 ^ 32 = omega arith in
          let image = subst (λ (row : List ℕ). IsImageOf row c.args.at c.args.len graph) first.words h in
          let walk = c.loop-offset.invariant.places graph h in
          let step = walk-next _ _ c.args.at c.args.len graph _ _ c.loop-offset.offset _ _ image short c.requires.told walk c.loop-offset-test.true (kept.words ∙ first.words) (kept.aside ∙ first.aside) in
          let got = c.in_ok-kind.ensures.place (renumbered_kind (offset_of graph) step.0) step.2 in
          let same = kind-cells (offset_of graph) step.0 in
          walk-push graph _ c.loop-offset.others.items c.push.new.self.items (record { kind = c.in_ok-kind.kind; at = c.from.result }) c.loop-offset.offset _ step.0 walk step.1 got.0 c.from.ensures c.in_ok-push.ensures.items (omega (arith, got.1, same));
      kept = record { words = more.words ∙ kept.words; aside = more.aside ∙ kept.aside; rest = more.rest ∙ kept.rest };
    }

pub returns-clause-places : goal.returns-clause-places
returns-clause-places g c = λ graph h.
    let image = subst (λ (row : List ℕ). IsImageOf row c.args.at c.args.len graph) (sym c.in_ok-first.ensures.kept.words) h in
    walk-all graph _ _ c.loop-offset.offset c.args.len h.graph h.length_is (c.loop-offset.invariant.places graph image) c.loop-offset-test.false
