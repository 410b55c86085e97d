use Rattle.std.proofs.Common.{◌≡◌, ℕ, List, sym, subst}
use Rattle.seg_words.specs.Windows.{Aside}
use Rattle.php_graph.specs.Size.{image_length}
use Rattle.value_image.specs.Texts.{IsToldImage}
use Rattle.cache_c.specs.Asked.{IsValueBy}
use Rattle.cache_c.proofs.ToldRows.{scalar_told}
use Rattle.cache_c.proofs.rows.value_at.Goals as goal

pub returns-in-Some-clause-told : goal.returns-in-Some-clause-told
returns-in-Some-clause-told g c = λ graph told. scalar_told _ graph c.in-Some.value c.scalar.result (c.in-Some.ensures.scalar graph (image_length graph) told.image) c.scalar.ensures

pub returns-in-None-clause-told : goal.returns-in-None-clause-told
returns-in-None-clause-told g c = λ graph told.
    let kept = c.in-None.ensures.kept in
    let there = subst (λ (a : Aside). IsToldImage (g.W.WordsIn.words c.read_scalar.new.from) a.windows c.args.image graph) (sym kept.aside) (subst (λ (ws : List ℕ). IsToldImage ws (g.W.WordsIn.aside c.args.from.now).windows c.args.image graph) (sym kept.words) told) in
    subst (λ (ws : List ℕ). IsValueBy ws graph c.text_at.result) kept.words (c.text_at.ensures.told graph there (sym (c.in-None.ensures.scalar graph (image_length graph) told.image)))
