use Rattle.std.proofs.Common.{List, ℕ, sym, subst}
use Rattle.seg_words.specs.Windows.{nothing_aside}
use Rattle.value_image.specs.Texts.{IsToldImage}
use Rattle.cache_c.specs.Asked.{IsValueBy}
use Rattle.cache_c.proofs.cache.Cache.text.Goals as goal

pub returns-clause-told : goal.returns-clause-told
returns-clause-told c = λ g told none.
    let image = subst (λ (ws : List ℕ). IsToldImage ws nothing_aside.windows c.args.image g) (sym c.lent.ensures) told in
    subst (λ (ws : List ℕ). IsValueBy ws g c.text_at.result) c.lent.ensures (c.text_at.ensures.told g image none)
