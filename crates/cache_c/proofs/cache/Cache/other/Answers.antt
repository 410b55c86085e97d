use Rattle.std.proofs.Common.{◌∙◌, ℕ, ◌+◌, [], List, ap, sym, subst, arith}
use Rattle.seg_words.specs.Blocks.{image_place}
use Rattle.value_image.specs.Texts.{IsToldImage}
use Rattle.cache_c.specs.Standing.{cache_words}
use Rattle.cache_c.proofs.Standing.{words_short}
use Rattle.cache_c.proofs.HeldRows.{row_block}
use Rattle.cache_c.proofs.cache.Cache.other.Goals as goal

pub overflow_add-image : goal.overflow_add-image
overflow_add-image c =
    let b = row_block c.args.self.now c.args.key.now c.args.at c.requires.there.0 c.requires.stand c.requires.there.1 in
    omega (arith, b.place, b.inside, words_short c.args.self.now)

pub overflow_add-image-2 : goal.overflow_add-image-2
overflow_add-image-2 c =
    let b = row_block c.args.self.now c.args.key.now c.args.at c.requires.there.0 c.requires.stand c.requires.there.1 in
    omega (arith, b.place, b.inside, words_short c.args.self.now)

pub text-requires : goal.text-requires
text-requires c =
    let row = c.requires.there.0 in
    let b = row_block c.args.self.now c.args.key.now c.args.at row c.requires.stand c.requires.there.1 in
    let e = ap (λ (n : ℕ). c.args.at + 12 + n) c.words_in.ensures ∙ b.place in
    record { image = (row.graph, subst (λ (n : ℕ). IsToldImage (cache_words c.args.self.now) [] n row.graph) (sym e) b.told) }

pub returns-clause-told : goal.returns-clause-told
returns-clause-told c = λ row is none.
    let b = row_block c.args.self.now c.args.key.now c.args.at row c.requires.stand is in
    let e = ap (λ (n : ℕ). c.args.at + 12 + n) c.words_in.ensures ∙ b.place in
    c.text.ensures.told row.graph (subst (λ (n : ℕ). IsToldImage (cache_words c.args.self.now) [] n row.graph) (sym e) b.told) none

pub returns-clause-place : goal.returns-clause-place
returns-clause-place c = λ text.
    let b = row_block c.args.self.now c.args.key.now c.args.at c.requires.there.0 c.requires.stand c.requires.there.1 in
    let e = ap (λ (n : ℕ). c.args.at + 12 + n) c.words_in.ensures ∙ b.place in
    c.text.ensures.place text ∙ ap (λ (n : ℕ). n + 1) (e ∙ ap (λ (ws : List ℕ). image_place ws c.args.at) (sym c.text.ensures.same.words))

pub returns-clause-positive : goal.returns-clause-positive
returns-clause-positive c = (row_block c.args.self.now c.args.key.now c.args.at c.requires.there.0 c.requires.stand c.requires.there.1).positive
