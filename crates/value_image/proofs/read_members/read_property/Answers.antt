use Rattle.std.proofs.Common.{◌≡◌, ℕ, ◌+◌, List, ap₂, ◌∙◌, arith, length}
use Rattle.std.proofs.lemmas.Result.{err_from_is_err_and}
use Rattle.php_graph.specs.declared.child.Child.{Child}
use Rattle.seg_words.specs.Layout.{words_in}
use Rattle.value_image.proofs.ImageParts.{property-there, property-name, child-short}
use Rattle.value_image.proofs.read_members.read_property.Goals as goal

pub load-requires : goal.load-requires
load-requires g c = (property-there _ _ _ c.requires.0 c.requires.1).0

pub child_in-child-requires : goal.child_in-child-requires
child_in-child-requires g c =
    let there = property-there _ _ _ c.requires.0 c.requires.1 in
    child-short c.requires.0.1 _ (c.load.ensures.word there.1 ∙ there.2) c.requires.1.fits.1

pub overflow_add-at : goal.overflow_add-at
overflow_add-at g c = omega (arith, (property-there _ _ _ c.requires.0 c.requires.1).0, g.met.W.WordsIn.short c.args.from.now)

pub read_string-requires : goal.read_string-requires
read_string-requires g c = (c.requires.0.0, property-name _ _ _ c.requires.0 _ _ c.requires.1 c.load.ensures.words c.load.ensures.aside)

pub returns-in_err-name-clause-property : goal.returns-in_err-name-clause-property
returns-in_err-name-clause-property g c = λ p h. rw (err_from_is_err_and c.from_residual.result c.from_residual.ensures.1).1 tt

pub returns-in_err-name-clause-kept : goal.returns-in_err-name-clause-kept
returns-in_err-name-clause-kept g c =
    let kept = c.in_err-name.ensures.kept in
    record { words = kept.words ∙ c.load.ensures.words; aside = kept.aside ∙ c.load.ensures.aside; rest = kept.rest ∙ c.load.ensures.rest }

pub returns-clause-property : goal.returns-clause-property
returns-clause-property g c = λ p h.
    let there = property-there _ _ _ p h in
    let child = c.child_in-child.ensures p.1 (c.load.ensures.word there.1 ∙ there.2) in
    let got = c.in_ok-name.ensures.string p.0 (property-name _ _ _ p _ _ h c.load.ensures.words c.load.ensures.aside) in
    let behind : c.args.at + 1 + (1 + words_in (length p.0)) ≡ c.args.at + (2 + words_in (length p.0)) = omega arith in
    (ap₂ (λ (name : List ℕ) (ch : Child). (name, ch)) got.0 child, got.1 ∙ behind)

pub returns-clause-kept : goal.returns-clause-kept
returns-clause-kept g c =
    let kept = c.in_ok-name.ensures.kept in
    record { words = kept.words ∙ c.load.ensures.words; aside = kept.aside ∙ c.load.ensures.aside; rest = kept.rest ∙ c.load.ensures.rest }
