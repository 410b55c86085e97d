use Rattle.std.proofs.Common.{◌≡◌, ◌+◌, ap₂, ◌∙◌, arith}
use Rattle.std.proofs.lemmas.Result.{err_from_is_err_and}
use Rattle.php_graph.specs.declared.key.Key.{Key}
use Rattle.php_graph.specs.declared.child.Child.{Child}
use Rattle.php_graph.specs.Size.{key_cells}
use Rattle.value_image.proofs.ImageParts.{member-there, member-key, child-short}
use Rattle.value_image.proofs.read_members.read_member.Goals as goal

pub load-requires : goal.load-requires
load-requires g c = (member-there _ _ _ c.requires.0 c.requires.1).0

pub child_in-child-requires : goal.child_in-child-requires
child_in-child-requires g c =
    let there = member-there _ _ _ c.requires.0 c.requires.1 in
    child-short c.requires.0.1 _ (c.load.ensures.word there.1 ∙ there.2) c.requires.1.fits.1

pub overflow_add-at : goal.overflow_add-at
overflow_add-at g c = omega (arith, (member-there _ _ _ c.requires.0 c.requires.1).0, g.met.W.WordsIn.short c.args.from.now)

pub read_key-requires : goal.read_key-requires
read_key-requires g c = (c.requires.0.0, member-key _ _ _ c.requires.0 _ _ c.requires.1 c.load.ensures.words c.load.ensures.aside)

pub returns-in_err-key-clause-member : goal.returns-in_err-key-clause-member
returns-in_err-key-clause-member g c = λ m h. rw (err_from_is_err_and c.from_residual.result c.from_residual.ensures.1).1 tt

pub returns-in_err-key-clause-kept : goal.returns-in_err-key-clause-kept
returns-in_err-key-clause-kept g c =
    let kept = c.in_err-key.ensures.kept in
    record { words = kept.words ∙ c.load.ensures.words; aside = kept.aside ∙ c.load.ensures.aside; rest = kept.rest ∙ c.load.ensures.rest }

pub returns-clause-member : goal.returns-clause-member
returns-clause-member g c = λ m h.
    let there = member-there _ _ _ m h in
    let child = c.child_in-child.ensures m.1 (c.load.ensures.word there.1 ∙ there.2) in
    let got = c.in_ok-key.ensures.key m.0 (member-key _ _ _ m _ _ h c.load.ensures.words c.load.ensures.aside) in
    let behind : c.args.at + 1 + key_cells m.0 ≡ c.args.at + (1 + key_cells m.0) = omega arith in
    (ap₂ (λ (key : Key) (ch : Child). (key, ch)) got.0 child, got.1 ∙ behind)

pub returns-clause-kept : goal.returns-clause-kept
returns-clause-kept g c =
    let kept = c.in_ok-key.ensures.kept in
    record { words = kept.words ∙ c.load.ensures.words; aside = kept.aside ∙ c.load.ensures.aside; rest = kept.rest ∙ c.load.ensures.rest }
