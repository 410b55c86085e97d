use Rattle.std.proofs.Common.{arith}
use Rattle.value_image.proofs.ImageParts.{object-class, object-properties}
use Rattle.value_image.proofs.read.read_object.Goals as goal

pub read_string-requires : goal.read_string-requires
read_string-requires g c = (c.requires.0, object-class _ _ _ _ _ c.requires.1 c.requires.2)

pub read_properties-requires : goal.read_properties-requires
read_properties-requires g c =
    let class = c.in_ok-class.ensures.string c.requires.0 (object-class _ _ _ _ _ c.requires.1 c.requires.2) in
    (c.requires.1, object-properties _ _ _ _ c.requires.0 c.requires.1 _ _ _ c.requires.2 class.1 c.in_ok-class.ensures.kept.words c.in_ok-class.ensures.kept.aside)

pub returns-clause-object : goal.returns-clause-object
returns-clause-object g c = λ class ps h.
    let first = c.in_ok-class.ensures.string class (object-class _ _ _ _ _ ps h) in
    let second = c.in_ok-props.ensures.properties ps (object-properties _ _ _ _ class ps _ _ _ h first.1 c.in_ok-class.ensures.kept.words c.in_ok-class.ensures.kept.aside) in
    (first.0, second.0, omega (arith, first.1, second.1))
