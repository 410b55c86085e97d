use Rattle.std.proofs.Common.{ℕ, ◌<◌, ◌^◌, ◌∷◌, ◌∙◌, List, ap, ap₂, sym, subst, arith}
use Rattle.php_graph.specs.declared.kind.Kind.TheVariants as kinds
use Rattle.php_graph.specs.declared.places.Place.{Place}
use Rattle.php_graph.specs.PlaceOffsets.{kinds_at}
use Rattle.php_graph.specs.Size.{offset_of}
use Rattle.value_image.specs.Image.{IsImageOf}
use Rattle.value_image.specs.Reading.{renumbered_kind}
use Rattle.value_image.proofs.ScalarGraphs.{alone, kept-alone, first-read, alone-text, kept-text}
use Rattle.value_image.proofs.ImageParts.{string-at}
use Rattle.value_image.proofs.Counts.{kept}
use Rattle.value_image.proofs.Images.{image-inside}
use Rattle.value_image.proofs.OffsetTables.{image-some}
use Rattle.value_image.proofs.read.unpersist.Goals as goal

pub load-tag-requires : goal.load-tag-requires
load-tag-requires g c =
    let some = image-some _ c.args.at c.args.len c.requires.image.0 c.requires.image.1 in
    omega (arith, some, image-inside _ c.args.at c.args.len c.requires.image.0 c.requires.image.1 some)

pub read_scalar-requires : goal.read_scalar-requires
read_scalar-requires g c =
    let short : c.args.len < 2 ^ 32 = omega arith in
    let graph = c.requires.image.0 in
    let first = first-read _ (g.W.WordsIn.aside c.args.from.now) c.args.at c.args.len c.load-tag.result graph _ _ c.requires.image.1 short c.requires.told c.load-tag.ensures.word c.load-tag.ensures.words c.load-tag.ensures.aside in
    (renumbered_kind (offset_of graph) first.0, first.2, first.3)

pub from_places-requires : goal.from_places-requires
from_places-requires g c =
    let short : c.args.len < 2 ^ 32 = omega arith in
    let graph = c.requires.image.0 in
    let image = c.requires.image.1 in
    let first = first-read _ (g.W.WordsIn.aside c.args.from.now) c.args.at c.args.len c.load-tag.result graph _ _ image short c.requires.told c.load-tag.ensures.word c.load-tag.ensures.words c.load-tag.ensures.aside in
    let is = sym (c.read_scalar.ensures.scalar (renumbered_kind (offset_of graph) first.0) first.2) ∙ c.in-Some.is in
    kept-alone c.args.at c.args.len _ graph first.0 _ c.new-none.result.items image.graph image.length_is short c.from.ensures first.1 is c.new-none.ensures.items

pub returns-in-Some-clause-graph : goal.returns-in-Some-clause-graph
returns-in-Some-clause-graph g c = λ graph image.
    let short : c.args.len < 2 ^ 32 = omega arith in
    let first = first-read _ (g.W.WordsIn.aside c.args.from.now) c.args.at c.args.len c.load-tag.result graph _ _ image short c.requires.told c.load-tag.ensures.word c.load-tag.ensures.words c.load-tag.ensures.aside in
    let is = sym (c.read_scalar.ensures.scalar (renumbered_kind (offset_of graph) first.0) first.2) ∙ c.in-Some.is in
    c.from_places.ensures ∙ (ap (λ (ps : List Place). c.in-Some.scalar ∷ kinds_at ps) c.new-none.ensures.items ∙ sym (alone c.args.at graph first.0 _ image.graph first.1 is))

pub from_places-requires-2 : goal.from_places-requires-2
from_places-requires-2 g c =
    let graph = c.requires.image.0 in
    let image = c.requires.image.1 in
    let same = c.read_scalar.ensures.kept.words ∙ c.load-tag.ensures.words in
    let read = c.in_ok-first.ensures.places graph (subst (λ (row : List ℕ). IsImageOf row c.args.at c.args.len graph) (sym same) image) in
    let short : c.args.len < 2 ^ 32 = omega arith in
    let offsets = ap (λ (os : List ℕ). 0 ∷ os) c.in_ok-number.ensures.offsets ∙ read.offsets_are in
    kept _ _ _ c.args.len graph image.graph (c.in_ok-number.ensures.places graph read) offsets c.from-2.ensures image.length_is short

pub read_text-requires : goal.read_text-requires
read_text-requires g c =
    let short : c.args.len < 2 ^ 32 = omega arith in
    let graph = c.requires.image.0 in
    let first = first-read _ (g.W.WordsIn.aside c.args.from.now) c.args.at c.args.len c.load-tag.result graph _ _ c.requires.image.1 short c.requires.told c.load-tag.ensures.word c.load-tag.ensures.words c.load-tag.ensures.aside in
    let found = string-at _ _ _ _ _ _ _ first.2 (λ told. first.3) c.if-tag-eq-STR.true c.read_scalar.ensures.kept.words c.read_scalar.ensures.kept.aside in
    (found.0, found.2, found.3)

pub from_places-requires-then-tag-eq-STR : goal.from_places-requires-then-tag-eq-STR
from_places-requires-then-tag-eq-STR g c =
    let short : c.args.len < 2 ^ 32 = omega arith in
    let graph = c.requires.image.0 in
    let image = c.requires.image.1 in
    let first = first-read _ (g.W.WordsIn.aside c.args.from.now) c.args.at c.args.len c.load-tag.result graph _ _ image short c.requires.told c.load-tag.ensures.word c.load-tag.ensures.words c.load-tag.ensures.aside in
    let found = string-at _ _ _ _ _ _ _ first.2 (λ told. first.3) c.if-tag-eq-STR.true c.read_scalar.ensures.kept.words c.read_scalar.ensures.kept.aside in
    let got = c.in_ok-bytes.ensures.string found.0 found.2 found.3 in
    kept-text (offset_of graph) c.args.len _ graph first.0 found.0 _ _ image.graph image.length_is short c.from-then-tag-eq-STR.ensures first.1 found.1 got.0 c.new-none-then-tag-eq-STR.ensures.items

pub returns-then-tag-eq-STR-clause-graph : goal.returns-then-tag-eq-STR-clause-graph
returns-then-tag-eq-STR-clause-graph g c = λ graph image.
    let short : c.args.len < 2 ^ 32 = omega arith in
    let first = first-read _ (g.W.WordsIn.aside c.args.from.now) c.args.at c.args.len c.load-tag.result graph _ _ image short c.requires.told c.load-tag.ensures.word c.load-tag.ensures.words c.load-tag.ensures.aside in
    let found = string-at _ _ _ _ _ _ _ first.2 (λ told. first.3) c.if-tag-eq-STR.true c.read_scalar.ensures.kept.words c.read_scalar.ensures.kept.aside in
    let got = c.in_ok-bytes.ensures.string found.0 found.2 found.3 in
    c.from_places-then-tag-eq-STR.ensures ∙ (ap₂ (λ (bs : List ℕ) (ps : List Place). kinds.Str bs ∷ kinds_at ps) got.0 c.new-none-then-tag-eq-STR.ensures.items ∙ sym (alone-text (offset_of graph) graph first.0 found.0 image.graph first.1 found.1))
