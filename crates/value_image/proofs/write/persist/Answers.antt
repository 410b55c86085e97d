use Rattle.std.proofs.Common.{◌≡◌, ℕ, ◌+◌, ◌≤◌, List, length, take, Some, slice_get, ap, subst, sym, ◌∙◌, arith, add-one}
use Rattle.std.specs.List.{flat_map}
use Rattle.std.proofs.lemmas.List.{take_all}
use Rattle.php_graph.specs.declared.kind.Kind.{Kind}
use Rattle.php_graph.specs.Graph.{kind_at}
use Rattle.php_graph.specs.Size.{cells_of, image_length, offset_of}
use Rattle.value_image.specs.Rows.{written}
use Rattle.value_image.specs.Image.{place_words, image_of, IsImageOf}
use Rattle.value_image.proofs.ItemRuns.{item_may_write, item_written, cells-more}
use Rattle.value_image.proofs.Lengths.{length-kind_words}
use Rattle.value_image.proofs.NamedPlaces.{names_places}
use Rattle.value_image.proofs.Images.{image-written}
use Rattle.value_image.proofs.write.persist.Goals as goal

-- the place with the number i + 1 is the list's item i
item : (g : List Kind) (i : ℕ) (kind : Kind) → kind_at g (i + 1) ≡ Some kind → slice_get g i ≡ Some kind
item g i kind h = subst (λ k. kind_at g k ≡ Some kind) (add-one i) h

-- all items are the list
all_written : (row row' : List ℕ) (at : ℕ) (g : List Kind) (i : ℕ) → length g ≤ i → row' ≡ written row at (flat_map (place_words g) (take i g)) → row' ≡ written row at (image_of g)
unfolding image_of
all_written row row' at g i le h = h ∙ ap (λ (xs : List Kind). written row at (flat_map (place_words g) xs)) (take_all i g le)

pub put_place-next-requires-clause-places : goal.put_place-next-requires-clause-places
put_place-next-requires-clause-places g c = names_places _ c.places-i-end.ensures.graph _ _ c.kind.ensures

pub put_place-next-requires-clause-apart : goal.put_place-next-requires-clause-apart
put_place-next-requires-clause-apart g c =
    item_may_write (place_words c.args.g.now) cells_of (length-kind_words (offset_of c.args.g.now)) _ _ _ c.args.g.now c.loop-i.i _ _ _ _ c.requires (item c.args.g.now c.loop-i.i _ c.kind.ensures) c.loop-i.invariant.words c.loop-i.invariant.beside.aside c.loop-i.invariant.next

pub loop-i-preserved : goal.loop-i-preserved
loop-i-preserved g c =
    let get = item c.args.g.now c.loop-i.i _ c.kind.ensures in
    record {
      words = item_written (place_words c.args.g.now) cells_of (length-kind_words (offset_of c.args.g.now)) _ _ c.args.g.now c.loop-i.i _ _ _ _ get c.loop-i.invariant.words c.put_place-next.ensures.words c.loop-i.invariant.next;
      next = omega (arith, cells-more cells_of c.args.g.now c.loop-i.i _ get);
      beside = record { aside = c.put_place-next.ensures.beside.aside ∙ c.loop-i.invariant.beside.aside; rest = c.put_place-next.ensures.beside.rest ∙ c.loop-i.invariant.beside.rest };
    }

pub returns-clause-words : goal.returns-clause-words
returns-clause-words g c =
    all_written _ _ _ c.args.g.now c.loop-i.i (omega arith) c.loop-i.invariant.words

pub returns-clause-image : goal.returns-clause-image
returns-clause-image g c =
    let words = all_written _ _ _ c.args.g.now c.loop-i.i (omega arith) c.loop-i.invariant.words in
    subst (λ (row : List ℕ). IsImageOf row c.args.at (image_length c.args.g.now) c.args.g.now) (sym words) (image-written _ c.args.at c.args.g.now c.places-i-end.ensures.graph c.requires.inside)
