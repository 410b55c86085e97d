use Rattle.std.proofs.Common.{◌≡◌, ℕ, ◌+◌, List, [], ◌∷◌, ap, sym, ◌∙◌, subst, length, arith}
use Rattle.std.proofs.lemmas.Grind.{common_steps}
use Rattle.php_graph.specs.declared.kind.Kind.{Kind}
use Rattle.php_graph.specs.declared.kind.Kind.TheVariants.{Same}
use Rattle.php_graph.specs.Size.{cells_of, offset_of}
use Rattle.value_image.specs.Rows.{written, MayWrite}
use Rattle.value_image.specs.Places.{NamesPlaces}
use Rattle.value_image.specs.Image.{place_words}
use Rattle.value_image.proofs.write.put_place.Goals as goal

-- a place that names another is written with its offset
same-words : (row : List ℕ) (at : ℕ) (new : List ℕ) (n : ℕ) (g : List Kind) (place : ℕ) (kind : Kind) → new ≡ written row at (6 ∷ n ∷ []) → n ≡ offset_of g place → kind ≡ Same place → new ≡ written row at (place_words g kind)
same-words row at new n g place kind words offset is = words ∙ ap (λ (w : ℕ). written row at (6 ∷ w ∷ [])) offset ∙ ap (λ (k : Kind). written row at (place_words g k)) (sym is)

pub put_one-requires : goal.put_one-requires
put_one-requires g c = subst (λ (k : Kind). MayWrite (g.S.WordsIn.words c.args.seg.now) (g.S.WordsIn.aside c.args.seg.now).windows c.args.at (cells_of k)) c.in-Null.is c.requires.apart

pub put_one-requires-in-Bool : goal.put_one-requires-in-Bool
put_one-requires-in-Bool g c = subst (λ (k : Kind). MayWrite (g.S.WordsIn.words c.args.seg.now) (g.S.WordsIn.aside c.args.seg.now).windows c.args.at (cells_of k)) c.in-Bool.is c.requires.apart

pub put_two-requires : goal.put_two-requires
put_two-requires g c = subst (λ (k : Kind). MayWrite (g.S.WordsIn.words c.args.seg.now) (g.S.WordsIn.aside c.args.seg.now).windows c.args.at (cells_of k)) c.in-Int.is c.requires.apart

pub put_string-requires : goal.put_string-requires
put_string-requires g c = subst (λ (k : Kind). MayWrite (g.S.WordsIn.words c.args.seg.now) (g.S.WordsIn.aside c.args.seg.now).windows c.args.at (cells_of k)) c.in-Str.is c.requires.apart

pub put_array-requires-clause-places : goal.put_array-requires-clause-places
put_array-requires-clause-places g c = subst (λ (k : Kind). NamesPlaces (length c.args.g.now) k) c.in-Array.is c.requires.places

pub put_array-requires-clause-apart : goal.put_array-requires-clause-apart
put_array-requires-clause-apart g c = subst (λ (k : Kind). MayWrite (g.S.WordsIn.words c.args.seg.now) (g.S.WordsIn.aside c.args.seg.now).windows c.args.at (cells_of k)) c.in-Array.is c.requires.apart

pub put_object-requires-clause-places : goal.put_object-requires-clause-places
put_object-requires-clause-places g c = subst (λ (k : Kind). NamesPlaces (length c.args.g.now) k) c.in-Object.is c.requires.places

pub put_object-requires-clause-apart : goal.put_object-requires-clause-apart
put_object-requires-clause-apart g c = subst (λ (k : Kind). MayWrite (g.S.WordsIn.words c.args.seg.now) (g.S.WordsIn.aside c.args.seg.now).windows c.args.at (cells_of k)) c.in-Object.is c.requires.apart

pub put_two-requires-in-Same : goal.put_two-requires-in-Same
put_two-requires-in-Same g c = subst (λ (k : Kind). MayWrite (g.S.WordsIn.words c.args.seg.now) (g.S.WordsIn.aside c.args.seg.now).windows c.args.at (cells_of k)) c.in-Same.is c.requires.apart

pub returns-in-Null-clause-words : goal.returns-in-Null-clause-words
returns-in-Null-clause-words g c = c.put_one.ensures.words ∙ ap (λ (k : Kind). written (g.S.WordsIn.words c.args.seg.now) c.args.at (place_words c.args.g.now k)) (sym c.in-Null.is)

pub returns-in-Null-clause-end : goal.returns-in-Null-clause-end
returns-in-Null-clause-end g c = c.put_one.ensures.end ∙ ap (λ (k : Kind). c.args.at + cells_of k) (sym c.in-Null.is)

pub returns-in-Bool-clause-words : goal.returns-in-Bool-clause-words
returns-in-Bool-clause-words g c = grind (arith, common_steps)

pub returns-in-Bool-clause-end : goal.returns-in-Bool-clause-end
returns-in-Bool-clause-end g c = c.put_one-in-Bool.ensures.end ∙ ap (λ (k : Kind). c.args.at + cells_of k) (sym c.in-Bool.is)

pub returns-in-Int-clause-words : goal.returns-in-Int-clause-words
returns-in-Int-clause-words g c = grind (arith, common_steps)

pub returns-in-Int-clause-end : goal.returns-in-Int-clause-end
returns-in-Int-clause-end g c = c.put_two.ensures.end ∙ ap (λ (k : Kind). c.args.at + cells_of k) (sym c.in-Int.is)

pub returns-in-Str-clause-words : goal.returns-in-Str-clause-words
returns-in-Str-clause-words g c = c.put_string.ensures.words ∙ ap (λ (k : Kind). written (g.S.WordsIn.words c.args.seg.now) c.args.at (place_words c.args.g.now k)) (sym c.in-Str.is)

pub returns-in-Str-clause-end : goal.returns-in-Str-clause-end
returns-in-Str-clause-end g c = c.put_string.ensures.end ∙ ap (λ (k : Kind). c.args.at + cells_of k) (sym c.in-Str.is)

pub returns-in-Array-clause-words : goal.returns-in-Array-clause-words
returns-in-Array-clause-words g c = c.put_array.ensures.words ∙ ap (λ (k : Kind). written (g.S.WordsIn.words c.args.seg.now) c.args.at (place_words c.args.g.now k)) (sym c.in-Array.is)

pub returns-in-Array-clause-end : goal.returns-in-Array-clause-end
returns-in-Array-clause-end g c = c.put_array.ensures.end ∙ ap (λ (k : Kind). c.args.at + cells_of k) (sym c.in-Array.is)

pub returns-in-Object-clause-words : goal.returns-in-Object-clause-words
returns-in-Object-clause-words g c = c.put_object.ensures.words ∙ ap (λ (k : Kind). written (g.S.WordsIn.words c.args.seg.now) c.args.at (place_words c.args.g.now k)) (sym c.in-Object.is)

pub returns-in-Object-clause-end : goal.returns-in-Object-clause-end
returns-in-Object-clause-end g c = c.put_object.ensures.end ∙ ap (λ (k : Kind). c.args.at + cells_of k) (sym c.in-Object.is)

pub returns-in-Same-clause-words : goal.returns-in-Same-clause-words
returns-in-Same-clause-words g c = same-words _ c.args.at _ _ c.args.g.now _ _ c.put_two-in-Same.ensures.words (cc) c.in-Same.is

pub returns-in-Same-clause-end : goal.returns-in-Same-clause-end
returns-in-Same-clause-end g c = c.put_two-in-Same.ensures.end ∙ ap (λ (k : Kind). c.args.at + cells_of k) (sym c.in-Same.is)
