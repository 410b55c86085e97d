-- A bundle of two records of one key.
use Rattle.std.proofs.Common.{◌≡◌, List, [], ◌∷◌, Some, None, refl}
use Rattle.std.specs.Fmt.{digits}
use Rattle.std.specs.List.{flat_map}
use Rattle.std.specs.Prelude.{pos, codes}
use Rattle.php_graph.specs.declared.kind.Kind.TheVariants as kinds
use Rattle.notation.specs.Notation.{child_text}
use Rattle.preload_set.specs.Bundle.{Record, record_text}
use Rattle.preload_set.specs.Loader.{record_words, last_value}

two : List Record
two = (codes "a", kinds.Int (pos 1) ∷ []) ∷ (codes "a", kinds.Int (pos 2) ∷ []) ∷ []

is_text : flat_map record_text two ≡ codes "s:1:\"a\"; i:1;\ns:1:\"a\"; i:2;\n"
unfolding two digits child_text
is_text = refl

is_last : last_value (codes "a") two ≡ Some (kinds.Int (pos 2) ∷ [])
unfolding two
is_last = refl

is_absent : last_value (codes "b") two ≡ None
unfolding two
is_absent = refl

are_words : record_words two ≡ 32
unfolding two
are_words = refl
