-- The graph whose only place is a byte string.
use Rattle.std.proofs.Common.{◌≡◌, ℕ, zero, suc, List, [], ◌∷◌, ◌++◌, Some, refl, arith}
use Rattle.std.proofs.lemmas.List.{append-nil}
use Rattle.php_graph.specs.declared.kind.Kind.TheVariants as kinds
use Rattle.php_graph.specs.ByteStrings.{AreBytes}
use Rattle.php_graph.specs.Graph.{IsGraph, kind_at, end_of, child_end}
use Rattle.value_image.specs.Image.{image_of, string_words}

text_target : (bytes : List ℕ) (p x : ℕ) → kind_at (kinds.Str bytes ∷ []) p ≡ Some (kinds.Same x) → ⊥
text_target bytes zero x k = cc
text_target bytes (suc zero) x k = cc
text_target bytes (suc (suc p)) x k = cc

pub text_graph : (bytes : List ℕ) → AreBytes bytes → IsGraph (kinds.Str bytes ∷ [])
unfolding end_of child_end
text_graph bytes fits = record {
  sealed = refl;
  targets = λ p x k. absurd (text_target bytes p x k);
  well_formed = (refl, tt);
  fits = (fits, tt);
  count = omega arith;
}

-- its image has that place alone
pub text_image : (bytes : List ℕ) → image_of (kinds.Str bytes ∷ []) ≡ string_words bytes
unfolding image_of
text_image bytes = append-nil (string_words bytes)
