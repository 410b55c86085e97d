-- How many words the parts of an image have.
use Rattle.std.proofs.Common.{◌≡◌, ℕ, ◌+◌, List, length, refl, arith, length-append}
use Rattle.std.specs.List.{flat_map}
use Rattle.php_graph.specs.declared.key.Key.{Key}
use Rattle.php_graph.specs.declared.key.Key.TheVariants as keys
use Rattle.php_graph.specs.declared.child.Child.{Child}
use Rattle.php_graph.specs.declared.kind.Kind.{Kind}
use Rattle.php_graph.specs.declared.kind.Kind.TheVariants as kinds
use Rattle.seg_words.specs.Layout.{words_in}
use Rattle.php_graph.specs.Size.{key_cells, cells_of}
use Rattle.value_image.specs.Image.{string_words, key_words, member_words, property_words, kind_words}
use Rattle.value_image.proofs.PackedByteLemmas.{length-words_of}
use Rattle.value_image.proofs.ItemRuns.{length-items}

pub length-string_words : (bytes : List ℕ) → length (string_words bytes) ≡ 1 + words_in (length bytes)
length-string_words bytes = omega (arith, length-words_of bytes)

pub length-key_words : (key : Key) → length (key_words key) ≡ key_cells key
length-key_words (keys.Int n) = refl
length-key_words (keys.Str bytes) = length-string_words bytes

pub length-member_words : (offset : ℕ → ℕ) (m : Key × Child) → length (member_words offset m) ≡ 1 + key_cells m.0
length-member_words offset m = omega (arith, length-key_words m.0)

pub length-property_words : (offset : ℕ → ℕ) (p : List ℕ × Child) → length (property_words offset p) ≡ 2 + words_in (length p.0)
length-property_words offset p = omega (arith, length-words_of p.0)

pub length-kind_words : (offset : ℕ → ℕ) (kind : Kind) → length (kind_words offset kind) ≡ cells_of kind
length-kind_words offset kinds.Null = refl
length-kind_words offset (kinds.Bool b) = refl
length-kind_words offset (kinds.Int n) = refl
length-kind_words offset (kinds.Str bytes) = length-string_words bytes
length-kind_words offset (kinds.Array ms) =
    omega (arith, length-items (member_words offset) (λ m. 1 + key_cells m.0) (length-member_words offset) ms)
length-kind_words offset (kinds.Object class ps) =
    omega (arith, length-append (string_words class) (flat_map (property_words offset) ps), length-string_words class, length-items (property_words offset) (λ p. 2 + words_in (length p.0)) (length-property_words offset) ps)
length-kind_words offset (kinds.Same x) = refl
