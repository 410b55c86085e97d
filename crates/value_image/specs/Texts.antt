-- Values that are strings.
use Rattle.std.specs.Prelude.{ℕ, ◌+◌, ◌<◌, ◌≤◌, List, ◌∷◌, Option, Some, None}
use Rattle.php_graph.specs.Size.{image_length}
use Rattle.php_graph.specs.declared.kind.Kind.{Kind}
use Rattle.php_graph.specs.declared.kind.Kind.TheVariants as kinds
use Rattle.seg_words.specs.Blocks.{IsTold}
use Rattle.value_image.specs.Image.{IsImageOf}

-- the graph's image is at place `at`, and each of its words is told
pub record IsToldImage (row windows : List ℕ) (at : ℕ) (g : List Kind) : Type 0 where
  pub image : IsImageOf row at (image_length g) g
  pub told : (i : ℕ) → at ≤ i → i < at + image_length g → IsTold windows i

-- the bytes of a value that is a string
abbrev pub string_of : List Kind → Option (List ℕ)
string_of (kinds.Str bytes ∷ places) = Some bytes
string_of places = None
