-- How many 64-bit words a graph's image takes, and an entry's block.
use Rattle.std.specs.Prelude.{ℕ, ◌+◌, ◌-◌, ◌%◌, List, length, sum_by, take}
use Rattle.seg_words.specs.declared.layout.TheConstants.{HEAD_WORDS}
use Rattle.seg_words.specs.Layout.{words_in}
use Rattle.php_graph.specs.declared.key.Key.{Key}
use Rattle.php_graph.specs.declared.key.Key.TheVariants as keys
use Rattle.php_graph.specs.declared.kind.Kind.{Kind}
use Rattle.php_graph.specs.declared.kind.Kind.TheVariants as kinds

-- the words of a key: of an integer two, of a byte string its tag and its bytes
abbrev pub key_cells : Key → ℕ
key_cells (keys.Int n) = 2
key_cells (keys.Str bytes) = 1 + words_in (length bytes)

-- The words of a place: its tag and what it holds; a member of a container takes a word for its
-- child, and those of its key.
abbrev pub cells_of : Kind → ℕ
cells_of kinds.Null = 1
cells_of (kinds.Bool b) = 1
cells_of (kinds.Int n) = 2
cells_of (kinds.Str bytes) = 1 + words_in (length bytes)
cells_of (kinds.Array ms) = 1 + sum_by (λ m. 1 + key_cells m.0) ms
cells_of (kinds.Object class ps) =
    2 + words_in (length class) + sum_by (λ p. 2 + words_in (length p.0)) ps
cells_of (kinds.Same x) = 2

-- the words of all places
abbrev pub image_length : List Kind → ℕ
image_length g = sum_by cells_of g

-- the offset of place k in the image: after the places before it
abbrev pub offset_of : List Kind → ℕ → ℕ
offset_of g k = image_length (take (k - 1) g)

-- The block of an entry: its head, its key and its image, filled up to an even number.
abbrev pub block_size : ℕ → List Kind → ℕ
block_size key_len g = let n = HEAD_WORDS + words_in key_len + image_length g in n + n % 2
