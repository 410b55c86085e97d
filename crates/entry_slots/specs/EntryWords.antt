-- The words of a new entry's block, from word 1 on.
use Rattle.std.specs.Prelude.{◌≡◌, ℕ, List, [], ◌∷◌, ◌++◌, length}
use Rattle.php_graph.specs.declared.kind.Kind.{Kind}
use Rattle.php_graph.specs.Size.{image_length}
use Rattle.php_graph.specs.ByteStrings.{AreBytes}
use Rattle.value_image.specs.PackedBytes.{words_of}
use Rattle.value_image.specs.Rows.{StandsAt}
use Rattle.value_image.specs.Image.{image_of}
use Rattle.entry_slots.specs.declared.writing.NewHead.{NewHead}

-- those before the key
abbrev pub head_words : List ℕ → List Kind → NewHead → List ℕ
head_words key g new_head =
    new_head.next ∷ length key ∷ image_length g ∷ new_head.ttl ∷ new_head.now ∷ new_head.now ∷ new_head.now ∷ 0 ∷ 0
    ∷ new_head.number ∷ 0 ∷ []

abbrev pub entry_words : List ℕ → List Kind → NewHead → List ℕ
entry_words key g new_head = head_words key g new_head ++ (words_of key ++ image_of g)

-- a key of this many bytes is there
pub record IsEntryKey (words : List ℕ) (at len : ℕ) (key : List ℕ) : Type 0 where
  pub stands : StandsAt words at (words_of key)
  pub bytes : AreBytes key
  pub count : length key ≡ len
