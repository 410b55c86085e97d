-- The laws of this crate, as records that callers pass on.
use Rattle.php_graph.specs.ByteStrings.{AreBytes}
use Rattle.php_graph.specs.Graph.{IsGraph}
use Rattle.php_graph.specs.Size.{image_length}
use Rattle.php_graph.specs.declared.kind.Kind.{Kind}
use Rattle.seg_words.specs.Blocks.{MayStore}
use Rattle.seg_words.specs.Layout.{words_in}
use Rattle.std.specs.Prelude.{List, drop, length, slice_index, take, ℕ, ◌++◌, ◌+◌, ◌<◌, ◌≡◌, ◌≤◌}
use Rattle.value_image.specs.Image.{IsImageOf, image_of}
use Rattle.value_image.specs.PackedBytes.{bytes_of, words_of}
use Rattle.value_image.specs.Rows.{MayWrite, StandsAt, written}

-- an image is one run of words
pub record ImagesAreRuns : Type 0 where
  pub run : (row : List ℕ) (at len : ℕ) (g : List Kind) → IsImageOf row at len g
      → StandsAt row at (image_of g)
  pub image : (row : List ℕ) (at : ℕ) (g : List Kind) → IsGraph g → StandsAt row at (image_of g)
      → IsImageOf row at (image_length g) g
  pub long : (g : List Kind) → length (image_of g) ≡ image_length g

-- what a run that is written changes
pub record RunsAreWritten : Type 0 where
  pub long : (row : List ℕ) (at : ℕ) (run : List ℕ) → length (written row at run) ≡ length row
  pub cut : (row : List ℕ) (at : ℕ) (run : List ℕ) → at + length run ≤ length row
      → written row at run ≡ take at row ++ (run ++ drop (length run) (drop at row))
  pub there : (row : List ℕ) (at : ℕ) (run : List ℕ) → at + length run ≤ length row
      → StandsAt (written row at run) at run
  pub before : (row : List ℕ) (at : ℕ) (run : List ℕ) (i : ℕ) → i < at
      → slice_index (written row at run) i ≡ slice_index row i
  pub behind : (row : List ℕ) (at : ℕ) (run : List ℕ) (i : ℕ) → at + length run ≤ i
      → slice_index (written row at run) i ≡ slice_index row i
  pub joined : (row : List ℕ) (at : ℕ) (xs ys : List ℕ) → written row at (xs ++ ys)
      ≡ written (written row at xs) (at + length xs) ys
  pub stored : (row windows : List ℕ) (at : ℕ) (run : List ℕ) (i : ℕ)
      → MayWrite row windows at (length run) → MayStore row windows i
      → MayStore (written row at run) windows i

-- how a run is in words
pub record RunsStand : Type 0 where
  pub words : (row : List ℕ) (at : ℕ) (run : List ℕ) (i : ℕ) → StandsAt row at run
      → i < length run → slice_index row (at + i) ≡ slice_index run i
  pub front : (row : List ℕ) (at : ℕ) (xs ys : List ℕ) → StandsAt row at (xs ++ ys)
      → StandsAt row at xs
  pub back : (row : List ℕ) (at : ℕ) (xs ys : List ℕ) → StandsAt row at (xs ++ ys)
      → StandsAt row (at + length xs) ys

-- byte strings as words
pub record BytesArePacked : Type 0 where
  pub long : (bytes : List ℕ) → length (words_of bytes) ≡ words_in (length bytes)
  pub apart : (x y : List ℕ) → AreBytes x → AreBytes y → length x ≡ length y → words_of x
      ≡ words_of y → x ≡ y
  pub back : (bytes rest : List ℕ) → AreBytes bytes
      → take (length bytes) (bytes_of (words_of bytes ++ rest)) ≡ bytes
