-- What is read of one entry.
use Rattle.std.specs.Prelude.{◌≡◌, ℕ, ◌+◌, ◌<◌, ◌≤◌, List, length}
use Rattle.seg_words.specs.declared.segment.WordsIn.{Ghosts}
use Rattle.seg_words.specs.Blocks.{IsTold, MayStore}
use Rattle.seg_words.specs.declared.layout.TheConstants.{HEAD_WORDS}
use Rattle.seg_words.specs.Layout.{words_in}
use Rattle.php_graph.specs.Size.{image_length}
use Rattle.value_image.specs.PackedBytes.{words_of}
use Rattle.value_image.specs.Rows.{IsToldAt}
use Rattle.value_image.specs.Image.{IsImageOf}
use Rattle.apcu_model.specs.Cache.{Row}
use Rattle.entry_slots.specs.declared.head.Head.{Head}

-- the word is inside, and may be stored
pub record IsStorable (words windows : List ℕ) (i : ℕ) : Type 0 where
  pub inside : i < length words
  pub may : MayStore words windows i

-- what the words before the key contain of a row, and the place of its image
pub record IsHeadOf (words windows : List ℕ) (head : Head) (row : Row) : Type 0 where
  pub key_len : head.key_len ≡ length row.key
  pub image : head.image ≡ row.place + HEAD_WORDS + words_in (length row.key)
  pub image_len : head.image_len ≡ image_length row.graph
  pub ttl : head.ttl ≡ row.ttl
  pub ctime : head.ctime ≡ row.ctime
  pub mtime : head.mtime ≡ row.mtime
  pub atime : head.atime ≡ row.atime
  pub dtime : head.dtime ≡ row.dtime
  pub hits : head.hits ≡ row.hits
  pub size : head.size ≡ row.size
  pub number : head.number ≡ row.number
  -- the key and the image are there, and can be read
  pub key_stands : IsToldAt words windows (row.place + HEAD_WORDS) (words_of row.key)
  pub image_stands : IsImageOf words head.image head.image_len row.graph
  pub image_told : (i : ℕ) → head.image ≤ i → i < head.image + head.image_len → IsTold windows i

-- the same for those of the segment
abbrev pub HeadIn : {X R : Type 0} → Ghosts X R → X → Head → Row → Type 0
HeadIn g seg head row = IsHeadOf (g.words seg) (g.aside seg).windows head row

-- the place of the image of a row, which can be read
pub record IsImageAt (words windows : List ℕ) (image : ℕ) (row : Row) : Type 0 where
  pub place : image ≡ row.place + HEAD_WORDS + words_in (length row.key)
  pub stands : IsImageOf words image (image_length row.graph) row.graph
  pub told : (i : ℕ) → image ≤ i → i < image + image_length row.graph → IsTold windows i

-- the same for the words of the segment
abbrev pub ImageIn : {X R : Type 0} → Ghosts X R → X → ℕ → Row → Type 0
ImageIn g seg image row = IsImageAt (g.words seg) (g.aside seg).windows image row
