-- What seats hold: a seat names a block from which a caller copies without keeping out the others.
use Rattle.std.specs.Prelude.{◌≡◌, ℕ, ◌+◌, ◌%◌, ◌<◌, if◌then◌else◌, nat_lt, ⊤, List, [], ◌∷◌}
use Rattle.std.specs.Prelude.{length, take, drop, slice_index}
use Rattle.seg_words.specs.declared.layout.TheConstants.{IMAGE_LENGTH}
use Rattle.seg_words.specs.Blocks.{image_place}

-- the place of a block, where its image begins, and the words of its image
pub record HeldImage : Type 0 where
  pub block : ℕ
  pub place : ℕ
  pub words : List ℕ

-- a seat that holds none
abbrev pub no_image : HeldImage
no_image = record { block = 0; place = 0; words = [] }

-- what a seat holds with this place
abbrev pub held_image : List ℕ → ℕ → HeldImage
held_image words at =
    if nat_lt 0 at then record {
      block = at;
      place = image_place words at;
      words = take (slice_index words (at + IMAGE_LENGTH)) (drop (image_place words at) words);
    } else no_image

-- a string begins with this number, by eight: no other value's image does
abbrev pub BeginsText : HeldImage → Type 0
BeginsText image = (0 < length image.words) × (slice_index image.words 0 % 8 ≡ 3)

-- each image that is held is a string's
abbrev pub AreTexts : List HeldImage → Type 0
AreTexts [] = ⊤
AreTexts (image ∷ images) = (0 < image.block → BeginsText image) × AreTexts images
