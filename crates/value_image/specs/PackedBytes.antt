-- Bytes as 64-bit words, eight a word.
use Rattle.std.specs.Prelude.{ℕ, ◌*◌, List, length, map, drop}
use Rattle.std.specs.List.{flat_map, range_with_len}
use Rattle.byteorder.specs.Endian.{little_bytes, little_number}
use Rattle.seg_words.specs.Layout.{words_in}

-- the bytes of words, the lowest byte of each first
abbrev pub bytes_of : List ℕ → List ℕ
bytes_of words = flat_map (little_bytes 8) words

-- The word of the eight bytes from byte 8 * k on, the first byte lowest. Bytes past the end are 0.
abbrev pub word_at : List ℕ → ℕ → ℕ
word_at bytes k = little_number 8 (drop (8 * k) bytes)

-- the words of a byte string, the last one filled with zeros
abbrev pub words_of : List ℕ → List ℕ
words_of bytes = map (word_at bytes) (range_with_len 0 (words_in (length bytes)))
