-- Lengths in words.
use Rattle.std.specs.Prelude.{ℕ, ◌+◌, ◌/◌}

-- the words of n bytes, eight a word
abbrev pub words_in : ℕ → ℕ
words_in n = (n + 7) / 8
