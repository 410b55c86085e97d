-- Values that are a string or an integer, by the letter that they begin with.
use Rattle.std.specs.Prelude.{ℕ, Bool, false, ◌==◌, List, [], ◌∷◌}

abbrev pub begins_string : List ℕ → Bool
begins_string [] = false
begins_string (b ∷ rest) = b == 115

abbrev pub begins_integer : List ℕ → Bool
begins_integer [] = false
begins_integer (b ∷ rest) = b == 105
