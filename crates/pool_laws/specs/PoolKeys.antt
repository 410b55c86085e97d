-- Which keys of the cache, and which patterns, are a pool's.
use Rattle.std.specs.Prelude.{ℕ, ◌&&◌, ◌||◌, not, nat_eq, Bool, false, List, [], ◌∷◌}
use Rattle.std.specs.Prelude.{length, drop, Option, Some, None}
use Rattle.std.specs.List.{starts_with}
use Rattle.std.specs.Str.{bytes_eq}
use Rattle.apcu_model.specs.declared.searching.Pattern.{Pattern}
use Rattle.simple_pool.specs.Names.{is_good_key, braced, escaped}

-- the pool keeps one of its keys under this key of the cache
abbrev pub is_key_of : List ℕ → List ℕ → Bool
is_key_of name key =
    starts_with nat_eq key (braced name) && is_good_key (drop (length (braced name)) key)

-- the bytes contain the text
abbrev pub holds_text : List ℕ → List ℕ → Bool
holds_text text [] = starts_with nat_eq [] text
holds_text text (b ∷ bytes) = starts_with nat_eq (b ∷ bytes) text || holds_text text bytes

-- the pattern is that by which the pool's keys are found
abbrev pub is_pattern_of : List ℕ → Option Pattern → Bool
is_pattern_of name None = false
is_pattern_of name (Some p) = not p.fold && bytes_eq p.text (escaped (braced name))
