-- Pools' names and keys, and the keys of the cache under which a pool keeps its values.
use Rattle.std.specs.Prelude.{ℕ, ◌==◌, ◌&&◌, ◌||◌, not, nat_le, Bool, false, List, []}
use Rattle.std.specs.Prelude.{◌∷◌, ◌++◌, length, chars, encode_utf8_all}
use Rattle.std.specs.List.{list_all}
use Rattle.std.specs.Char.{is_ascii_alphanumeric}
use Rattle.regex_syntax.specs.Verdict.{escaped_text}
use Rattle.apcu_model.specs.declared.searching.Pattern.{Pattern}

-- a letter or a digit of ASCII, `_` or `.`
abbrev pub is_name_byte : ℕ → Bool
is_name_byte b = is_ascii_alphanumeric b || (b == 95 || b == 46)

abbrev pub is_good_name : List ℕ → Bool
is_good_name name =
    nat_le 1 (length name) && (nat_le (length name) 64 && list_all is_name_byte name)

-- one of `{}()/\@:`
abbrev pub is_reserved : ℕ → Bool
is_reserved b =
    b == 123 || (b == 125 || (b == 40 || (b == 41
    || (b == 47 || (b == 92 || (b == 64 || b == 58))))))

abbrev pub is_good_key : List ℕ → Bool
is_good_key key =
    nat_le 1 (length key)
    && (nat_le (length key) 4294967229 && list_all (λ b. not (is_reserved b)) key)

-- the name in braces
abbrev pub braced : List ℕ → List ℕ
braced name = 123 ∷ (name ++ 125 ∷ [])

-- the key of the cache under which a pool keeps its key
abbrev pub pool_key : List ℕ → List ℕ → List ℕ
pool_key name key = braced name ++ key

-- the pattern that matches a text literally
abbrev pub escaped : List ℕ → List ℕ
escaped text = encode_utf8_all (escaped_text (chars text))

-- the pattern by which a pool's keys are found: its name in braces, literally
abbrev pub pattern_of : List ℕ → Pattern
pattern_of name = record { text = escaped (braced name); fold = false }
