-- Which keys a pattern matches, by what the crate `regex` promises of its searches.
use Rattle.std.specs.Prelude.{◌≡◌, ◌<◌, ℕ, nat_le, Bool, true, false, if◌then◌else◌, List, Option}
use Rattle.std.specs.Prelude.{Some, None, is_some, option_and_then, chars, slice_index_or}
use Rattle.std.specs.Option.{option_map_or}
use Rattle.std.specs.Str.{is_utf8}
use Rattle.regex.specs.Patterns.{Config, Re, default_config, find}
use Rattle.regex_syntax.specs.Grammar.{read}
use Rattle.apcu_model.specs.declared.searching.Pattern.{Pattern}

-- Bytes are searched, which need not be UTF-8; if `fold` is true, letters match in either case.
abbrev pub config_of : Bool → Config
config_of fold = record default_config {
  flags = record (default_config.flags) { case_insensitive = fold };
  utf8 = false;
}

-- what the grammar parses in a text, if that is UTF-8 and nests no deeper than allowed
abbrev pub pattern_in : Bool → List ℕ → Option Re
pattern_in fold text =
    if is_utf8 text
    then option_and_then
    (λ p. if nat_le p.0.depth (config_of fold).nest_limit then Some p.0.value else None)
    (read (config_of fold) (chars text))
    else None

-- the pattern has a match in the bytes
abbrev pub finds : Bool → List ℕ → List ℕ → Bool
finds fold text bytes =
    option_map_or (λ re. is_some (find re bytes 0)) (pattern_in fold text) false

-- the pattern matches the key; if there is none, each key matches
abbrev pub key_matches : Option Pattern → List ℕ → Bool
key_matches wanted key = option_map_or (λ p. finds p.fold p.text key) wanted true

-- the text is UTF-8, and the grammar parses it within its limit on nesting
abbrev pub is_pattern : Bool → List ℕ → Bool
is_pattern fold text = is_some (pattern_in fold text)

-- a search for the expression finds something in exactly the keys that the pattern matches
abbrev pub FindsAs : Bool → List ℕ → Re → Type 0
FindsAs fold text re =
    (key : List ℕ) → ((k : ℕ) → slice_index_or key k 0 < 256)
    → is_some (find re key 0) ≡ finds fold text key
