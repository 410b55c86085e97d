-- Why there is no search for a pattern.
use Rattle.std.specs.Prelude.{◌≡◌, ℕ, Bool, false, List, Option, Some, None}
use Rattle.apcu_model.specs.declared.searching.Pattern.{Pattern}
use Rattle.apcu_model.specs.PatternMatches.{is_pattern}

-- the text is no pattern: it is not UTF-8, or the grammar does not parse it within its limit
abbrev pub IsNoPattern : Bool → List ℕ → Type 0
IsNoPattern fold text = is_pattern fold text ≡ false

-- there is a pattern, and its flag and its text satisfy this
abbrev pub OfPattern : (Bool → List ℕ → Type 0) → Option Pattern → Type 0
OfPattern P None = ⊥
OfPattern P (Some p) = P p.fold p.text
