-- What `regex` says of a text, in the words of the model.
use Rattle.std.proofs.Common.{◌≡◌, ◌≢◌, ◌⊎◌, ◌∙◌, ◌<◌, ◌≤◌, ℕ, Bool, true, false, cond, List, Option, Some, None, IfSome, IsSomeAnd, refl, sym, ap, is_some, IsUtf8, length, subst, inl, inr}
use Rattle.std.specs.Prelude.{nat_le, option_and_then, chars}
use Rattle.std.specs.Option.{option_map_or}
use Rattle.std.specs.Str.{is_utf8}
use Rattle.std.proofs.lemmas.Str.{IsUtf8-from_is_utf8, is_utf8-from_IsUtf8, IsUtf8-string_bytes}
use Rattle.std.proofs.lemmas.Bool.{cond-true, cond-false, le-leb, lt-leb}
use Rattle.regex.specs.Patterns.{Config, Re, Reads, Refuses, SameCaptures, find}
use Rattle.regex.specs.Bytes.{regex_pattern, regex_source, regex_config, IsReadFromSource}
use Rattle.regex.specs.declared.bytes.regex.Regex.{Regex}
use Rattle.regex.proofs.ForCallers.{is_match_alike}
use Rattle.regex_syntax.specs.Grammar.{Names, read}
use Rattle.regex_syntax.specs.Brackets.{Nested}
use Rattle.regex_syntax.specs.declared.error.ErrorKind.{ErrorKind}
use Rattle.regex_syntax.specs.declared.error.ErrorKind.TheVariants.{OutOfMemory, NestLimitExceeded}
use Rattle.regex.specs.Failures as failures
use Rattle.apcu_model.specs.PatternMatches.{FindsAs, is_pattern, config_of, pattern_in}

-- compiled from the text, under the options of the flag
pub record IsRegexOf (fold : Bool) (text : List ℕ) (r : Regex) : Type 0 where
  pub source : regex_source r ≡ text
  pub config : regex_config r ≡ config_of fold
  pub read : IsReadFromSource r

pub none_of_bytes : (fold : Bool) (text : List ℕ) → ¬ (IsUtf8 text) → pattern_in fold text ≡ None
none_of_bytes fold text never = go (is_utf8 text) refl
  where
    go : (b : Bool) → is_utf8 text ≡ b → pattern_in fold text ≡ None
    go true e = absurd (never (IsUtf8-from_is_utf8 text e))
    go false e = cond-false _ _ None e

refused_at : (most : ℕ) (kind : ErrorKind) (o : Option (Nested Re × Names)) →
    (kind ≡ OutOfMemory) ⊎ ((o ≡ None) ⊎ ((kind ≡ NestLimitExceeded) × IfSome o (λ (re, _). most < re.depth))) → kind ≢ OutOfMemory →
    option_and_then (λ (p : Nested Re × Names). cond (nat_le p.0.depth most) (Some p.0.value) None) o ≡ None
refused_at most kind o (inl memory) never = absurd (never memory)
refused_at most kind o (inr (inl none)) never = rw none refl
refused_at most kind None (inr (inr deep)) never = refl
refused_at most kind (Some p) (inr (inr deep)) never = cond-false _ _ None (lt-leb _ _ deep.1)

pub none_of_refusal : (fold : Bool) (text : List ℕ) (kind : ErrorKind) → Refuses (config_of fold) text kind → kind ≢ OutOfMemory →
    pattern_in fold text ≡ None
unfolding Refuses
none_of_refusal fold text kind h never =
    let none = refused_at _ kind (read (config_of fold) (chars text)) h never in
    go (is_utf8 text) none
  where
    go : (b : Bool) {x : Option Re} → x ≡ None → cond b x None ≡ None
    go true e = e
    go false e = refl

read_at : (most : ℕ) (a : Re) (o : Option (Nested Re × Names)) (names : Names) (count : ℕ) →
    IsSomeAnd o (λ (re, found). (re.depth ≤ most) × SameCaptures a re.value × (names ≡ found) × (count ≤ length names)) →
    (re : Re) × (option_and_then (λ (p : Nested Re × Names). cond (nat_le p.0.depth most) (Some p.0.value) None) o ≡ Some re) × SameCaptures a re
read_at most a None names count h = absurd h
read_at most a (Some p) names count h = (p.0.value, cond-true _ _ None (le-leb _ _ h.0), h.1)

-- what the grammar reads in the text of a regex, and what the regex searches for, match alike
read_by : (fold : Bool) (text : List ℕ) (r : Regex) → IsRegexOf fold text r → (re : Re) × (pattern_in fold text ≡ Some re) × SameCaptures (regex_pattern r) re
unfolding Reads
read_by fold text r is =
    let utf8 : is_utf8 text ≡ true = rw (← is.source) (is_utf8-from_IsUtf8 _ (IsUtf8-string_bytes r.pattern.source)) in
    let got = read_at _ (regex_pattern r) _ _ _ is.read in
    let config = subst (λ (c : Config). option_and_then (λ (p : Nested Re × Names). cond (nat_le p.0.depth c.nest_limit) (Some p.0.value) None) (read c (chars (regex_source r))) ≡ Some got.0) is.config got.1 in
    let there = subst (λ (w : List ℕ). option_and_then (λ (p : Nested Re × Names). cond (nat_le p.0.depth 250) (Some p.0.value) None) (read (config_of fold) (chars w)) ≡ Some got.0) is.source config in
    (got.0, cond-true _ _ None utf8 ∙ there, got.2)

pub good_text : (fold : Bool) (text : List ℕ) (r : Regex) → IsRegexOf fold text r → is_pattern fold text ≡ true
good_text fold text r is = ap is_some (read_by fold text r is).1

-- a regex of the text finds a match exactly in the keys that the pattern finds
pub finds_as : (fold : Bool) (text : List ℕ) (r : Regex) → IsRegexOf fold text r → FindsAs fold text (regex_pattern r)
finds_as fold text r is key bytes =
    let got = read_by fold text r is in
    is_match_alike got.2 key bytes false 0 ∙ ap (λ (o : Option Re). option_map_or (λ re. is_some (find re key 0)) o false) (sym got.1)

-- a text that `regex` calls a pattern is one
pub pattern_of : (fold : Bool) (text : List ℕ) → IsUtf8 text → failures.IsPattern (config_of fold) text → is_pattern fold text ≡ true
unfolding Reads
pattern_of fold text utf8 h =
    let got = read_at _ _ _ _ _ h.2 in
    rw (is_utf8-from_IsUtf8 text utf8, got.1) refl
