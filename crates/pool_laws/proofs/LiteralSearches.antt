-- A text that is searched for as it stands is found exactly where it stands in the bytes.
use Rattle.std.proofs.Common.{◌≡◌, ℕ, zero, suc, ◌+◌, ◌-◌, ◌<◌, ◌≤◌, ◌||◌, Bool, true, false, cond, if◌then◌else◌, List, [], ◌∷◌, ◌++◌, length, drop, Option, Some, None, IsSomeAnd, option_map, is_some, refl, sym, ap, ap₂, ◌∙◌, subst, arith, All, IsUtf8, IsAscii, chars, encode_utf8_all}
use Rattle.std.specs.Prelude.{nat_le, nat_lt, nat_eq}
use Rattle.std.specs.List.{list_all, starts_with}
use Rattle.std.specs.Option.{option_or, option_map_or, option_and_then}
use Rattle.std.specs.Str.{is_utf8}
use Rattle.std.proofs.lemmas.Bool.{and_parts, and_from, ltb-true, leb-true, le-leb}
use Rattle.std.proofs.lemmas.List.{drop-drop}
use Rattle.std.proofs.lemmas.Str.{chars_from_encodes, IsUtf8-from_ascii, encodes-IsAscii, is_utf8-from_IsUtf8}
use Rattle.regex_hir.specs.Re.{Re, Rest, Trace, literal, attempt, accept}
use Rattle.regex_hir.specs.Find.{Match, find, first_from}
use Rattle.regex_hir.specs.Text.{has_bytes_at}
use Rattle.regex_syntax.specs.Brackets.{Nested}
use Rattle.regex_syntax.specs.Captures.{SameCaptures}
use Rattle.regex_syntax.specs.Grammar.{Names, read}
use Rattle.regex_syntax.specs.Verdict.{is_meta, escaped_text, ReadsAsText}
use Rattle.regex_syntax.proofs.CapturesLemmas.{find_alike, spans}
use Rattle.regex_syntax.proofs.EscapeLemmas.{escaped_reads}
use Rattle.regex_syntax.proofs.Written.{is_some-option_map}
use Rattle.apcu_model.specs.PatternMatches.{config_of, finds}
use Rattle.simple_pool.specs.Names.{escaped}
use Rattle.pool_laws.specs.PoolKeys.{holds_text}
use Rattle.pool_laws.specs.Pools.{are_bytes}

-- ---- texts of ASCII

abbrev pub is_small : ℕ → Bool
is_small b = nat_lt b 128

small-append : (xs ys : List ℕ) → list_all is_small xs ≡ true → list_all is_small ys ≡ true → list_all is_small (xs ++ ys) ≡ true
small-append [] ys h k = k
small-append (x ∷ xs) ys h k =
    let parts = and_parts (is_small x) (list_all is_small xs) h in
    and_from (is_small x) (list_all is_small (xs ++ ys)) parts.0 (small-append xs ys parts.1 k)

ascii_from : (xs : List ℕ) → list_all is_small xs ≡ true → IsAscii xs
ascii_from [] h i = omega arith
ascii_from (x ∷ xs) h zero = ltb-true x 128 (and_parts (is_small x) (list_all is_small xs) h).0
ascii_from (x ∷ xs) h (suc i) = ascii_from xs (and_parts (is_small x) (list_all is_small xs) h).1 i

small_escaped : (cs : List ℕ) → list_all is_small cs ≡ true → list_all is_small (escaped_text cs) ≡ true
small_escaped [] h = refl
small_escaped (c ∷ cs) h =
    let parts = and_parts (is_small c) (list_all is_small cs) h in
    small-append (if is_meta c then 0x5C ∷ c ∷ [] else c ∷ []) (escaped_text cs) (one (is_meta c) parts.0) (small_escaped cs parts.1)
  where
    one : (b : Bool) → is_small c ≡ true → list_all is_small (if b then 0x5C ∷ c ∷ [] else c ∷ []) ≡ true
    one true s = and_from (is_small c) true s refl
    one false s = and_from (is_small c) true s refl

-- ---- a literal is found where it stands

abbrev is_some_match : Option Match → Bool
is_some_match o = is_some o

some_or : (i : ℕ) (o : Option Trace) (later : Option Match) → is_some (option_or (option_map (λ t. record { start = i; trace = t }) o) later) ≡ (is_some o || is_some later)
some_or i None later = refl
some_or i (Some t) later = refl

some_if : (b : Bool) (t : Trace) → is_some (cond b (Some t) None) ≡ b
some_if true t = refl
some_if false t = refl

-- over the places from i on, of which this many are left
places : (at : Rest) (text hay : List ℕ) → ((i : ℕ) → is_some (at i) ≡ starts_with nat_eq (drop i hay) text) → (bytes : List ℕ) (n i : ℕ) → n ≡ length bytes + 1 → drop i hay ≡ bytes
    → is_some (first_from at n i) ≡ holds_text text bytes
unfolding first_from
places at text hay h [] zero i few rest = absurd (omega (arith, few))
places at text hay h [] (suc zero) i few rest =
    some_or i (at i) None ∙ ap (λ b. b || false) (h i ∙ ap (λ t. starts_with nat_eq t text) rest) ∙ or_false (starts_with nat_eq [] text)
  where
    or_false : (b : Bool) → (b || false) ≡ b
    or_false true = refl
    or_false false = refl
places at text hay h [] (suc (suc n)) i few rest = absurd (omega (arith, few))
places at text hay h (b ∷ bytes) zero i few rest = absurd (omega (arith, few))
places at text hay h (b ∷ bytes) (suc n) i few rest =
    some_or i (at i) (first_from at n (i + 1))
    ∙ ap₂ ◌||◌ (h i ∙ ap (λ t. starts_with nat_eq t text) rest)
    (places at text hay h bytes n (i + 1) (omega (arith, few)) (sym (drop-drop 1 i hay) ∙ ap (drop 1) rest))

literal_found : (text hay : List ℕ) → is_some (find (literal text) hay 0) ≡ holds_text text hay
unfolding find attempt has_bytes_at
literal_found text hay =
    places (attempt hay (literal text) accept) text hay (λ i. some_if (starts_with nat_eq (drop i hay) text) (record { end = i + length text; writes = [] }))
    hay (length hay + 1 - 0) 0 (omega arith) refl

-- ---- a text as it stands

as_literal : (text hay : List ℕ) (re : Re) → SameCaptures re (literal text) → All (λ x. x < 256) hay → is_some (find re hay 0) ≡ holds_text text hay
as_literal text hay re same small =
    sym (is_some-option_map spans (find re hay 0))
    ∙ (ap is_some (find_alike re (literal text) same hay small 0)
    ∙ (is_some-option_map spans (find (literal text) hay 0) ∙ literal_found text hay))

small_bytes : (hay : List ℕ) → are_bytes hay ≡ true → All (λ x. x < 256) hay
small_bytes [] all k d l = absurd (omega (arith, l))
small_bytes (x ∷ xs) all zero d l = let h = leb-true x 255 (and_parts (nat_le x 255) (are_bytes xs) all).0 in omega (arith, h)
small_bytes (x ∷ xs) all (suc k) d l = small_bytes xs (and_parts (nat_le x 255) (are_bytes xs) all).1 k d (omega (arith, l))

-- what the grammar reads in the pattern is the text itself
read_in : (text hay : List ℕ) (o : Option (Nested Re × Names)) → IsSomeAnd o (λ (re, names). (re.depth ≤ 1) × SameCaptures re.value (literal text) × (names ≡ None ∷ []))
    → All (λ x. x < 256) hay → (limit : ℕ) → 1 ≤ limit
    → option_map_or (λ re. is_some (find re hay 0)) (option_and_then (λ (p : Nested Re × Names). if nat_le p.0.depth limit then Some p.0.value else None) o) false ≡ holds_text text hay
read_in text hay None h small limit some = absurd h
read_in text hay (Some p) h small limit some =
    let shallow : nat_le p.0.depth limit ≡ true = le-leb p.0.depth limit (omega (arith, h.0, some)) in
    rw shallow (as_literal text hay p.0.value h.1 small)

pub finds_text : (text hay : List ℕ) → list_all is_small text ≡ true → are_bytes hay ≡ true → finds false (escaped text) hay ≡ holds_text text hay
unfolding ReadsAsText
finds_text text hay ascii bytes =
    let utf8 = IsUtf8-from_ascii text (ascii_from text ascii) in
    let plain : chars text ≡ text = chars_of_ascii in
    let out : escaped text ≡ escaped_text text = ap (λ cs. encode_utf8_all (escaped_text cs)) plain ∙ encodes-IsAscii (escaped_text text) (ascii_from (escaped_text text) (small_escaped text ascii)) in
    let is : is_utf8 (escaped text) ≡ true = is_utf8-from_IsUtf8 (escaped text) (subst IsUtf8 (sym out) (IsUtf8-from_ascii (escaped_text text) (ascii_from (escaped_text text) (small_escaped text ascii)))) in
    let reads = escaped_reads text utf8 (config_of false) refl refl in
    rw is (read_in text hay (read (config_of false) (chars (escaped text))) reads (small_bytes hay bytes) 250 (omega arith))
  where
    chars_of_ascii : chars text ≡ text
    chars_of_ascii =
        let back = encodes-IsAscii text (ascii_from text ascii) in
        sym (chars_from_encodes text text (IsUtf8-from_ascii text (ascii_from text ascii)) back)
