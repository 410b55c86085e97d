-- A pool's name in braces is a text of ASCII, and so is what it is searched for by, which is short.
use Rattle.std.proofs.Common.{◌≡◌, ℕ, zero, suc, ◌*◌, ◌≤◌, ◌&&◌, Bool, true, false, if◌then◌else◌, List, [], ◌∷◌, ◌++◌, length, refl, sym, ap, ◌∙◌, subst, arith, IsUtf8, IsAscii, chars, encode_utf8_all}
use Rattle.std.specs.Prelude.{nat_le, nat_lt}
use Rattle.std.specs.List.{list_all}
use Rattle.std.proofs.lemmas.Bool.{and_parts, and_from, ltb-true, lt-ltb, leb-true}
use Rattle.std.proofs.lemmas.Bool.Decides.{nat_tests}
use Rattle.std.proofs.lemmas.List.{length-append}
use Rattle.std.proofs.lemmas.Str.{chars_from_encodes, IsUtf8-from_ascii, encodes-IsAscii}
use Rattle.regex_syntax.specs.Verdict.{is_meta, escaped_text}
use Rattle.simple_pool.specs.Names.{is_name_byte, is_good_name, braced, escaped}

abbrev pub is_small : ℕ → Bool
is_small b = nat_lt b 128

small-append : (xs ys : List ℕ) → list_all is_small xs ≡ true → list_all is_small ys ≡ true → list_all is_small (xs ++ ys) ≡ true
small-append [] ys h k = k
small-append (x ∷ xs) ys h k =
    let parts = and_parts (is_small x) (list_all is_small xs) h in
    and_from (is_small x) (list_all is_small (xs ++ ys)) parts.0 (small-append xs ys parts.1 k)

pub ascii_from : (xs : List ℕ) → list_all is_small xs ≡ true → IsAscii xs
ascii_from [] h i = omega arith
ascii_from (x ∷ xs) h zero = ltb-true x 128 (and_parts (is_small x) (list_all is_small xs) h).0
ascii_from (x ∷ xs) h (suc i) = ascii_from xs (and_parts (is_small x) (list_all is_small xs) h).1 i

small_escaped : (cs : List ℕ) → list_all is_small cs ≡ true → list_all is_small (escaped_text cs) ≡ true
small_escaped [] h = refl
small_escaped (c ∷ cs) h =
    let parts = and_parts (is_small c) (list_all is_small cs) h in
    small-append (if is_meta c then 0x5C ∷ c ∷ [] else c ∷ []) (escaped_text cs) (one (is_meta c) parts.0) (small_escaped cs parts.1)
  where
    one : (b : Bool) → is_small c ≡ true → list_all is_small (if b then 0x5C ∷ c ∷ [] else c ∷ []) ≡ true
    one true s = and_from (is_small c) true s refl
    one false s = and_from (is_small c) true s refl

escaped_len : (cs : List ℕ) → length (escaped_text cs) ≤ 2 * length cs
escaped_len [] = omega arith
escaped_len (c ∷ cs) =
    let first = if is_meta c then 0x5C ∷ c ∷ [] else c ∷ [] in
    omega (arith, length-append first (escaped_text cs), one (is_meta c), escaped_len cs)
  where
    one : (b : Bool) → length (if b then 0x5C ∷ c ∷ [] else c ∷ []) ≤ 2
    one true = omega arith
    one false = omega arith

-- the text as it stands, with what is escaped
pub escaped_is : (text : List ℕ) → list_all is_small text ≡ true → escaped text ≡ escaped_text text
escaped_is text ascii =
    let ok = ascii_from text ascii in
    let plain : chars text ≡ text = sym (chars_from_encodes text text (IsUtf8-from_ascii text ok) (encodes-IsAscii text ok)) in
    ap (λ cs. encode_utf8_all (escaped_text cs)) plain ∙ encodes-IsAscii (escaped_text text) (ascii_from (escaped_text text) (small_escaped text ascii))

pub escaped_ascii : (text : List ℕ) → list_all is_small text ≡ true → IsAscii (escaped text)
escaped_ascii text ascii = subst IsAscii (sym (escaped_is text ascii)) (ascii_from (escaped_text text) (small_escaped text ascii))

name_byte_least : (b : ℕ) → is_name_byte b ≡ true → b ≤ 122
name_byte_least b h = grind (arith, nat_tests)

small_name : (name : List ℕ) → list_all is_name_byte name ≡ true → list_all is_small (name ++ 125 ∷ []) ≡ true
small_name [] h = refl
small_name (x ∷ xs) h =
    let parts = and_parts (is_name_byte x) (list_all is_name_byte xs) h in
    let least = name_byte_least x parts.0 in
    and_from (is_small x) (list_all is_small (xs ++ 125 ∷ [])) (lt-ltb x 128 (omega (arith, least))) (small_name xs parts.1)

record Named (name : List ℕ) : Type 0 where
  few : length name ≤ 64
  bytes : list_all is_name_byte name ≡ true

named : (name : List ℕ) → is_good_name name ≡ true → Named name
named name good =
    let rest = (and_parts (nat_le 1 (length name)) (nat_le (length name) 64 && list_all is_name_byte name) good).1 in
    let parts = and_parts (nat_le (length name) 64) (list_all is_name_byte name) rest in
    record { few = leb-true (length name) 64 parts.0; bytes = parts.1 }

pub small_braced : (name : List ℕ) → is_good_name name ≡ true → list_all is_small (braced name) ≡ true
small_braced name good = and_from (is_small 123) (list_all is_small (name ++ 125 ∷ [])) refl (small_name name (named name good).bytes)

pub utf8_braced : (name : List ℕ) → is_good_name name ≡ true → IsUtf8 (braced name)
utf8_braced name good = IsUtf8-from_ascii (braced name) (ascii_from (braced name) (small_braced name good))

pub short_escaped : (name : List ℕ) → is_good_name name ≡ true → length (escaped (braced name)) ≤ 132
short_escaped name good =
    let n = named name good in
    let is : length (escaped (braced name)) ≡ length (escaped_text (braced name)) = ap length (escaped_is (braced name) (small_braced name good)) in
    omega (arith, is, escaped_len (braced name), length-append name (125 ∷ []), n.few)
