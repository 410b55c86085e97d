-- Which keys a pool's name in braces stands in.
use Rattle.std.proofs.Common.{◌≡◌, ℕ, ◌<◌, ◌≤◌, ◌&&◌, ◌||◌, ◌==◌, Bool, true, false, not, List, [], ◌∷◌, ◌++◌, length, drop, Option, Some, None, append_assoc, refl, sym, ap, ap₂, ◌∙◌, subst, inl, inr, arith}
use Rattle.std.specs.Prelude.{nat_le, nat_eq}
use Rattle.std.specs.List.{list_all, starts_with}
use Rattle.std.specs.Str.{bytes_eq}
use Rattle.std.proofs.lemmas.Bool.{and_parts, and_from, or_left, or_cases, or_parts, false≢true, lt-ltb, ne_eqb, eq-eqb, not-true, not_from_false}
use Rattle.std.proofs.lemmas.Bool.Decides.{nat_tests, Decides-eqb}
use Rattle.std.proofs.lemmas.Slice.Eq.{starts_is, bytes_eq-Decides}
use Rattle.apcu_model.specs.declared.searching.Pattern.{Pattern}
use Rattle.apcu_model.specs.PatternMatches.{key_matches, finds}
use Rattle.simple_pool.specs.Names.{is_name_byte, is_good_name, is_reserved, is_good_key, braced, escaped}
use Rattle.pool_laws.specs.PoolKeys.{is_key_of, holds_text, is_pattern_of}
use Rattle.pool_laws.specs.Pools.{are_bytes}
use Rattle.pool_laws.proofs.LiteralSearches.{is_small, finds_text}

-- ---- a name's bytes

name_byte_least : (b : ℕ) → is_name_byte b ≡ true → b ≤ 122
name_byte_least b h = grind (arith, nat_tests)

-- the byte does not stand in the text
abbrev pub lacks : ℕ → List ℕ → Bool
lacks b text = list_all (λ x. not (x == b)) text

pub name_lacks : (b : ℕ) (name : List ℕ) → 122 < b → list_all is_name_byte name ≡ true → lacks b name ≡ true
name_lacks b [] past h = refl
name_lacks b (x ∷ xs) past h =
    let parts = and_parts (is_name_byte x) (list_all is_name_byte xs) h in
    let least = name_byte_least x parts.0 in
    and_from (not (x == b)) (lacks b xs) (not_from_false (x == b) (ne_eqb x b (λ e. omega (arith, past, least, e)))) (name_lacks b xs past parts.1)

small_name : (name : List ℕ) → list_all is_name_byte name ≡ true → list_all is_small (name ++ 125 ∷ []) ≡ true
small_name [] h = refl
small_name (x ∷ xs) h =
    let parts = and_parts (is_name_byte x) (list_all is_name_byte xs) h in
    let least = name_byte_least x parts.0 in
    and_from (is_small x) (list_all is_small (xs ++ 125 ∷ [])) (lt-ltb x 128 (omega (arith, least))) (small_name xs parts.1)

pub name_bytes : (name : List ℕ) → is_good_name name ≡ true → list_all is_name_byte name ≡ true
name_bytes name good = (and_parts (nat_le (length name) 64) (list_all is_name_byte name) (and_parts (nat_le 1 (length name)) (nat_le (length name) 64 && list_all is_name_byte name) good).1).1

pub small_braced : (name : List ℕ) → is_good_name name ≡ true → list_all is_small (braced name) ≡ true
small_braced name good = and_from (is_small 123) (list_all is_small (name ++ 125 ∷ [])) refl (small_name name (name_bytes name good))

-- ---- where a text stands

pub starts_holds : (text key : List ℕ) → starts_with nat_eq key text ≡ true → holds_text text key ≡ true
starts_holds text [] h = h
starts_holds text (b ∷ bytes) h = or_left (starts_with nat_eq (b ∷ bytes) text) (holds_text text bytes) h

-- the name in braces stands in each of the pool's keys
pub key_holds : (name key : List ℕ) → is_key_of name key ≡ true → holds_text (braced name) key ≡ true
key_holds name key own = starts_holds (braced name) key (and_parts (starts_with nat_eq key (braced name)) (is_good_key (drop (length (braced name)) key)) own).0

-- a text does not stand where its first byte does not
pub lacks_holds : (b : ℕ) (text bytes : List ℕ) → lacks b bytes ≡ true → holds_text (b ∷ text) bytes ≡ false
lacks_holds b text [] h = refl
lacks_holds b text (x ∷ xs) h =
    let parts = and_parts (not (x == b)) (lacks b xs) h in
    let first : (b == x) ≡ false = ne_eqb b x (λ e. false≢true (sym (not-true (x == b) parts.0) ∙ eq-eqb x b (sym e))) in
    rw first (lacks_holds b text xs parts.1)

lacks-append : (b : ℕ) (xs ys : List ℕ) → lacks b xs ≡ true → lacks b ys ≡ true → lacks b (xs ++ ys) ≡ true
lacks-append b [] ys h k = k
lacks-append b (x ∷ xs) ys h k =
    let parts = and_parts (not (x == b)) (lacks b xs) h in
    and_from (not (x == b)) (lacks b (xs ++ ys)) parts.0 (lacks-append b xs ys parts.1 k)

-- names up to a brace that stands in none of them
same_names : (name other rest later : List ℕ) → lacks 125 name ≡ true → lacks 125 other ≡ true → name ++ 125 ∷ rest ≡ other ++ 125 ∷ later → name ≡ other
same_names [] [] rest later h k e = refl
same_names [] (y ∷ ys) rest later h k e =
    let head : 125 ≡ y = cc in
    absurd (false≢true (sym (not-true (y == 125) (and_parts (not (y == 125)) (lacks 125 ys) k).0) ∙ eq-eqb y 125 (sym head)))
same_names (x ∷ xs) [] rest later h k e =
    let head : x ≡ 125 = cc in
    absurd (false≢true (sym (not-true (x == 125) (and_parts (not (x == 125)) (lacks 125 xs) h).0) ∙ eq-eqb x 125 head))
same_names (x ∷ xs) (y ∷ ys) rest later h k e =
    let head : x ≡ y = cc in
    let tail : xs ++ 125 ∷ rest ≡ ys ++ 125 ∷ later = cc in
    ap₂ ◌∷◌ head (same_names xs ys rest later (and_parts (not (x == 125)) (lacks 125 xs) h).1 (and_parts (not (y == 125)) (lacks 125 ys) k).1 tail)

-- a key of a pool, in its parts
record Parts (name key : List ℕ) : Type 0 where
  rest : List ℕ
  is : key ≡ 123 ∷ (name ++ 125 ∷ rest)
  lacks_open : lacks 123 rest ≡ true

good_lacks : (key : List ℕ) → list_all (λ b. not (is_reserved b)) key ≡ true → lacks 123 key ≡ true
good_lacks [] h = refl
good_lacks (x ∷ xs) h =
    let parts = and_parts (not (is_reserved x)) (list_all (λ b. not (is_reserved b)) xs) h in
    let first = (or_parts (x == 123) (x == 125 || (x == 40 || (x == 41 || (x == 47 || (x == 92 || (x == 64 || x == 58)))))) (not-true (is_reserved x) parts.0)).0 in
    and_from (not (x == 123)) (lacks 123 xs) (not_from_false (x == 123) first) (good_lacks xs parts.1)

parts_of : (name key : List ℕ) → is_key_of name key ≡ true → Parts name key
parts_of name key own =
    let both = and_parts (starts_with nat_eq key (braced name)) (is_good_key (drop (length (braced name)) key)) own in
    let rest = drop (length (braced name)) key in
    let splits = (starts_is Decides-eqb key (braced name) (starts_with nat_eq key (braced name)) refl).0 both.0 in
    let good = and_parts (nat_le (length rest) 4294967229) (list_all (λ b. not (is_reserved b)) rest) (and_parts (nat_le 1 (length rest)) (nat_le (length rest) 4294967229 && list_all (λ b. not (is_reserved b)) rest) both.1).1 in
    record {
      rest = rest;
      is = splits ∙ ap (λ (l : List ℕ). 123 ∷ l) (append_assoc name (125 ∷ []) rest);
      lacks_open = good_lacks rest good.1;
    }

-- no other pool's name in braces stands in it
pub names_apart : (name other key : List ℕ) → is_good_name name ≡ true → is_good_name other ≡ true → is_key_of name key ≡ true → holds_text (braced other) key ≡ true → name ≡ other
names_apart name other key good fine own holds =
    let p = parts_of name key own in
    let tail = name ++ 125 ∷ p.rest in
    let behind : lacks 123 tail ≡ true = lacks-append 123 name (125 ∷ p.rest) (name_lacks 123 name (omega arith) (name_bytes name good)) (and_from (not (125 == 123)) (lacks 123 p.rest) refl p.lacks_open) in
    let there : holds_text (braced other) (123 ∷ tail) ≡ true = subst (λ k. holds_text (braced other) k ≡ true) p.is holds in
    elim (or_cases (starts_with nat_eq (123 ∷ tail) (braced other)) (holds_text (braced other) tail) there) [
      | inl first ↦
          let splits : 123 ∷ tail ≡ braced other ++ drop (length (braced other)) (123 ∷ tail) = (starts_is Decides-eqb (123 ∷ tail) (braced other) (starts_with nat_eq (123 ∷ tail) (braced other)) refl).0 first in
          let rest = drop (length (braced other)) (123 ∷ tail) in
          let whole : 123 ∷ tail ≡ 123 ∷ (other ++ 125 ∷ rest) = splits ∙ ap (λ (l : List ℕ). 123 ∷ l) (append_assoc other (125 ∷ []) rest) in
          let same : tail ≡ other ++ 125 ∷ rest = cc in
          same_names name other p.rest rest (name_lacks 125 name (omega arith) (name_bytes name good)) (name_lacks 125 other (omega arith) (name_bytes other fine)) same
      | inr later ↦ absurd (false≢true (sym (lacks_holds 123 (other ++ 125 ∷ []) tail behind) ∙ later))
    ]

-- a pool's pattern matches the keys in which its name stands in braces
pub pattern_matches : (name : List ℕ) (wanted : Option Pattern) (key : List ℕ) → is_good_name name ≡ true → is_pattern_of name wanted ≡ true → are_bytes key ≡ true
    → key_matches wanted key ≡ holds_text (braced name) key
pattern_matches name None key good is bytes = absurd (false≢true is)
pattern_matches name (Some p) key good is bytes =
    let parts = and_parts (not p.fold) (bytes_eq p.text (escaped (braced name))) is in
    let text : p.text ≡ escaped (braced name) = (bytes_eq-Decides p.text (escaped (braced name))).0 parts.1 in
    ap (λ fold. finds fold p.text key) (not-true p.fold parts.0)
    ∙ (ap (λ text. finds false text key) text ∙ finds_text (braced name) key (small_braced name good) bytes)
