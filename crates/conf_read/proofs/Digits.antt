-- What `parse` reads of a number.
use Rattle.std.proofs.Common.{◌≡◌, ◌≢◌, ◌∙◌, ℕ, ◌<◌, ◌≤◌, ◌^◌, ◌&&◌, Bool, true, false, cond, List, length, Option, Some, None, Result, Ok, Err, refl, sym, ap, subst, arith, slice_index, nat_le, nat_lt, IsUtf8, inl, inr}
use Rattle.std.specs.Result.{result_ok}
use Rattle.std.specs.Option.{option_and_then}
use Rattle.std.specs.Str.{IsAscii, all_ascii_digits}
use Rattle.std.specs.Str.Parse.{ParsesUnsigned, digits_value}
use Rattle.std.proofs.lemmas.Bool.{cases_lt, lt-ltb, le-leb, leb-true, ltb-true}
use Rattle.std.proofs.lemmas.Grind.{common_steps}
use Rattle.std.proofs.lemmas.Str.{IsUtf8-from_ascii}
use Rattle.std.proofs.lemmas.Str.Parse.{IsNumeralModel, digit_at, numerals_by_value, parse_plain, tells_all_ascii_digits}
use Rattle.conf_read.specs.Numbers.{is_number, number_in}

numerals : IsNumeralModel (λ ds. all_ascii_digits ds ≡ true) (digits_value 10)
numerals = numerals_by_value _ tells_all_ascii_digits

pub both : (a b : Bool) → (a && b) ≡ true → (a ≡ true) × (b ≡ true)
both true b h = (refl, h)
both false b h = cc

digits_of : (most : ℕ) (t : List ℕ) → is_number most t ≡ true → all_ascii_digits t ≡ true
digits_of most t e = (both (all_ascii_digits t) _ e).0

-- a text that is no number has none
pub unread : (most high : ℕ) (t : List ℕ) → (all_ascii_digits t ≡ true → 0 < length t → length t ≤ most → digits_value 10 t ≤ high → ⊥) → None ≡ number_in most high t
unread most high t never = go (is_number most t && nat_le (digits_value 10 t) high) refl
  where
    go : (b : Bool) → (is_number most t && nat_le (digits_value 10 t) high) ≡ b → None ≡ cond b (Some (digits_value 10 t)) None
    go false e = refl
    go true e =
        let p = both (is_number most t) _ e in
        let q = both (all_ascii_digits t) _ p.0 in
        let s = both (nat_lt 0 (length t)) _ q.1 in
        absurd (never q.0 (ltb-true _ _ s.0) (leb-true _ _ s.1) (leb-true _ _ p.1))

-- the number that is read, if it is not too large
abbrev up_to : ℕ → ℕ → Option ℕ
up_to high n = cond (nat_le n high) (Some n) None

parsed : {E : Type 0} (most high : ℕ) (t : List ℕ) (r : Result ℕ E) → high < 2 ^ 64 → 0 < length t → length t ≤ most → slice_index t 0 ≢ 43 →
    ParsesUnsigned 64 10 t r → number_in most high t ≡ option_and_then (up_to high) (result_ok r)
parsed {E} most high t (Ok v) fits some few plain h =
    let p = parse_plain numerals {E = E} 64 t (Ok v) h plain in
    rw (p.1, p.0.0, lt-ltb 0 (length t) some, le-leb (length t) most few) refl
parsed {E} most high t (Err e) fits some few plain h =
    let never = parse_plain numerals {E = E} 64 t (Err e) h plain in
    sym (unread most high t (λ all some' few' low. never (all, some, omega arith)))

-- what is read of the text that these bytes are
pub read_as : {E : Type 0} (most high : ℕ) (t u : List ℕ) (r : Result ℕ E) (o : Option ℕ) → t ≡ u → o ≡ result_ok r →
    high < 2 ^ 64 → 0 < length u → length u ≤ most → slice_index u 0 ≢ 43 → ParsesUnsigned 64 10 t r → number_in most high u ≡ option_and_then (up_to high) o
read_as {E} most high t u r o same is fits some few plain h =
    parsed most high u r fits some few plain (subst (λ x. ParsesUnsigned 64 10 x r) same h) ∙ ap (option_and_then (up_to high)) (sym is)

pub not_above : (high n : ℕ) → n ≤ high → up_to high n ≡ Some n
not_above high n low = rw (le-leb n high low) refl

ascii : (t : List ℕ) → all_ascii_digits t ≡ true → IsAscii t
ascii t all i = elim (cases_lt i (length t)) [
  | inl lt ↦ let d = digit_at t i (numerals.to t all) lt in omega arith
  | inr ge ↦ grind (arith, common_steps)
]

-- bytes that are no text are no number
pub no_text : (most high : ℕ) (t : List ℕ) → ¬ (IsUtf8 t) → None ≡ number_in most high t
no_text most high t never = unread most high t (λ all some few low. never (IsUtf8-from_ascii t (ascii t all)))
