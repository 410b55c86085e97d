-- Which rows are chosen, and whether their values are asked for.
use Rattle.std.proofs.Common.{◌≡◌, ◌∙◌, ℕ, ◌*◌, ◌==◌, ◌&&◌, true, false, List, Bool, not, bit_and}
use Rattle.std.proofs.Common.{refl, sym, ap, arith}
use Rattle.std.specs.Prelude.{Option, Some, None, is_some}
use Rattle.std.specs.Int.{bit_at}
use Rattle.std.proofs.lemmas.Bool.{eq-eqb, ne_eqb, false≢true}
use Rattle.std.proofs.lemmas.Nat.Bits.{and_pow, bit_at-lt}
use Rattle.apcu_model.specs.Cache.{Row}
use Rattle.apcu_model.specs.declared.searching.Pattern.{Pattern}
use Rattle.apcu_model.specs.PatternMatches.{key_matches}
use Rattle.row_search.specs.Choices.{Choice, is_left_out, is_chosen}

-- ---- which rows are chosen

pub left_out : (choice : Choice) (row : Row) → is_left_out choice row ≡ true
    → is_chosen choice row ≡ false
left_out choice row out = ap (λ (b : Bool). not b && key_matches choice.pattern row.key) out

pub by_key : (choice : Choice) (row : Row) (key : List ℕ) (found : Bool)
    → is_left_out choice row ≡ false → key ≡ row.key → found ≡ key_matches choice.pattern key
    → is_chosen choice row ≡ found
by_key choice row key found stays same matches =
    ap (λ (b : Bool). not b && key_matches choice.pattern row.key) stays
    ∙ sym (matches ∙ ap (key_matches choice.pattern) same)

matches_all : (pattern : Option Pattern) (key : List ℕ) → is_some pattern ≡ false
    → key_matches pattern key ≡ true
matches_all None key none = refl
matches_all (Some p) key none = absurd (false≢true (sym none))

pub by_none : (choice : Choice) (row : Row) → is_left_out choice row ≡ false
    → is_some choice.pattern ≡ false → is_chosen choice row ≡ true
by_none choice row stays none =
    ap (λ (b : Bool). not b && key_matches choice.pattern row.key) stays
    ∙ matches_all choice.pattern row.key none

-- ---- the bit that asks for the value

pub value_told : (n : ℕ) → ¬ bit_and n 2 ≡ 0 → (bit_at n 1 == 1) ≡ true
value_told n some =
    let bit : bit_and n 2 ≡ bit_at n 1 * 2 = and_pow n 1 in
    eq-eqb (bit_at n 1) 1 (omega (arith, bit, some, bit_at-lt n 1))

pub value_left : (n : ℕ) → bit_and n 2 ≡ 0 → (bit_at n 1 == 1) ≡ false
value_left n none =
    let bit : bit_and n 2 ≡ bit_at n 1 * 2 = and_pow n 1 in
    ne_eqb (bit_at n 1) 1 (λ e. omega (arith, bit, none, e))
