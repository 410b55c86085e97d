-- Lines tell their marks.
use Rattle.std.proofs.Common.{◌≡◌, ℕ, zero, suc, ◌+◌, ◌*◌, ◌/◌, ◌%◌, ◌^◌, ◌<◌, ◌≤◌, Bool, true, false, cond, List, [], ◌∷◌, ◌++◌, Option, Some, None, refl, ap, ap₂, sym, ◌∙◌, subst, arith, append_assoc, pow_mono, pow_pos, mod-lt}
use Rattle.std.specs.Prelude.{◌==◌, ◌&&◌, ◌||◌, nat_lt, codes}
use Rattle.std.specs.Fmt.{decimal}
use Rattle.std.specs.Str.{bytes_eq}
use Rattle.std.proofs.lemmas.Fmt.{decimal_by_steps}
use Rattle.std.proofs.lemmas.Bool.{ltb-true, lt-ltb, eqb-true, eqb-false}
use Rattle.std.proofs.lemmas.Nat.{mod-pow-add}
use Rattle.std.proofs.lemmas.Bool.Decides.{nat_tests}
use Rattle.std.proofs.lemmas.Grind.{common_steps}
use Rattle.std.proofs.lemmas.Slice.Eq.{bytes_eq-Decides}
use Rattle.apcu_model.specs.declared.journal.Mark.{Mark}
use Rattle.apcu_model.specs.History.{is_in_mask}
use Rattle.reply_text.specs.Output.{mask_text, mark_line}
use Rattle.run_verify.specs.Verdicts.{digit_more, worker_more, number_more, numbers_from, if_spelled, mark_of_line}
use Rattle.run_verify.specs.OutputLines.{IsInBits}
use Rattle.run_verify.proofs.MaskTexts.{texts, picked}

-- ---- powers of two

pow_up : (w : ℕ) → 2 ^ (w + 1) ≡ 2 ^ w + 2 ^ w
pow_up w = grind (arith, common_steps)

-- ---- numbers

number_one : (n : ℕ) → n < 10 → (mark : Option Mark) (rest : List ℕ) → numbers_from 0 mark ((48 + n) ∷ rest) ≡ numbers_from n mark rest
number_one n low mark rest =
    let digit : digit_more 0 (48 + n) ≡ n = grind (arith, common_steps) in
    let plain : ((48 + n == 32) || (48 + n == 10)) ≡ false = grind (arith, nat_tests) in
    ap (λ (t : Bool). cond t (numbers_from 0 (number_more mark 0) rest) (numbers_from (digit_more 0 (48 + n)) mark rest)) plain ∙ ap (λ (k : ℕ). numbers_from k mark rest) digit

digit_next : (n : ℕ) → n < 64 → digit_more (n / 10) (48 + n % 10) ≡ n
digit_next n low = grind (arith, common_steps)

number_next : (n : ℕ) → n < 64 → (mark : Option Mark) (rest : List ℕ) → numbers_from (n / 10) mark ((48 + n % 10) ∷ rest) ≡ numbers_from n mark rest
number_next n low mark rest =
    let plain : ((48 + n % 10 == 32) || (48 + n % 10 == 10)) ≡ false = grind (arith, nat_tests) in
    ap (λ (t : Bool). cond t (numbers_from 0 (number_more mark (n / 10)) rest) (numbers_from (digit_more (n / 10) (48 + n % 10)) mark rest)) plain
    ∙ ap (λ (k : ℕ). numbers_from k mark rest) (digit_next n low)

-- a number below 64 is read
number_read : (n : ℕ) → n < 2 ^ 64 → n < 64 → (mark : Option Mark) (rest : List ℕ) → numbers_from 0 mark (decimal n ++ rest) ≡ numbers_from n mark rest
number_read = decimal_by_steps (λ n ds. n < 64 → (mark : Option Mark) (rest : List ℕ) → numbers_from 0 mark (ds ++ rest) ≡ numbers_from n mark rest)
    (λ n low small mark rest. number_one n low mark rest)
    (λ n ds large so_far small mark rest.
    ap (numbers_from 0 mark) (append_assoc ds ((48 + n % 10) ∷ []) rest)
    ∙ (so_far (omega (arith, small)) mark ((48 + n % 10) ∷ rest) ∙ number_next n small mark rest))

abbrev Low : List ℕ → Type 0
Low [] = Unit {0}
Low (w ∷ ws) = (w < 64) × Low ws

abbrev all_more : Option Mark → List ℕ → Option Mark
all_more mark [] = mark
all_more mark (w ∷ ws) = all_more (number_more mark w) ws

-- a number and those behind it are read
numbers_read : (w : ℕ) (ws : List ℕ) → w < 64 → Low ws → (mark : Option Mark) → numbers_from 0 mark (decimal w ++ (texts ws ++ 10 ∷ [])) ≡ all_more (number_more mark w) ws
numbers_read w [] low lows mark = number_read w (omega (arith, low)) low mark (10 ∷ [])
numbers_read w (v ∷ vs) low lows mark =
    let split : ((codes " " ++ decimal v) ++ texts vs) ++ 10 ∷ [] ≡ 32 ∷ (decimal v ++ (texts vs ++ 10 ∷ [])) = append_assoc (codes " " ++ decimal v) (texts vs) (10 ∷ []) in
    ap (λ (l : List ℕ). numbers_from 0 mark (decimal w ++ l)) split
    ∙ (number_read w (omega (arith, low)) low mark (32 ∷ (decimal v ++ (texts vs ++ 10 ∷ [])))
    ∙ numbers_read v vs lows.0 lows.1 (number_more mark w))

-- ---- masks

abbrev masked : ℕ → List ℕ → ℕ
masked k [] = k
masked k (w ∷ ws) = masked (worker_more k w) ws

mark_masked : (w k : ℕ) (ws : List ℕ) → all_more (Some (record { worker = w; mask = k })) ws ≡ Some (record { worker = w; mask = masked k ws })
mark_masked w k [] = refl
mark_masked w k (v ∷ vs) = mark_masked w (worker_more k v) vs

low_picked : (mask a n : ℕ) → a + n ≤ 64 → Low (picked mask a n)
low_picked mask a zero few = tt
low_picked mask a (suc n) few = go (is_in_mask mask a) (low_picked mask (a + 1) n (omega (arith, few)))
  where
    go : (b : Bool) → Low (picked mask (a + 1) n) → Low (cond b (a ∷ picked mask (a + 1) n) (picked mask (a + 1) n))
    go true later = (omega (arith, few), later)
    go false later = later

mod_up : (m a : ℕ) → m % 2 ^ (a + 1) ≡ (m / 2 ^ a % 2) * 2 ^ a + m % 2 ^ a
mod_up m a =
    let e : a + 1 ≡ 1 + a = omega arith in
    ap (λ (k : ℕ). m % 2 ^ k) e ∙ mod-pow-add m 1 a

below_pow : (m a : ℕ) → m % 2 ^ a < 2 ^ a
below_pow m a = mod-lt m (pow_pos a)

-- the numbers of a mask, from this one on
record MaskStep (m a : ℕ) : Type 0 where
  there : is_in_mask m a ≡ true → worker_more (m % 2 ^ a) a ≡ m % 2 ^ (a + 1)
  absent : is_in_mask m a ≡ false → m % 2 ^ a ≡ m % 2 ^ (a + 1)

one_added : (k a : ℕ) → a < 64 → k < 2 ^ a → worker_more k a ≡ k + 2 ^ a
one_added k a low less = ap₂ (λ (s t : Bool). cond (s && t) (k + 2 ^ a) k) (lt-ltb a 64 low) (lt-ltb k (2 ^ a) less)

mask_step : (m a : ℕ) → a < 64 → MaskStep m a
mask_step m a low = record {
  there = λ e.
      let bit : m / 2 ^ a % 2 ≡ 1 = eqb-true (m / 2 ^ a % 2) 1 e in
      let one : (m / 2 ^ a % 2) * 2 ^ a ≡ 2 ^ a = ap (λ (k : ℕ). k * 2 ^ a) bit ∙ omega arith in
      one_added (m % 2 ^ a) a low (below_pow m a) ∙ (omega (arith, one, mod_up m a));
  absent = λ e.
      let some = eqb-false (m / 2 ^ a % 2) 1 e in
      let bit : m / 2 ^ a % 2 ≡ 0 = omega (arith, some) in
      let one : (m / 2 ^ a % 2) * 2 ^ a ≡ 0 = ap (λ (k : ℕ). k * 2 ^ a) bit ∙ omega arith in
      omega (arith, one, mod_up m a);
}

picked_step : (m a n : ℕ) (b : Bool) → is_in_mask m a ≡ b → MaskStep m a → masked (m % 2 ^ (a + 1)) (picked m (a + 1) n) ≡ m % 2 ^ (a + 1 + n)
    → masked (m % 2 ^ a) (cond b (a ∷ picked m (a + 1) n) (picked m (a + 1) n)) ≡ m % 2 ^ (a + 1 + n)
picked_step m a n true e s later = ap (λ (k : ℕ). masked k (picked m (a + 1) n)) (s.there e) ∙ later
picked_step m a n false e s later = ap (λ (k : ℕ). masked k (picked m (a + 1) n)) (s.absent e) ∙ later

-- the numbers of a mask make it again
mask_again : (m a n : ℕ) → a + n ≤ 64 → masked (m % 2 ^ a) (picked m a n) ≡ m % 2 ^ (a + n)
mask_again m a zero few = ap (λ (k : ℕ). m % 2 ^ k) (omega arith)
mask_again m a (suc n) few =
    let e : a + 1 + n ≡ a + suc n = omega arith in
    picked_step m a n (is_in_mask m a) refl (mask_step m a (omega (arith, few))) (mask_again m (a + 1) n (omega (arith, few))) ∙ ap (λ (k : ℕ). m % 2 ^ k) e

mod_small : (m k : ℕ) → m < k → m % k ≡ m
mod_small m k less = grind (arith, common_steps)

mask_whole : (m : ℕ) → m < 2 ^ 64 → masked 0 (picked m 0 64) ≡ m
mask_whole m bits =
    let z : m % 2 ^ 0 ≡ 0 = omega arith in
    ap (λ (k : ℕ). masked k (picked m 0 64)) (sym z) ∙ (mask_again m 0 64 (omega arith) ∙ mod_small m (2 ^ 64) bits)

-- ---- the laws

mark_read : (mark : Mark) → IsInBits mark → numbers_from 0 None (mark_line mark) ≡ Some mark
unfolding mask_text
mark_read mark bits =
    let ws = picked mark.mask 0 64 in
    ap (numbers_from 0 None) (append_assoc (decimal mark.worker) (texts ws) (10 ∷ []))
    ∙ (numbers_read mark.worker ws bits.0 (low_picked mark.mask 0 64 (omega arith)) None
    ∙ (mark_masked mark.worker 0 ws ∙ ap (λ (k : ℕ). Some (record { worker = mark.worker; mask = k })) (mask_whole mark.mask bits.1)))

pub read : (mark : Mark) → IsInBits mark → mark_of_line (mark_line mark) ≡ Some mark
read mark bits =
    ap (if_spelled (mark_line mark)) (mark_read mark bits)
    ∙ ap₂ (λ (a b : Bool). cond (a && b) (Some mark) None) (lt-ltb mark.worker 64 bits.0) ((bytes_eq-Decides (mark_line mark) (mark_line mark)).1 refl)

abbrev HasBits : Option Mark → Type 0
HasBits None = Unit {0}
HasBits (Some mark) = mark.mask < 2 ^ 64

bits_more : (k w : ℕ) → k < 2 ^ 64 → worker_more k w < 2 ^ 64
bits_more k w bits = by (nat_lt w 64) refl (nat_lt k (2 ^ w)) refl
  where
    by : (a : Bool) → nat_lt w 64 ≡ a → (b : Bool) → nat_lt k (2 ^ w) ≡ b → cond (a && b) (k + 2 ^ w) k < 2 ^ 64
    by true low true less =
        let l : w < 64 = ltb-true w 64 low in
        let m : k < 2 ^ w = ltb-true k (2 ^ w) less in
        let top : 2 ^ (w + 1) ≤ 2 ^ 64 = pow_mono {i = w + 1} {j = 64} (omega (arith, l)) in
        omega (arith, m, top, pow_up w)
    by true low false less = bits
    by false low b less = bits

numbered_bits : (mark : Option Mark) (w : ℕ) → HasBits mark → HasBits (number_more mark w)
numbered_bits None w bits = omega arith
numbered_bits (Some mark) w bits = bits_more mark.mask w bits

has_bits : (n : ℕ) (mark : Option Mark) (line : List ℕ) → HasBits mark → HasBits (numbers_from n mark line)
has_bits n mark [] bits = bits
has_bits n mark (byte ∷ bytes) bits = by (byte == 32 || byte == 10) (has_bits 0 (number_more mark n) bytes (numbered_bits mark n bits)) (has_bits (digit_more n byte) mark bytes bits)
  where
    by : (t : Bool) → HasBits (numbers_from 0 (number_more mark n) bytes) → HasBits (numbers_from (digit_more n byte) mark bytes)
        → HasBits (cond t (numbers_from 0 (number_more mark n) bytes) (numbers_from (digit_more n byte) mark bytes))
    by true a b = a
    by false a b = b

spelled_told : (line : List ℕ) (o : Option Mark) (mark : Mark) → HasBits o → if_spelled line o ≡ Some mark → (line ≡ mark_line mark) × IsInBits mark
spelled_told line None mark bits e = absurd cc
spelled_told line (Some m) mark bits e = by (nat_lt m.worker 64) refl (bytes_eq (mark_line m) line) refl e
  where
    by : (a : Bool) → nat_lt m.worker 64 ≡ a → (b : Bool) → bytes_eq (mark_line m) line ≡ b → cond (a && b) (Some m) None ≡ Some mark → (line ≡ mark_line mark) × IsInBits mark
    by true low true same is =
        let one : m ≡ mark = cc in
        let text : mark_line m ≡ line = (bytes_eq-Decides (mark_line m) line).0 same in
        subst (λ (k : Mark). (line ≡ mark_line k) × IsInBits k) one (sym text, (ltb-true m.worker 64 low, bits))
    by true low false same is = absurd cc
    by false low b same is = absurd cc

pub told : (line : List ℕ) (mark : Mark) → mark_of_line line ≡ Some mark → (line ≡ mark_line mark) × IsInBits mark
told line mark e = spelled_told line (numbers_from 0 None line) mark (has_bits 0 None line tt) e
