-- Words that lie in one segment: facts that proofs of the crates above cite.
use Rattle.std.proofs.Common.{◌≡◌, ◌≢◌, ℕ, zero, suc, ◌+◌, ◌-◌, ◌*◌, ◌/◌, ◌%◌, ◌<◌, ◌≤◌}
use Rattle.std.proofs.Common.{true, false, sym, ap, ◌∙◌, arith}
use Rattle.std.proofs.lemmas.Bool.{eqb-true, eq-eqb, ne_eqb}
use Rattle.std.proofs.lemmas.Nat.{le-div, div_below}
use Rattle.std.proofs.Math.Nat as nat
use Rattle.seg_words.specs.Gaps.{is_whole}

-- a later word has no smaller quotient
div_up : (a b k : ℕ) → a ≤ b → a / k ≤ b / k
div_up a b zero h = omega (arith, nat.div-zero a)
div_up a b (suc k) h =
    le-div (a / suc k) b (suc k) (omega arith) (omega (arith, nat.div-mul-le_self a (suc k)))

whole_same : (piece a n : ℕ) → is_whole piece a n ≡ true → a / piece ≡ (a + (n - 1)) / piece
unfolding is_whole
whole_same piece a n h = eqb-true (a / piece) ((a + (n - 1)) / piece) h

whole_from : (piece a n : ℕ) → a / piece ≡ (a + (n - 1)) / piece → is_whole piece a n ≡ true
unfolding is_whole
whole_from piece a n h = eq-eqb (a / piece) ((a + (n - 1)) / piece) h

whole_not : (piece a n : ℕ) → a / piece ≢ (a + (n - 1)) / piece → is_whole piece a n ≡ false
unfolding is_whole
whole_not piece a n h = ne_eqb (a / piece) ((a + (n - 1)) / piece) h

-- with no size all words are one segment
pub whole_without : (a n : ℕ) → is_whole 0 a n ≡ true
whole_without a n =
    whole_from 0 a n (nat.div-zero a ∙ sym (nat.div-zero (a + (n - 1))))

-- one word lies in one segment
pub whole_one : (piece a n : ℕ) → n ≤ 1 → is_whole piece a n ≡ true
whole_one piece a n h = whole_from piece a n (ap (λ (x : ℕ). x / piece) (omega arith))

-- words among those of one segment
pub whole_part : (piece a n b m : ℕ) → is_whole piece a n ≡ true → a ≤ b → b + m ≤ a + n → 1 ≤ m
    → is_whole piece b m ≡ true
whole_part piece a n b m h low high some =
    whole_from piece b m (omega (
      arith,
      whole_same piece a n h,
      div_up a b piece low,
      div_up b (b + (m - 1)) piece (omega arith),
      div_up (b + (m - 1)) (a + (n - 1)) piece (omega arith),
    ))

-- words of one segment and those after them, in the same segment
pub whole_join : (piece a n b m c : ℕ) → is_whole piece a n ≡ true → a + n ≡ b → 1 ≤ n
    → is_whole piece (b - 1) 2 ≡ true → is_whole piece b m ≡ true → b + m ≡ c → 1 ≤ m
    → is_whole piece a (c - a) ≡ true
whole_join piece a n b m c first touch some joined second end more =
    let one = whole_same piece a n first in
    let two = whole_same piece (b - 1) 2 joined in
    let three = whole_same piece b m second in
    let last : a + (n - 1) ≡ b - 1 = omega arith in
    let next : (b - 1) + (2 - 1) ≡ b = omega arith in
    let far : b + (m - 1) ≡ a + ((c - a) - 1) = omega arith in
    whole_from piece a (c - a) (one ∙ ap (λ (x : ℕ). x / piece) last ∙ two
    ∙ ap (λ (x : ℕ). x / piece) next ∙ three ∙ ap (λ (x : ℕ). x / piece) far)

-- words up to a segment's end
pub whole_below : (piece a n : ℕ) → a + n ≤ (a / piece + 1) * piece → is_whole piece a n ≡ true
whole_below zero a n h = whole_without a n
whole_below (suc k) a zero h = whole_one (suc k) a zero (omega arith)
whole_below (suc k) a (suc n) h =
    let most : (a + n) / suc k < a / suc k + 1 =
    div_below (a + n) (suc k) (a / suc k + 1) (omega arith) (omega arith) in
    let least = div_up a (a + n) (suc k) (omega arith) in
    let same : a + n ≡ a + (suc n - 1) = omega arith in
    whole_from (suc k) a (suc n) (omega arith ∙ ap (λ (x : ℕ). x / suc k) same)

-- words that begin before a segment's beginning and end past it
pub whole_across : (piece a n q : ℕ) → 0 < piece → a < q * piece → q * piece < a + n
    → is_whole piece a n ≡ false
whole_across piece a n q some low high =
    whole_not piece a n (λ e. omega (
      arith,
      div_below a piece q some low,
      le-div q (a + (n - 1)) piece some (omega arith),
    ))

-- where a segment begins
pub whole_begins : (piece q : ℕ) → 0 < piece → 0 < q * piece
    → is_whole piece (q * piece - 1) 2 ≡ false
whole_begins piece q some high =
    whole_across piece (q * piece - 1) 2 q some (omega arith) (omega arith)

pub whole_inner : (piece at : ℕ) → 0 < piece → at % piece ≢ 0 → is_whole piece (at - 1) 2 ≡ true
whole_inner piece at some other =
    let all = nat.div-add-mod' at piece in
    let least : at / piece ≤ (at - 1) / piece =
    le-div (at / piece) (at - 1) piece some (omega arith) in
    let most = div_up (at - 1) at piece (omega arith) in
    let next : (at - 1) + (2 - 1) ≡ at = omega arith in
    whole_from piece (at - 1) 2 (omega arith ∙ sym (ap (λ (x : ℕ). x / piece) next))

-- segments of even sizes begin at even words
pub even_times : (q piece : ℕ) → piece % 2 ≡ 0 → q * piece % 2 ≡ 0
even_times q piece even =
    let half : piece ≡ piece / 2 * 2 = omega arith in
    omega (arith, ap (λ (x : ℕ). q * x) half, nat.mul_assoc q (piece / 2) 2)
