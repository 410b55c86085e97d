-- Bits in words: the highest one, one that is set or unset, and the last one before a place.
use Rattle.std.proofs.Common.{◌≡◌, ◌≢◌, ℕ, suc, ◌+◌, ◌-◌, ◌*◌, ◌/◌, ◌%◌, ◌^◌, ◌<◌, ◌≤◌, min, List, length, get_or, set, Option, Some, None, MatchOption, replicate, refl, sym, ap, ◌∙◌, subst, inl, inr, arith, get_or-set_same, get_or-set_other}
use Rattle.std.proofs.Math.Nat.{two-pow-succ}
use Rattle.std.proofs.lemmas.Bool.{cases_lt, cases_eq}
use Rattle.std.proofs.lemmas.List.{length-set, length-replicate}
use Rattle.std.proofs.lemmas.Nat.{pow_below, leading_top}
use Rattle.std.proofs.lemmas.Nat.Bits.{bit_at-zero, bit_at_above, bit_at_cat_high, bit_at_and, bit_at_or, bit_at_ones, bit_at_ones_above, bit_at-pow_same, bit_at-pow_other, bit_at_not, bit_at-lt}
use Rattle.std.specs.Int.{bit_at, bit_not}
use Rattle.std.proofs.Common.{w64}
use Rattle.std.specs.Int.Bits.{bit_and, bit_or}
use Rattle.std.specs.Int.Count.{count_leading_zeros}
use Rattle.max_tree.specs.Bits.{bit, IsSummed}
use Rattle.max_tree.specs.declared.bits.TheConstants.{WORD}
use Rattle.max_tree.proofs.Positions.{zero_at}

-- ---- the highest bit

top_set : (m t : ℕ) → 2 ^ t ≤ m → m < 2 ^ suc t → bit_at m t ≡ 1
top_set m t low high =
    let rest : m - 2 ^ t < 2 ^ t = omega (arith, two-pow-succ t) in
    let parts : m ≡ 1 * 2 ^ t + (m - 2 ^ t) = omega arith in
    let same : t - t ≡ 0 = omega arith in
    ap (λ (n : ℕ). bit_at n t) parts ∙ bit_at_cat_high 1 t (m - 2 ^ t) t rest (omega arith) ∙ ap (λ (n : ℕ). bit_at 1 n) same

pub highest_set : (m : ℕ) → m ≢ 0 → m < 2 ^ 64 → bit_at m (63 - count_leading_zeros 64 m) ≡ 1
highest_set m some fits =
    let (j, is, low, high) = leading_top 64 m (omega arith) fits in
    let place : j ≡ 63 - count_leading_zeros 64 m = omega arith in
    subst (λ (n : ℕ). bit_at m n ≡ 1) place (top_set m j low high)

pub highest_last : (m i : ℕ) → m ≢ 0 → m < 2 ^ 64 → 63 - count_leading_zeros 64 m < i → bit_at m i ≡ 0
highest_last m i some fits past =
    let (j, is, low, high) = leading_top 64 m (omega arith) fits in
    bit_at_above m (suc j) i high (omega arith)

-- a number with a bit is not 0
pub bit_some : (m k : ℕ) → bit_at m k ≡ 1 → m ≢ 0
bit_some m k on none =
    let off : bit_at m k ≡ 0 = ap (λ (n : ℕ). bit_at n k) none ∙ bit_at-zero k in
    omega arith

-- ---- a bit is set or unset

-- of a word, the bit at k
pub record IsBitSet (old new k v : ℕ) : Type 0 where
  pub there : bit_at new k ≡ v
  pub others : (j : ℕ) → j < WORD → j ≢ k → bit_at new j ≡ bit_at old j

pub marked : (m k b : ℕ) → b ≡ 2 ^ k → IsBitSet m (bit_or m b) k 1
marked m k b is = record {
  there = ap (λ (n : ℕ). bit_at (bit_or m n) k) is ∙ omega (arith, bit_at_or m (2 ^ k) k, bit_at-pow_same k, bit_at-lt m k);
  others = λ j inside other. ap (λ (n : ℕ). bit_at (bit_or m n) j) is ∙ omega (arith, bit_at_or m (2 ^ k) j, bit_at-pow_other k j other);
}

pub unmarked : (m k b : ℕ) → b ≡ 2 ^ k → k < WORD → IsBitSet m (bit_and m (bit_not w64 b)) k 0
unmarked m k b is low = record {
  there = ap (λ (n : ℕ). bit_at (bit_and m (bit_not w64 n)) k) is ∙ omega (arith, bit_at_and m (bit_not w64 (2 ^ k)) k, bit_at_not w64 (2 ^ k) k (pow_below k 64 low) low, bit_at-pow_same k);
  others = λ j inside other.
      ap (λ (n : ℕ). bit_at (bit_and m (bit_not w64 n)) j) is ∙ omega (arith, bit_at_and m (bit_not w64 (2 ^ k)) j, bit_at_not w64 (2 ^ k) j (pow_below k 64 low) inside, bit_at-pow_other k j other, bit_at-lt m j);
}

-- of a row of words, the bit at i
pub record IsRowSet (old new : List ℕ) (i v : ℕ) : Type 0 where
  pub there : bit new i ≡ v
  pub others : (j : ℕ) → j ≢ i → bit new j ≡ bit old j

pub row_set : (words : List ℕ) (i word v : ℕ) → i / WORD < length words → IsBitSet (get_or words (i / WORD) 0) word (i % WORD) v → IsRowSet words (set words (i / WORD) word) i v
row_set words i word v inside one =
    let here = get_or-set_same words (i / WORD) word 0 inside in
    record {
      there = ap (λ (m : ℕ). bit_at m (i % WORD)) here ∙ one.there;
      others = λ j other. elim (cases_eq (j / WORD) (i / WORD)) [
        | inl is ↦
            ap (λ (k : ℕ). bit_at (get_or (set words (i / WORD) word) k 0) (j % WORD)) is ∙ ap (λ (m : ℕ). bit_at m (j % WORD)) here
            ∙ one.others (j % WORD) (omega arith) (omega arith) ∙ ap (λ (k : ℕ). bit_at (get_or words k 0) (j % WORD)) (sym is)
        | inr apart ↦ ap (λ (m : ℕ). bit_at m (j % WORD)) (get_or-set_other words (i / WORD) (j / WORD) word 0 apart)
      ];
    }

-- a word is written, and its bit in the row above
pub summed_set : (words some some' : List ℕ) (w v : ℕ) → IsSummed words some → w < length words → length some' ≡ length some → IsRowSet some some' w (min v 1) → IsSummed (set words w v) some'
summed_set words some some' w v summed inside count one =
    let short = summed.short in
    let many = summed.many in
    let was = summed.some_count in
    record {
      short = omega (arith, length-set words w v);
      many = omega (arith, length-set words w v);
      some_count = omega (arith, length-set words w v);
      notes = λ i. elim (cases_eq i w) [
        | inl is ↦ ap (λ (k : ℕ). bit some' k) is ∙ one.there ∙ ap (λ (n : ℕ). min n 1) (sym (ap (λ (k : ℕ). get_or (set words w v) k 0) is ∙ get_or-set_same words w v 0 inside))
        | inr other ↦ one.others i other ∙ summed.notes i ∙ ap (λ (n : ℕ). min n 1) (sym (get_or-set_other words w i v 0 other))
      ];
    }

-- ---- zeros

pub zero_summed : (n : ℕ) → 1 < n → n < 2 ^ 32 → IsSummed (replicate n 0) (replicate ((n + (WORD - 1)) / WORD) 0)
zero_summed n many short =
    let m = (n + (WORD - 1)) / WORD in
    let count = length-replicate {A = ℕ} n 0 in
    record {
      short = omega (arith, count);
      many = omega (arith, count);
      some_count = omega (arith, count, length-replicate {A = ℕ} m 0);
      notes = λ i.
          ap (λ (w : ℕ). bit_at w (i % WORD)) (zero_at m (i / WORD)) ∙ bit_at-zero (i % WORD) ∙ ap (λ (w : ℕ). min w 1) (sym (zero_at n i));
    }

-- ---- the last bit before a place

pub record IsLastBit (words : List ℕ) (i : ℕ) (r : Option ℕ) : Type 0 where
  pub found : MatchOption r ((k : ℕ) → k < i → bit words k ≡ 0) (λ q. (q < i) × (bit words q ≡ 1))
  pub last : MatchOption r (Unit {0}) (λ q. (k : ℕ) → q < k → k < i → bit words k ≡ 0)

-- the bits of a word below a place
pub below_same : (word k b j : ℕ) → b ≡ 2 ^ k → j < k → bit_at (bit_and word (b - 1)) j ≡ bit_at word j
below_same word k b j is low = ap (λ (n : ℕ). bit_at (bit_and word (n - 1)) j) is ∙ omega (arith, bit_at_and word (2 ^ k - 1) j, bit_at_ones k j low)

below_none : (word k b j : ℕ) → b ≡ 2 ^ k → k ≤ j → bit_at (bit_and word (b - 1)) j ≡ 0
below_none word k b j is high = ap (λ (n : ℕ). bit_at (bit_and word (n - 1)) j) is ∙ omega (arith, bit_at_and word (2 ^ k - 1) j, bit_at_ones_above k j high)

bit_in : (words : List ℕ) (w j i : ℕ) → w ≡ i / WORD → j ≡ i % WORD → bit words i ≡ bit_at (get_or words w 0) j
bit_in words w j i is at = ap (λ (k : ℕ). bit_at (get_or words k 0) (i % WORD)) (sym is) ∙ ap (λ (k : ℕ). bit_at (get_or words w 0) k) (sym at)

module _ (words : List ℕ) (i b was : ℕ) (is : b ≡ 2 ^ (i % WORD)) (same : was ≡ get_or words (i / WORD) 0) where
  own_bit : (k : ℕ) → i / WORD * WORD ≤ k → k < i → bit words k ≡ bit_at (bit_and was (b - 1)) (k % WORD)
  own_bit k low before =
      bit_in words (i / WORD) (k % WORD) k (omega arith) refl ∙ ap (λ (m : ℕ). bit_at m (k % WORD)) (sym same) ∙ sym (below_same was (i % WORD) b (k % WORD) is (omega arith))

  -- of its own word
  pub last_own : (t : ℕ) → bit_at (bit_and was (b - 1)) t ≡ 1 → ((j : ℕ) → t < j → bit_at (bit_and was (b - 1)) j ≡ 0) → IsLastBit words i (Some (i / WORD * WORD + t))
  last_own t on last = elim (cases_lt t (i % WORD)) [
    | inr past ↦ absurd (omega (arith, below_none was (i % WORD) b t is past))
    | inl low ↦
        let place : (i / WORD * WORD + t) % WORD ≡ t = omega arith in
        record {
          found = (omega arith, own_bit (i / WORD * WORD + t) (omega arith) (omega arith) ∙ ap (bit_at (bit_and was (b - 1))) place ∙ on);
          last = λ k past before. own_bit k (omega arith) before ∙ last (k % WORD) (omega arith);
        }
  ]

  -- none of its own word
  own_none : bit_and was (b - 1) ≡ 0 → (k : ℕ) → i / WORD * WORD ≤ k → k < i → bit words k ≡ 0
  own_none none k low before = own_bit k low before ∙ ap (λ (m : ℕ). bit_at m (k % WORD)) none ∙ bit_at-zero (k % WORD)

  pub last_alone : bit_and was (b - 1) ≡ 0 → length words ≤ 1 → i < WORD * length words → IsLastBit words i None
  last_alone none few inside = record { found = λ k before. own_none none k (omega arith) before; last = tt }

  module _ (some : List ℕ) (summed : IsSummed words some) (none : bit_and was (b - 1) ≡ 0) where
    word_none : (k : ℕ) → bit some (k / WORD) ≡ 0 → bit words k ≡ 0
    word_none k off =
        let zero : get_or words (k / WORD) 0 ≡ 0 = omega (arith, summed.notes (k / WORD)) in
        ap (λ (m : ℕ). bit_at m (k % WORD)) zero ∙ bit_at-zero (k % WORD)

    pub last_nowhere : ((w : ℕ) → w < i / WORD → bit some w ≡ 0) → IsLastBit words i None
    last_nowhere off = record {
      found = λ k before. elim (cases_lt k (i / WORD * WORD)) [
        | inl earlier ↦ word_none k (off (k / WORD) (omega arith))
        | inr own ↦ own_none none k own before
      ];
      last = tt;
    }

    pub last_word : (w t : ℕ) → w < i / WORD → ((v : ℕ) → w < v → v < i / WORD → bit some v ≡ 0) → t < WORD → bit_at (get_or words w 0) t ≡ 1 → ((j : ℕ) → t < j → bit_at (get_or words w 0) j ≡ 0) → IsLastBit words i (Some (w * WORD + t))
    last_word w t low off inside on last = record {
      found = (omega arith, bit_in words w t (w * WORD + t) (omega arith) (omega arith) ∙ on);
      last = λ k past before. elim (cases_lt k (i / WORD * WORD)) [
        | inr own ↦ own_none none k own before
        | inl earlier ↦ elim (cases_eq (k / WORD) w) [
          | inl same ↦ bit_in words w (k % WORD) k (sym same) refl ∙ last (k % WORD) (omega arith)
          | inr later ↦ word_none k (off (k / WORD) (omega arith) (omega arith))
        ]
      ];
    }

-- a word whose bit is set is not 0
pub word_some : (words some : List ℕ) (w : ℕ) → IsSummed words some → bit some w ≡ 1 → get_or words w 0 ≢ 0
word_some words some w summed on none = omega (arith, summed.notes w)
