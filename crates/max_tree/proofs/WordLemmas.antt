-- Rows of bits behind the words.
use Rattle.std.proofs.Common.{◌≡◌, ◌≢◌, ℕ, ◌-◌, ◌*◌, ◌/◌, ◌%◌, ◌<◌, ◌≤◌, min, List, length, get_or, set, take, drop, ◌++◌, refl, sym, ap, ◌∙◌, subst, arith}
use Rattle.std.proofs.lemmas.List.{length-set, take_at, drop-set-lt, get_or-take}
use Rattle.max_tree.specs.Bits.{words_of, IsSummed, AreWords}
use Rattle.max_tree.specs.declared.bits.TheConstants.{WORD}
use Rattle.max_tree.proofs.Rows.{AreStacked, front_count, front_set, rows_room, parts_of, rows_join, rows_set}
use Rattle.max_tree.proofs.BitLemmas.{IsBitSet, IsRowSet, row_set, summed_set, zero_summed}

pub word_rows : AreStacked IsSummed words_of 1 AreWords
word_rows = record {
  last = λ count words are. are;
  last_is = λ count words is few. (is, few);
  more = λ above count words are. are;
  more_is = λ above count words row are. (row, are);
  room = λ words some summed. let above = summed.some_count in let many = summed.many in (many, summed.short, omega arith);
  zeros = zero_summed;
}

-- the word that was read
pub read_front : (count : ℕ) (words : List ℕ) (k : ℕ) → k < count → get_or words k 0 ≡ get_or (take count words) k 0
read_front count words k low = sym (get_or-take count words k 0 low)

-- what a write of the bit at i leaves of all rows
pub record IsSetBelow (above count : ℕ) (old new : List ℕ) (i v : ℕ) : Type 0 where
  pub levels : AreWords above count new
  pub bits : IsRowSet (take count old) (take count new) i v

module _ (above count : ℕ) (words : List ℕ) (i word v : ℕ) (are : AreWords above count words) (low : i < WORD * count) (one : IsBitSet (get_or words (i / WORD) 0) word (i % WORD) v) where
  room : count ≤ length words
  room = rows_room word_rows above count words are

  front_bits : IsRowSet (take count words) (set (take count words) (i / WORD) word) i v
  front_bits = row_set (take count words) i word v (omega (arith, front_count words count room)) (subst (λ (m : ℕ). IsBitSet m word (i % WORD) v) (read_front count words (i / WORD) (omega arith)) one)

  -- the word stays 0, or stays none: no other row changes
  pub set_alone : (above ≢ 0 → min (get_or words (i / WORD) 0) 1 ≡ min word 1) → IsSetBelow above count words (set words (i / WORD) word) i v
  set_alone same = record {
    levels = rows_set word_rows above count words (i / WORD) word are (omega arith) (λ some summed.
        summed_set (take count words) (take (words_of count) (drop count words)) (take (words_of count) (drop count words)) (i / WORD) word summed (omega (arith, front_count words count room)) refl
        (record { there = summed.notes (i / WORD) ∙ ap (λ (m : ℕ). min m 1) (sym (read_front count words (i / WORD) (omega arith))) ∙ same some; others = λ j other. refl }));
    bits = subst (λ (xs : List ℕ). IsRowSet (take count words) xs i v) (sym (front_set words count (i / WORD) word room (omega arith))) front_bits;
  }

  -- the rows behind change too
  module _ (n : ℕ) (own rest : List ℕ) (some : above ≢ 0) (is : n ≡ words_of count) (own_is : own ≡ take count (set words (i / WORD) word)) (rest_is : rest ≡ drop count (set words (i / WORD) word)) where
    rest_kept : rest ≡ drop count words
    rest_kept = rest_is ∙ drop-set-lt count words (i / WORD) word (omega arith)

    pub rest_rows : AreWords (above - 1) n rest
    rest_rows = (parts_of word_rows above count n words (take count words) rest are some is refl rest_kept).2

    pub set_above : (new : List ℕ) → IsSetBelow (above - 1) n rest new (i / WORD) (min word 1) → IsSetBelow above count words (own ++ new) i v
    set_above new behind =
        let parts = parts_of word_rows above count n words (take count words) rest are some is refl rest_kept in
        let same : length (take n new) ≡ length (take n rest) = front_count new n (rows_room word_rows (above - 1) n new behind.levels) ∙ sym (front_count rest n (rows_room word_rows (above - 1) n rest parts.2)) in
        let written : set (take count words) (i / WORD) word ≡ own = sym (own_is ∙ front_set words count (i / WORD) word room (omega arith)) in
        let long : length own ≡ count = ap length (sym written) ∙ length-set (take count words) (i / WORD) word ∙ parts.0 in
        let summed = summed_set (take count words) (take n rest) (take n new) (i / WORD) word parts.1 (omega (arith, parts.0)) same behind.bits in
        record {
          levels = rows_join word_rows above count n own new some is long (subst (λ (xs : List ℕ). IsSummed xs (take n new)) written summed) behind.levels;
          bits = subst (λ (xs : List ℕ). IsRowSet (take count words) xs i v) (written ∙ sym (take_at own new count long)) front_bits;
        }
