use Rattle.std.proofs.Common.{◌≡◌, ℕ, ◌+◌, ◌*◌, ◌/◌, ◌%◌, ◌<◌, ◌^◌, List, take, fold, length, slice_index, ap, sym, ◌∙◌, subst, arith}
use Rattle.std.specs.Prelude.{bit_or}
use Rattle.std.proofs.lemmas.List.{take_all}
use Rattle.php_graph.specs.Numbers.{hash_step, hash_of}
use Rattle.seg_words.specs.Layout.{words_in}
use Rattle.value_image.specs.PackedBytes.{words_of, word_at}
use Rattle.entry_slots.specs.EntryWords.{IsEntryKey}
use Rattle.entry_slots.specs.Lower.{Laws}
use Rattle.entry_slots.proofs.Runs.{words_long, word_there}
use Rattle.entry_slots.proofs.KeyBytes.{key_byte, hash_more}
use Rattle.entry_slots.proofs.keys.hash_at.Goals as goal

word_in : (i len : ℕ) → i < len → i / 8 < words_in len
word_in i len lt = omega arith

key_word_at : Laws → (ws : List ℕ) (at len : ℕ) (key : List ℕ) (i : ℕ) → IsEntryKey ws at len key → i < len → slice_index ws (at + i / 8) ≡ word_at key (i / 8)
key_word_at law ws at len key i h lt =
    let n = words_long key in
    let few : i / 8 < words_in (length key) = subst (λ (k : ℕ). i / 8 < words_in k) (sym h.count) (word_in i len lt) in
    law.runs.words ws at (words_of key) (i / 8) h.stands (omega (arith, n)) ∙ word_there key (i / 8) few

pub word_of_byte-word-requires-clause-inside : goal.word_of_byte-word-requires-clause-inside
word_of_byte-word-requires-clause-inside g c = let lt = word_in c.loop-i.i c.args.len c.loop-i-test.true in rw c.loop-i.invariant.kept.words (omega (arith, c.requires.inside, lt))

pub word_of_byte-word-requires-clause-told : goal.word_of_byte-word-requires-clause-told
word_of_byte-word-requires-clause-told g c = let lt = word_in c.loop-i.i c.args.len c.loop-i-test.true in rw c.loop-i.invariant.kept.aside (c.requires.told (c.args.at + c.loop-i.i / 8) (omega arith) (omega (arith, lt)))

pub word_of_byte-word-requires-clause-held : goal.word_of_byte-word-requires-clause-held
word_of_byte-word-requires-clause-held g c = λ some. c.loop-i.invariant.held some ∙ ap (λ (r : List ℕ). slice_index r (c.args.at + c.loop-i.i / 8)) (sym c.loop-i.invariant.kept.words)

-- the next byte is in the same word, if it is not its first
same_word : (i : ℕ) → 0 < (i + 1) % 8 → i / 8 ≡ (i + 1) / 8
same_word i some = omega arith

pub loop-i-preserved : goal.loop-i-preserved
loop-i-preserved g c =
    let read = c.word_of_byte-word.ensures.word ∙ ap (λ (r : List ℕ). slice_index r (c.args.at + c.loop-i.i / 8)) c.loop-i.invariant.kept.words in
    record {
      hashed = λ key h.
          let byte = key_byte key c.loop-i.i c.word_of_byte-word.result h.bytes.1 (read ∙ key_word_at c.lower_laws.ensures (g.S.WordsIn.words c.args.seg.now) c.args.at c.args.len key c.loop-i.i h c.loop-i-test.true) in
          c.hash_step-hash.ensures ∙ hash_more key c.loop-i.i c.loop-i.hash (c.word_of_byte-word.result / 2 ^ (8 * (c.loop-i.i % 8)) % 256) (omega (arith, h.count, c.loop-i-test.true)) (c.loop-i.invariant.hashed key h) byte;
      held = λ some. read ∙ ap (λ (k : ℕ). slice_index (g.S.WordsIn.words c.args.seg.now) (c.args.at + k)) (same_word c.loop-i.i some);
      kept = record { words = c.word_of_byte-word.ensures.kept.words ∙ c.loop-i.invariant.kept.words; aside = c.word_of_byte-word.ensures.kept.aside ∙ c.loop-i.invariant.kept.aside; rest = c.word_of_byte-word.ensures.kept.rest ∙ c.loop-i.invariant.kept.rest };
    }

pub returns-clause-hash : goal.returns-clause-hash
unfolding hash_of
returns-clause-hash g c = λ key h.
    let all : take c.loop-i.i key ≡ key = take_all c.loop-i.i key (omega (arith, h.count, c.loop-i-test.false)) in
    ap (λ (n : ℕ). bit_or n (2 ^ 63)) (c.loop-i.invariant.hashed key h ∙ ap (fold hash_step 5381) all)
