use Rattle.std.proofs.Common.{◌≡◌, ℕ, ◌+◌, ◌-◌, ◌*◌, ◌/◌, ◌<◌, ◌≤◌, ◌++◌, List, rules, ap, sym, ◌∙◌, arith, length, take, drop, slice_set}
use Rattle.std.proofs.lemmas.List.{take_rest, length-take-le}
use Rattle.seg_words.specs.Blocks.{MayStore}
use Rattle.seg_words.specs.Layout.{words_in}
use Rattle.value_image.specs.PackedBytes.{words_of}
use Rattle.value_image.specs.Rows.{written, MayWrite}
use Rattle.value_image.proofs.Runs.{may_store-next, may_write-after}
use Rattle.value_image.proofs.PackedByteLemmas.{length-words_of, written-more, written-eight, written-all}
use Rattle.value_image.proofs.bytes.put_bytes.Goals as goal

-- what is written of the bytes is so long
front : (bytes : List ℕ) (i : ℕ) → i ≤ words_in (length bytes) → i ≡ length (take i (words_of bytes))
front bytes i le = let len = length-words_of bytes in sym (length-take-le i (words_of bytes) (omega (arith, len)))

-- the next word of the bytes may be stored
next : (row windows : List ℕ) (at i : ℕ) (bytes : List ℕ) → MayWrite row windows at (words_in (length bytes)) → i < words_in (length bytes)
    → (at + i < length (written row at (take i (words_of bytes)))) × MayStore (written row at (take i (words_of bytes))) windows (at + i)
next row windows at i bytes h lt =
    may_store-next row windows at (words_in (length bytes)) (take i (words_of bytes)) i h (front bytes i (omega arith)) lt

-- the next eight may be stored
next-eight : (row windows : List ℕ) (at i : ℕ) (bytes : List ℕ) → MayWrite row windows at (words_in (length bytes)) → 8 * i + 8 ≤ words_in (length bytes)
    → MayWrite (written row at (take (8 * i) (words_of bytes))) windows (at + 8 * i) 8
next-eight row windows at i bytes h room =
    let long = front bytes (8 * i) (omega (arith, room)) in
    may_write-after row windows at (words_in (length bytes)) (take (8 * i) (words_of bytes)) (at + 8 * i) 8 h (omega (arith, long)) (omega (arith, long, room))

pub store_eight-requires-clause-place : goal.store_eight-requires-clause-place
store_eight-requires-clause-place g c =
    rw c.eights.invariant.words (next-eight _ _ _ c.eights.i c.args.bytes.now c.requires (omega arith)).inside

pub store_eight-requires-clause-apart : goal.store_eight-requires-clause-apart
store_eight-requires-clause-apart g c = λ k low.
    rw (c.eights.invariant.words, c.eights.invariant.beside.aside) ((next-eight _ _ _ c.eights.i c.args.bytes.now c.requires (omega arith)).apart (c.args.at + 8 * c.eights.i + k) (omega arith) (omega (arith, low)))

pub eights-preserved : goal.eights-preserved
eights-preserved g c =
    let size : length c.read_u64_into.new.dst ≡ 8 = search rules in
    let same = c.eights.invariant.words in
    record {
      words = written-eight (g.S.WordsIn.words c.args.seg.now) c.args.at c.args.bytes.now c.read_u64_into.new.dst _ c.eights.i (64 * c.eights.i + 64 - 64 * c.eights.i) (omega arith) (omega arith) (omega (arith, c.requires.inside)) size
          (λ k lt. c.read_u64_into.ensures k (omega (arith, lt, size)))
          (c.store_eight.ensures.words ∙ ap (λ (r : List ℕ). take (c.args.at + 8 * c.eights.i) r ++ (c.read_u64_into.new.dst ++ drop (c.args.at + 8 * c.eights.i + 8) r)) same);
      beside = record { aside = c.store_eight.ensures.aside ∙ c.eights.invariant.beside.aside; rest = c.store_eight.ensures.rest ∙ c.eights.invariant.beside.rest };
    }

pub words-init : goal.words-init
words-init g c =
    let high : 8 * c.eights.i ≡ length c.args.bytes.now / 8 / 8 * 8 = omega arith in
    record {
      words = c.eights.invariant.words ∙ ap (λ (k : ℕ). written (g.S.WordsIn.words c.args.seg.now) c.args.at (take k (words_of c.args.bytes.now))) high;
      beside = c.eights.invariant.beside;
    }

pub store-requires-clause-place : goal.store-requires-clause-place
store-requires-clause-place g c =
    rw c.words.invariant.words (next _ _ _ c.words.i c.args.bytes.now c.requires (omega arith)).0

pub store-requires-clause-apart : goal.store-requires-clause-apart
store-requires-clause-apart g c =
    rw (c.words.invariant.words, c.words.invariant.beside.aside) (next _ _ _ c.words.i c.args.bytes.now c.requires (omega arith)).1

pub words-preserved : goal.words-preserved
words-preserved g c =
    let room : c.words.i < words_in (length c.args.bytes.now) = omega arith in
    let x = rw (take_rest c.args.bytes.now (8 * c.words.i)) at c.read_u64.ensures in
    record {
      words = c.store.ensures.words ∙ (ap (λ (r : List ℕ). slice_set r (c.args.at + c.words.i) c.read_u64.result) c.words.invariant.words
          ∙ written-more (g.S.WordsIn.words c.args.seg.now) c.args.at c.args.bytes.now c.words.i c.read_u64.result room x);
      beside = record { aside = c.store.ensures.aside ∙ c.words.invariant.beside.aside; rest = c.store.ensures.rest ∙ c.words.invariant.beside.rest };
    }

pub store-requires-then-bytes-ne0-clause-place : goal.store-requires-then-bytes-ne0-clause-place
store-requires-then-bytes-ne0-clause-place g c =
    let at : c.words.i ≡ length c.args.bytes.now / 8 = omega arith in
    rw (c.words.invariant.words, at) (next _ _ _ (length c.args.bytes.now / 8) c.args.bytes.now c.requires (omega arith)).0

pub store-requires-then-bytes-ne0-clause-apart : goal.store-requires-then-bytes-ne0-clause-apart
store-requires-then-bytes-ne0-clause-apart g c =
    let at : c.words.i ≡ length c.args.bytes.now / 8 = omega arith in
    rw (c.words.invariant.words, c.words.invariant.beside.aside, at) (next _ _ _ (length c.args.bytes.now / 8) c.args.bytes.now c.requires (omega arith)).1

pub returns-then-bytes-ne0-clause-words : goal.returns-then-bytes-ne0-clause-words
returns-then-bytes-ne0-clause-words g c =
    let at : c.words.i ≡ length c.args.bytes.now / 8 = omega arith in
    let room : length c.args.bytes.now / 8 < words_in (length c.args.bytes.now) = omega arith in
    let w = c.byte_word-last.ensures in
    let before = c.words.invariant.words ∙ ap (λ (k : ℕ). written (g.S.WordsIn.words c.args.seg.now) c.args.at (take k (words_of c.args.bytes.now))) at in
    c.store-then-bytes-ne0.ensures.words
    ∙ (ap (λ (r : List ℕ). slice_set r (c.args.at + length c.args.bytes.now / 8) c.byte_word-last.result) before
    ∙ (written-more (g.S.WordsIn.words c.args.seg.now) c.args.at c.args.bytes.now (length c.args.bytes.now / 8) c.byte_word-last.result room w
    ∙ written-all (g.S.WordsIn.words c.args.seg.now) c.args.at c.args.bytes.now (length c.args.bytes.now / 8 + 1) (omega arith)))

pub returns-else-bytes-ne0-clause-words : goal.returns-else-bytes-ne0-clause-words
returns-else-bytes-ne0-clause-words g c =
    c.words.invariant.words ∙ written-all (g.S.WordsIn.words c.args.seg.now) c.args.at c.args.bytes.now c.words.i (omega arith)
