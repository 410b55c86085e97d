use Rattle.std.proofs.Common.{rules, ◌≡◌, ℕ, ◌+◌, ◌*◌, ◌/◌, ◌%◌, ◌<◌, List, ap, ap₂, sym, ◌∙◌, arith, subst, length, take, drop, get_or, slice_index}
use Rattle.std.proofs.lemmas.Grind.{common_steps}
use Rattle.std.proofs.lemmas.List.{take_all, get_or-drop, length-drop}
use Rattle.seg_words.specs.Blocks.{IsTold}
use Rattle.byteorder.specs.Endian.{little_bytes}
use Rattle.value_image.specs.PackedBytes.{bytes_of}
use Rattle.value_image.proofs.PackedByteLemmas.{take-bytes_of-whole, bytes-last, bytes-more, bytes-more-eight}
use Rattle.value_image.proofs.bytes.get_bytes.Goals as goal

pub overflow_add-at : goal.overflow_add-at
overflow_add-at g c = grind (arith, common_steps, c.requires.inside, g.met.W.WordsIn.short c.args.from.now)

pub load_eight-words-requires : goal.load_eight-words-requires
load_eight-words-requires g c =
    let long : length (g.W.WordsIn.words c.eights.from) ≡ length (g.W.WordsIn.words c.args.from.now) = ap (λ (r : List ℕ). length r) c.eights.invariant.kept.words in
    omega (arith, c.requires.inside, long)

pub eights-preserved : goal.eights-preserved
eights-preserved g c =
    let row = g.W.WordsIn.words c.args.from.now in
    let rest = length-drop c.args.at row in
    let len = c.eights.auto.out in
    let eight : length c.load_eight-words.result ≡ 8 = search rules in
    let told : (k : ℕ) → k < 8 → IsTold (g.W.WordsIn.aside c.eights.from).windows (c.args.at + 8 * c.eights.i + k) =
    (λ k lt. rw c.eights.invariant.kept.aside (c.requires.told (c.args.at + 8 * c.eights.i + k) (omega (arith, lt)) (omega (arith, lt)))) in
    let each : (k : ℕ) → k < 8 → slice_index c.load_eight-words.result k ≡ get_or (drop c.args.at row) (8 * c.eights.i + k) 0 =
    (λ k lt.
    let place : c.args.at + 8 * c.eights.i + k ≡ c.args.at + (8 * c.eights.i + k) = omega arith in
    c.load_eight-words.ensures.each k lt (told k lt)
    ∙ (ap (λ (r : List ℕ). get_or r (c.args.at + 8 * c.eights.i + k) 0) c.eights.invariant.kept.words
    ∙ (ap (λ (j : ℕ). get_or row j 0) place ∙ sym (get_or-drop c.args.at row (8 * c.eights.i + k) 0)))) in
    record {
      bytes = bytes-more-eight c.eights.out (drop c.args.at row) c.write_u64_into.new.dst c.load_eight-words.result c.eights.i _ (omega arith) eight (omega (arith, c.requires.inside, rest)) each c.write_u64_into.ensures c.eights.invariant.bytes;
      kept = record { words = c.load_eight-words.ensures.words ∙ c.eights.invariant.kept.words; aside = c.load_eight-words.ensures.aside ∙ c.eights.invariant.kept.aside; rest = c.load_eight-words.ensures.rest ∙ c.eights.invariant.kept.rest };
    }

pub words-init : goal.words-init
words-init g c =
    let row = g.W.WordsIn.words c.args.from.now in
    let e : c.eights.i ≡ length c.args.out.now / 8 / 8 = omega arith in
    let low : 64 * c.eights.i ≡ 8 * (length c.args.out.now / 8 / 8 * 8) = omega arith in
    let high : 8 * c.eights.i ≡ length c.args.out.now / 8 / 8 * 8 = omega arith in
    record {
      bytes = ap (λ (k : ℕ). take k c.eights.out) (sym low) ∙ (c.eights.invariant.bytes ∙ ap (λ (k : ℕ). bytes_of (take k (drop c.args.at row))) high);
      kept = c.eights.invariant.kept;
    }

pub words-preserved : goal.words-preserved
words-preserved g c =
    let row = g.W.WordsIn.words c.args.from.now in
    let rest = length-drop c.args.at row in
    let len = c.words.auto.out in
    let told : IsTold (g.W.WordsIn.aside c.words.from).windows (c.args.at + c.words.i) = rw c.words.invariant.kept.aside (c.requires.told (c.args.at + c.words.i) (omega arith) (omega arith)) in
    let w = c.load-word.ensures.word told ∙ (ap (λ (r : List ℕ). get_or r (c.args.at + c.words.i) 0) c.words.invariant.kept.words ∙ sym (get_or-drop c.args.at row c.words.i 0)) in
    record {
      bytes = bytes-more c.words.out (drop c.args.at row) c.write_u64.new.buf _ c.words.i c.load-word.result (omega arith) (omega (arith, c.requires.inside, rest)) w c.write_u64.ensures c.words.invariant.bytes;
      kept = record { words = c.load-word.ensures.words ∙ c.words.invariant.kept.words; aside = c.load-word.ensures.aside ∙ c.words.invariant.kept.aside; rest = c.load-word.ensures.rest ∙ c.words.invariant.kept.rest };
    }

pub returns-then-left-ne0-clause-bytes : goal.returns-then-left-ne0-clause-bytes
returns-then-left-ne0-clause-bytes g c =
    let rest = length-drop c.args.at (g.W.WordsIn.words c.args.from.now) in
    let full : c.words.i ≡ length c.args.out.now / 8 = omega (arith, c.words-test.false, c.words.auto.i) in
    let len = c.words.auto.out ∙ c.eights.auto.out in
    let whole : length c.words.out ≡ 8 * (length c.args.out.now / 8) + length c.words.out % 8 = omega arith in
    let told : IsTold (g.W.WordsIn.aside c.words.from).windows (c.args.at + length c.args.out.now / 8) = rw c.words.invariant.kept.aside (c.requires.told (c.args.at + length c.args.out.now / 8) (omega arith) (omega arith)) in
    let w = c.load-word-then-left-ne0.ensures.word told ∙ (ap (λ (r : List ℕ). get_or r (c.args.at + length c.args.out.now / 8) 0) c.words.invariant.kept.words ∙ sym (get_or-drop c.args.at (g.W.WordsIn.words c.args.from.now) (length c.args.out.now / 8) 0)) in
    let before = subst (λ (k : ℕ). take (8 * k) c.words.out ≡ bytes_of (take k (drop c.args.at (g.W.WordsIn.words c.args.from.now)))) full c.words.invariant.bytes in
    let part = c.copy_from_slice.ensures.after ∙ ap (take (length c.words.out % 8)) (c.to_le_bytes.ensures ∙ ap (little_bytes 8) w) in
    bytes-last c.words.out (drop c.args.at (g.W.WordsIn.words c.args.from.now)) c.copy_from_slice.new.self (length c.args.out.now / 8) (length c.words.out % 8) whole (omega (arith, c.requires.inside, rest)) (omega arith) before part
    ∙ ap (λ (n : ℕ). take n (bytes_of (drop c.args.at (g.W.WordsIn.words c.args.from.now)))) len

pub returns-else-left-ne0-clause-bytes : goal.returns-else-left-ne0-clause-bytes
returns-else-left-ne0-clause-bytes g c =
    let rest = length-drop c.args.at (g.W.WordsIn.words c.args.from.now) in
    let full : c.words.i ≡ length c.args.out.now / 8 = omega (arith, c.words-test.false, c.words.auto.i) in
    let len = c.words.auto.out in
    sym (take_all (8 * c.words.i) c.words.out (omega arith))
    ∙ (c.words.invariant.bytes ∙ sym (take-bytes_of-whole (drop c.args.at (g.W.WordsIn.words c.args.from.now)) c.words.i (length c.args.out.now) (omega arith) (omega arith)))
