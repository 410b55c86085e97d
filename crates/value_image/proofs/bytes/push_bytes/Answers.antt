use Rattle.std.proofs.Common.{rules, ◌≡◌, ℕ, ◌+◌, ◌*◌, ◌/◌, ◌%◌, ◌<◌, ◌++◌, List, ap, sym, ◌∙◌, arith, length, take, drop, get_or, slice_index, append_assoc}
use Rattle.std.proofs.lemmas.List.{get_or-drop, length-drop}
use Rattle.seg_words.specs.Blocks.{IsTold}
use Rattle.byteorder.specs.Endian.{little_bytes}
use Rattle.value_image.specs.PackedBytes.{bytes_of}
use Rattle.value_image.proofs.PackedByteLemmas.{take-bytes_of, take-bytes_of-whole, bytes-next, bytes-eight}
use Rattle.value_image.proofs.bytes.push_bytes.Goals as goal

pub overflow_add-at : goal.overflow_add-at
overflow_add-at g c = omega (arith, c.requires.inside, g.met.W.WordsIn.short c.args.from.now)

pub load_eight-words-requires : goal.load_eight-words-requires
load_eight-words-requires g c =
    let long : length (g.W.WordsIn.words c.eights.from) ≡ length (g.W.WordsIn.words c.args.from.now) = ap (λ (r : List ℕ). length r) c.eights.invariant.kept.words in
    omega (arith, c.requires.inside, long)

pub push_eight-requires : goal.push_eight-requires
push_eight-requires g c = omega (arith, c.requires.room, c.eights.invariant.len, c.eights.invariant.room)

pub overflow_add-at-in-words : goal.overflow_add-at-in-words
overflow_add-at-in-words g c = omega (arith, c.requires.inside, g.met.W.WordsIn.short c.args.from.now)

pub load-word-requires : goal.load-word-requires
load-word-requires g c =
    let long : length (g.W.WordsIn.words c.words.from) ≡ length (g.W.WordsIn.words c.args.from.now) = ap (λ (r : List ℕ). length r) (c.words.invariant.kept.words ∙ c.eights.invariant.kept.words) in
    omega (arith, c.requires.inside, long)

pub push_word-requires : goal.push_word-requires
push_word-requires g c = omega (arith, c.requires.room, c.words.invariant.len, c.words.invariant.room)

pub overflow_add-at-then-left-ne0 : goal.overflow_add-at-then-left-ne0
overflow_add-at-then-left-ne0 g c = omega (arith, c.requires.inside, g.met.W.WordsIn.short c.args.from.now)

pub load-word-requires-then-left-ne0 : goal.load-word-requires-then-left-ne0
load-word-requires-then-left-ne0 g c =
    let long : length (g.W.WordsIn.words c.words.from) ≡ length (g.W.WordsIn.words c.args.from.now) = ap (λ (r : List ℕ). length r) (c.words.invariant.kept.words ∙ c.eights.invariant.kept.words) in
    omega (arith, c.requires.inside, long)

pub push_part-requires-clause-room : goal.push_part-requires-clause-room
push_part-requires-clause-room g c = omega (arith, c.requires.room, c.words.invariant.len, c.words.invariant.room, c.words-test.false, c.words.auto.i)

pub eights-preserved : goal.eights-preserved
eights-preserved g c =
    let row = g.W.WordsIn.words c.args.from.now in
    let rest = length-drop c.args.at row in
    let eight : length c.load_eight-words.result ≡ 8 = search rules in
    let told : (k : ℕ) → k < 8 → IsTold (g.W.WordsIn.aside c.eights.from).windows (c.args.at + 8 * c.eights.i + k) =
    (λ k lt. rw c.eights.invariant.kept.aside (c.requires.told (c.args.at + 8 * c.eights.i + k) (omega (arith, lt)) (omega (arith, lt)))) in
    let each : (k : ℕ) → k < 8 → slice_index c.load_eight-words.result k ≡ get_or (drop c.args.at row) (8 * c.eights.i + k) 0 =
    (λ k lt.
    let place : c.args.at + 8 * c.eights.i + k ≡ c.args.at + (8 * c.eights.i + k) = omega arith in
    c.load_eight-words.ensures.each k lt (told k lt)
    ∙ (ap (λ (r : List ℕ). get_or r (c.args.at + 8 * c.eights.i + k) 0) c.eights.invariant.kept.words
    ∙ (ap (λ (j : ℕ). get_or row j 0) place ∙ sym (get_or-drop c.args.at row (8 * c.eights.i + k) 0)))) in
    record {
      bytes = c.push_eight.ensures.bytes
          ∙ (ap (λ (b : List ℕ). b ++ bytes_of c.load_eight-words.result) c.eights.invariant.bytes
          ∙ (append_assoc c.args.out.items (bytes_of (take (8 * c.eights.i) (drop c.args.at row))) (bytes_of c.load_eight-words.result)
          ∙ ap (λ (b : List ℕ). c.args.out.items ++ b)
          (bytes-eight (drop c.args.at row) c.load_eight-words.result c.eights.i eight (omega (arith, c.requires.inside, rest)) each)));
      len = omega (arith, c.push_eight.ensures.len, c.eights.invariant.len);
      room = c.push_eight.ensures.capacity ∙ c.eights.invariant.room;
      kept = record { words = c.load_eight-words.ensures.words ∙ c.eights.invariant.kept.words; aside = c.load_eight-words.ensures.aside ∙ c.eights.invariant.kept.aside; rest = c.load_eight-words.ensures.rest ∙ c.eights.invariant.kept.rest };
    }

pub words-preserved : goal.words-preserved
words-preserved g c =
    let row = g.W.WordsIn.words c.eights.from in
    let rest = length-drop c.args.at row in
    let long : length row ≡ length (g.W.WordsIn.words c.args.from.now) = ap (λ (r : List ℕ). length r) c.eights.invariant.kept.words in
    let told : IsTold (g.W.WordsIn.aside c.words.from).windows (c.args.at + c.words.i) = rw (c.words.invariant.kept.aside, c.eights.invariant.kept.aside) (c.requires.told (c.args.at + c.words.i) (omega arith) (omega arith)) in
    let w = c.load-word.ensures.word told
    ∙ (ap (λ (r : List ℕ). get_or r (c.args.at + c.words.i) 0) c.words.invariant.kept.words ∙ sym (get_or-drop c.args.at row c.words.i 0)) in
    record {
      bytes = c.push_word.ensures.bytes
          ∙ (ap (λ (b : List ℕ). b ++ little_bytes 8 c.load-word.result) c.words.invariant.bytes
          ∙ (append_assoc c.args.out.items (bytes_of (take c.words.i (drop c.args.at row))) (little_bytes 8 c.load-word.result)
          ∙ ap (λ (b : List ℕ). c.args.out.items ++ b)
          (bytes-next (drop c.args.at row) c.words.i c.load-word.result (omega (arith, c.requires.inside, rest, long)) w)));
      len = omega (arith, c.push_word.ensures.len, c.words.invariant.len);
      room = c.push_word.ensures.capacity ∙ c.words.invariant.room;
      kept = record { words = c.load-word.ensures.words ∙ c.words.invariant.kept.words; aside = c.load-word.ensures.aside ∙ c.words.invariant.kept.aside; rest = c.load-word.ensures.rest ∙ c.words.invariant.kept.rest };
    }

pub returns-then-left-ne0-clause-bytes : goal.returns-then-left-ne0-clause-bytes
returns-then-left-ne0-clause-bytes g c =
    let ws = drop c.args.at (g.W.WordsIn.words c.eights.from) in
    let full : c.words.i ≡ c.args.len / 8 = omega (arith, c.words-test.false, c.words.auto.i) in
    let long : length (g.W.WordsIn.words c.eights.from) ≡ length (g.W.WordsIn.words c.args.from.now) = ap (λ (r : List ℕ). length r) c.eights.invariant.kept.words in
    let rest = length-drop c.args.at (g.W.WordsIn.words c.eights.from) in
    let same = ap (λ (r : List ℕ). c.args.out.items ++ take c.args.len (bytes_of (drop c.args.at r))) c.eights.invariant.kept.words in
    let told : IsTold (g.W.WordsIn.aside c.words.from).windows (c.args.at + c.args.len / 8) = rw (c.words.invariant.kept.aside, c.eights.invariant.kept.aside) (c.requires.told (c.args.at + c.args.len / 8) (omega arith) (omega arith)) in
    let word = c.load-word-then-left-ne0.ensures.word told
    ∙ (ap (λ (r : List ℕ). get_or r (c.args.at + c.args.len / 8) 0) c.words.invariant.kept.words ∙ sym (get_or-drop c.args.at (g.W.WordsIn.words c.eights.from) (c.args.len / 8) 0)) in
    let before = c.words.invariant.bytes ∙ ap (λ (k : ℕ). c.args.out.items ++ bytes_of (take k ws)) full in
    c.push_part.ensures.bytes
    ∙ (ap (λ (b : List ℕ). b ++ take (c.args.len % 8) (little_bytes 8 c.load-word-then-left-ne0.result)) before
    ∙ (append_assoc c.args.out.items (bytes_of (take (c.args.len / 8) ws)) (take (c.args.len % 8) (little_bytes 8 c.load-word-then-left-ne0.result))
    ∙ (ap (λ (x : ℕ). c.args.out.items ++ (bytes_of (take (c.args.len / 8) ws) ++ take (c.args.len % 8) (little_bytes 8 x))) word
    ∙ (ap (λ (b : List ℕ). c.args.out.items ++ b) (sym (take-bytes_of ws (c.args.len / 8) (c.args.len % 8) c.args.len (omega arith) (omega (arith, c.requires.inside, rest, long)) (omega arith))) ∙ same))))

pub returns-else-left-ne0-clause-bytes : goal.returns-else-left-ne0-clause-bytes
returns-else-left-ne0-clause-bytes g c =
    let ws = drop c.args.at (g.W.WordsIn.words c.eights.from) in
    let full : c.words.i ≡ c.args.len / 8 = omega (arith, c.words-test.false, c.words.auto.i) in
    let long : length (g.W.WordsIn.words c.eights.from) ≡ length (g.W.WordsIn.words c.args.from.now) = ap (λ (r : List ℕ). length r) c.eights.invariant.kept.words in
    let rest = length-drop c.args.at (g.W.WordsIn.words c.eights.from) in
    let same = ap (λ (r : List ℕ). c.args.out.items ++ take c.args.len (bytes_of (drop c.args.at r))) c.eights.invariant.kept.words in
    c.words.invariant.bytes
    ∙ (ap (λ (b : List ℕ). c.args.out.items ++ b) (sym (take-bytes_of-whole ws c.words.i c.args.len (omega arith) (omega (arith, c.requires.inside, rest, long)))) ∙ same)
