use Rattle.std.proofs.Common.{rules, ◌≡◌, ◌∙◌, ◌+◌, ap, arith, length, slice_set, slice_index}
use Rattle.seg_words.proofs.Stores.{next_written}
use Rattle.late_words.specs.Zeros.{with_zeros}
use Rattle.late_words.proofs.late_words.LateWordsSegment.store_eight.Goals as goal

pub words-preserved : goal.words-preserved
words-preserved c =
    let s = c.args.self.now in
    let count : length c.args.eight.now ≡ 8 = search rules in
    record {
      place = c.store.ensures.rest ∙ c.words.invariant.place;
      words = c.store.ensures.words ∙ (ap (λ r. slice_set r (c.args.i + c.words.k) (slice_index c.args.eight.now c.words.k)) c.words.invariant.words
          ∙ next_written (with_zeros s.written.items s.len) c.args.eight.now c.args.i c.words.k (omega (arith, c.requires.place)) (omega arith));
    }
