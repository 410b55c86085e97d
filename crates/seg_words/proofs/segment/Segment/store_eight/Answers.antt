use Rattle.std.proofs.Common.{rules, ◌≡◌, ◌∙◌, ◌+◌, ap, arith, length, slice_set, slice_index}
use Rattle.seg_words.specs.Blocks.{may_store_set}
use Rattle.seg_words.proofs.Stores.{next_written}
use Rattle.seg_words.proofs.segment.Segment.store_eight.Goals as goal

pub store-requires-clause-apart : goal.store-requires-clause-apart
store-requires-clause-apart g c =
    rw c.words.invariant.aside (c.words.invariant.apart c.words.k (omega arith))

pub words-preserved : goal.words-preserved
words-preserved g c =
    let count : length c.args.eight.now ≡ 8 = search rules in
    record {
      words = c.store.ensures.words ∙ (ap (λ r. slice_set r (c.args.i + c.words.k) (slice_index c.args.eight.now c.words.k)) c.words.invariant.words
          ∙ next_written (g.Self.WordsIn.words c.args.self.now) c.args.eight.now c.args.i c.words.k (omega (arith, c.requires.place)) (omega arith));
      apart = λ k low. rw c.store.ensures.words (may_store_set (g.Self.WordsIn.words c.words.self) (g.Self.WordsIn.aside c.args.self.now).windows (c.args.i + c.words.k) (c.args.i + k) (slice_index c.args.eight.now c.words.k) (c.words.invariant.apart c.words.k (omega arith)) (c.words.invariant.apart k low));
      aside = c.store.ensures.aside ∙ c.words.invariant.aside;
      rest = c.store.ensures.rest ∙ c.words.invariant.rest;
    }
