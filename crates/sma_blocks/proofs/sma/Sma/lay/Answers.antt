use Rattle.std.proofs.Common.{◌≡◌, inl, inr, ℕ, ◌+◌, ◌-◌, ◌%◌, ◌<◌, ◌≤◌, true, false, List, max, refl, sym, ap, ◌∙◌, subst, arith}
use Rattle.seg_words.specs.Windows.{Aside}
use Rattle.seg_words.specs.Blocks.{MayStore}
use Rattle.seg_words.specs.Gaps.{is_whole}
use Rattle.seg_words.specs.Segments.{whole_part}
use Rattle.sma_blocks.specs.declared.bounds.Bounds.{Bounds}
use Rattle.sma_blocks.proofs.FrontGap.{laid_front, laid_total, laid_stands, merged_store, gapped}
use Rattle.sma_blocks.proofs.sma.Sma.lay.Goals as goal

pub loop-end-init : goal.loop-end-init
loop-end-init g c = record {
  laid = laid_front c.requires.laid;
  more = λ lt. c.requires.laid;
  blocks = refl;
  same = λ i out. refl;
  apart = c.requires.apart;
  words = refl;
  count = refl;
  bounds = refl;
  low = c.requires.order;
  high = omega arith;
  even = c.requires.even.1;
  beside = record { aside = refl; rest = refl };
}

pub lay_one-requires-clause-apart : goal.lay_one-requires-clause-apart
lay_one-requires-clause-apart g c = λ i low high.
    let inv = c.loop-end.invariant in
    subst (λ (a : Aside). MayStore (g.S.WordsIn.words c.loop-end.seg) a.windows i) (sym inv.beside.aside) (inv.apart i (omega (arith, c.max-begin.ensures)) high)

pub lay_one-requires-clause-stand : goal.lay_one-requires-clause-stand
lay_one-requires-clause-stand g c =
    let inv = c.loop-end.invariant in
    let own = c.segment_of-own.ensures in
    let lt = c.loop-end-test.true in
    laid_stands inv.laid c.max-begin.result (omega (arith, own.even, c.requires.even.0, c.max-begin.ensures)) inv.even (omega (arith, own.up, c.max-begin.ensures))

pub lay_one-requires-clause-count : goal.lay_one-requires-clause-count
lay_one-requires-clause-count g c =
    let inv = c.loop-end.invariant in
    let own = c.segment_of-own.ensures in
    let lt = c.loop-end-test.true in
    let total = laid_total inv.laid in
    (omega (arith, c.requires.short, inv.words, own.up, c.max-begin.ensures), omega (arith, c.requires.short, inv.words))

pub loop-end-preserved : goal.loop-end-preserved
loop-end-preserved g c =
    let inv = c.loop-end.invariant in
    let own = c.segment_of-own.ensures in
    let lt = c.loop-end-test.true in
    let up = own.up in
    let low = inv.low in
    let high = inv.high in
    let begin = c.max-begin.result in
    let end = c.loop-end.end in
    let is : begin ≡ max c.segment_of-own.result c.args.first = c.max-begin.ensures in
    let piece = c.args.self.now.bounds.piece in
    let some : begin < end = omega arith in
    let from_first : c.args.first ≤ begin = omega arith in
    let begin_even : begin % 2 ≡ 0 = omega (arith, own.even, c.requires.even.0) in
    let all : is_whole piece c.segment_of-own.result (((end - 1) - c.segment_of-own.result) + 1) ≡ true = subst (λ (x : ℕ). is_whole x c.segment_of-own.result (((end - 1) - c.segment_of-own.result) + 1) ≡ true) (ap (λ (b : Bounds). b.piece) inv.bounds) own.whole in
    let whole : is_whole piece begin (end - begin) ≡ true = whole_part piece c.segment_of-own.result (((end - 1) - c.segment_of-own.result) + 1) begin (end - begin) all (omega arith) (omega arith) (omega arith) in
    let one = gapped (inv.more (omega arith)) begin (g.S.WordsIn.words c.lay_one.new.seg) c.lay_one.new.self.sizes c.lay_one.new.self.head c.lay_one.new.self.free in
    let front = one false begin_even inv.even some whole refl c.lay_one.ensures.words c.lay_one.ensures.sizes c.lay_one.ensures.head.0 c.lay_one.ensures.head.1 in
    record {
      laid = front.laid;
      more = λ more.
          let here : begin ≡ c.segment_of-own.result = omega arith in
          let border : is_whole piece (c.segment_of-own.result - 1) 2 ≡ false = subst (λ (x : ℕ). is_whole x (c.segment_of-own.result - 1) 2 ≡ false) (ap (λ (b : Bounds). b.piece) inv.bounds) (own.first (omega arith)) in
          (one true begin_even inv.even some whole (subst (λ (x : ℕ). is_whole piece (x - 1) 2 ≡ false) (sym here) border) c.lay_one.ensures.words c.lay_one.ensures.sizes c.lay_one.ensures.head.0 c.lay_one.ensures.head.1).laid;
      blocks = front.blocks ∙ inv.blocks;
      same = λ i out. front.same i (elim out [ inl l ↦ inl (omega arith) | inr r ↦ inr (omega arith) ]) ∙ inv.same i out;
      apart = λ i low_i high_i.
          let store : (j : ℕ) → c.args.first ≤ j → j < end → MayStore (g.S.WordsIn.words c.loop-end.seg) (g.S.WordsIn.aside c.args.seg.now).windows j = inv.apart in
          subst (λ (xs : List ℕ). MayStore xs (g.S.WordsIn.aside c.args.seg.now).windows i) (sym c.lay_one.ensures.words)
          (merged_store (g.S.WordsIn.words c.loop-end.seg) (g.S.WordsIn.aside c.args.seg.now).windows begin end c.loop-end.self.head i (store begin (omega arith) some) (store (begin + 1) (omega arith) (let even = inv.even in omega arith)) (store i low_i (omega arith)));
      words = front.count ∙ inv.words;
      count = c.lay_one.ensures.sizes.count ∙ inv.count;
      bounds = c.lay_one.ensures.bounds ∙ inv.bounds;
      low = from_first;
      high = omega arith;
      even = begin_even;
      beside = record { aside = c.lay_one.ensures.beside.aside ∙ inv.beside.aside; rest = c.lay_one.ensures.beside.rest ∙ inv.beside.rest };
    }
