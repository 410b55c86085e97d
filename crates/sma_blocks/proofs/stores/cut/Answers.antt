use Rattle.std.proofs.Common.{◌≡◌, ◌+◌, ◌-◌, Bool, cond, slice_index, slice_set, sym, ap, ◌∙◌, subst, arith}
use Rattle.std.proofs.lemmas.Bool.{lt-ltb, le-ltb}
use Rattle.seg_words.specs.Blocks.{MayStore}
use Rattle.sma_blocks.specs.Walk.{cut_words}
use Rattle.sma_blocks.proofs.WordsAfterTake.{may_store_after}
use Rattle.sma_blocks.proofs.LastGapLink.{told_apart}
use Rattle.sma_blocks.proofs.AllocatorAfterTake.{may_store_seen}
use Rattle.sma_blocks.proofs.stores.cut.Goals as goal
use Rattle.sma_blocks.proofs.stores.cut.Goals.{then-n-size, else-n-size}

pub store-requires-clause-apart : goal.store-requires-clause-apart
store-requires-clause-apart g c =
    may_store_seen (g.S.WordsIn.words c.args.seg.now) _ (g.S.WordsIn.aside c.args.seg.now) _ (c.args.at + c.args.n) c.load-next.ensures.words c.load-next.ensures.aside (c.requires.apart (c.args.at + c.args.n) (omega arith) (omega arith))

pub store-requires-then-n-size-clause-apart : goal.store-requires-then-n-size-clause-apart
store-requires-then-n-size-clause-apart g c =
    let ws = g.S.WordsIn.words c.args.seg.now in
    let aside = g.S.WordsIn.aside c.args.seg.now in
    let room = c.requires.size.2 (omega arith) in
    may_store_seen (slice_set ws (c.args.at + c.args.n) (c.from.result + 1)) _ aside _ ((c.args.at + c.args.n) + 1)
    (c.store.ensures.words ∙ ap (λ xs. slice_set xs (c.args.at + c.args.n) (c.from.result + 1)) c.load-next.ensures.words) (c.store.ensures.aside ∙ c.load-next.ensures.aside)
    (may_store_after ws aside.windows (c.args.at + c.args.n) ((c.args.at + c.args.n) + 1) (c.from.result + 1) (c.requires.apart (c.args.at + c.args.n) (omega arith) (omega arith)) (c.requires.apart ((c.args.at + c.args.n) + 1) (omega arith) (omega arith)))

pub store-requires-2-clause-apart : goal.store-requires-2-clause-apart
store-requires-2-clause-apart g c = elim c.if-n-size.branch [
  | then-n-size w ↦
      let ws = g.S.WordsIn.words c.args.seg.now in
      let aside = g.S.WordsIn.aside c.args.seg.now in
      let lt = w.if-n-size.true in
      let room = c.requires.size.2 lt in
      let i = c.args.at + c.args.n in
      let v = w.from.result + 1 in
      let here = c.requires.apart c.args.at (omega arith) (omega arith) in
      let one = c.requires.apart i (omega arith) (omega arith) in
      let two = c.requires.apart (i + 1) (omega arith) (omega arith) in
      let first : g.S.WordsIn.words w.store.new.self ≡ slice_set ws i v = w.store.ensures.words ∙ ap (λ xs. slice_set xs i v) w.load-next.ensures.words in
      let both : g.S.WordsIn.words w.store-then-n-size.new.self ≡ slice_set (slice_set ws i v) (i + 1) w.load-next.result = w.store-then-n-size.ensures.words ∙ ap (λ xs. slice_set xs (i + 1) w.load-next.result) first in
      let may = may_store_after (slice_set ws i v) aside.windows (i + 1) c.args.at w.load-next.result (may_store_after ws aside.windows i (i + 1) v one two) (may_store_after ws aside.windows i c.args.at v one here) in
      subst (λ s. MayStore (g.S.WordsIn.words s) (g.S.WordsIn.aside s).windows c.args.at) (sym w.seg-is)
      (may_store_seen _ (g.S.WordsIn.words w.store-then-n-size.new.self) aside (g.S.WordsIn.aside w.store-then-n-size.new.self) c.args.at both (w.store-then-n-size.ensures.aside ∙ (w.store.ensures.aside ∙ w.load-next.ensures.aside)) may)
  | else-n-size w ↦
      subst (λ s. MayStore (g.S.WordsIn.words s) (g.S.WordsIn.aside s).windows c.args.at) (sym w.seg-is) (c.requires.apart c.args.at (omega arith) (omega arith))
]

pub returns-clause-words : goal.returns-clause-words
returns-clause-words g c = elim c.if-n-size.branch [
  | then-n-size w ↦
      let ws = g.S.WordsIn.words c.args.seg.now in
      let windows = (g.S.WordsIn.aside c.args.seg.now).windows in
      let lt = w.if-n-size.true in
      let i = c.args.at + c.args.n in
      let next : w.load-next.result ≡ slice_index ws (c.args.at + 1) = w.load-next.ensures.word (told_apart ws windows (c.args.at + 1) (c.requires.apart (c.args.at + 1) (omega arith) (omega arith))) in
      let first : g.S.WordsIn.words w.store.new.self ≡ slice_set ws i ((c.args.size - c.args.n) + 1) = w.store.ensures.words ∙ (ap (λ xs. slice_set xs i (w.from.result + 1)) w.load-next.ensures.words ∙ ap (λ n. slice_set ws i (n + 1)) w.from.ensures) in
      let both : g.S.WordsIn.words w.store-then-n-size.new.self ≡ slice_set (slice_set ws i ((c.args.size - c.args.n) + 1)) (i + 1) (slice_index ws (c.args.at + 1)) = w.store-then-n-size.ensures.words ∙ (ap (λ xs. slice_set xs (i + 1) w.load-next.result) first ∙ ap (λ n. slice_set (slice_set ws i ((c.args.size - c.args.n) + 1)) (i + 1) n) next) in
      let cut : slice_set (slice_set (slice_set ws i ((c.args.size - c.args.n) + 1)) (i + 1) (slice_index ws (c.args.at + 1))) c.args.at c.args.n ≡ cut_words ws c.args.at c.args.size c.args.n =
      ap (λ (b : Bool). slice_set (cond b (slice_set (slice_set ws i ((c.args.size - c.args.n) + 1)) (i + 1) (slice_index ws (c.args.at + 1))) ws) c.args.at c.args.n) (sym (lt-ltb c.args.n c.args.size lt)) in
      c.store-2.ensures.words ∙ (ap (λ s. slice_set (g.S.WordsIn.words s) c.args.at c.from-2.result) w.seg-is ∙ (ap (λ xs. slice_set xs c.args.at c.from-2.result) both ∙ (ap (λ n. slice_set (slice_set (slice_set ws i ((c.args.size - c.args.n) + 1)) (i + 1) (slice_index ws (c.args.at + 1))) c.args.at n) c.from-2.ensures ∙ cut)))
  | else-n-size w ↦
      let ws = g.S.WordsIn.words c.args.seg.now in
      let ge = w.if-n-size.false in
      let cut : slice_set ws c.args.at c.args.n ≡ cut_words ws c.args.at c.args.size c.args.n =
      ap (λ (b : Bool). slice_set (cond b (slice_set (slice_set ws (c.args.at + c.args.n) ((c.args.size - c.args.n) + 1)) ((c.args.at + c.args.n) + 1) (slice_index ws (c.args.at + 1))) ws) c.args.at c.args.n) (sym (le-ltb c.args.n c.args.size ge)) in
      c.store-2.ensures.words ∙ (ap (λ s. slice_set (g.S.WordsIn.words s) c.args.at c.from-2.result) w.seg-is ∙ (ap (λ n. slice_set ws c.args.at n) c.from-2.ensures ∙ cut))
]
