use Rattle.std.proofs.Common.{ℕ, ◌+◌, List, ap, refl, ◌∙◌, slice_set, get_or}
use Rattle.std.proofs.lemmas.List.{take_all}
use Rattle.value_image.specs.Rows.{written}
use Rattle.entry_slots.proofs.Runs.{may_store_next, written_more}
use Rattle.entry_slots.proofs.writing.put_words.Goals as goal

pub store-requires-clause-place : goal.store-requires-clause-place
store-requires-clause-place g c = rw c.loop-i.invariant.words (may_store_next c.lower_laws.ensures _ _ _ c.loop-i.i c.args.run.now c.requires c.loop-i-test.true).0

pub store-requires-clause-apart : goal.store-requires-clause-apart
store-requires-clause-apart g c = rw (c.loop-i.invariant.words, c.loop-i.invariant.beside.aside) (may_store_next c.lower_laws.ensures _ _ _ c.loop-i.i c.args.run.now c.requires c.loop-i-test.true).1

pub loop-i-preserved : goal.loop-i-preserved
loop-i-preserved g c = record {
  words = c.store.ensures.words ∙ (ap (λ (r : List ℕ). slice_set r (c.args.at + c.loop-i.i) (get_or c.args.run.now c.loop-i.i 0)) c.loop-i.invariant.words
      ∙ written_more c.lower_laws.ensures (g.S.WordsIn.words c.args.seg.now) c.args.at c.args.run.now c.loop-i.i (get_or c.args.run.now c.loop-i.i 0) c.loop-i-test.true refl);
  beside = record { aside = c.store.ensures.aside ∙ c.loop-i.invariant.beside.aside; rest = c.store.ensures.rest ∙ c.loop-i.invariant.beside.rest };
}

pub returns-clause-words : goal.returns-clause-words
returns-clause-words g c = c.loop-i.invariant.words ∙ ap (λ (r : List ℕ). written (g.S.WordsIn.words c.args.seg.now) c.args.at r) (take_all c.loop-i.i c.args.run.now c.loop-i-test.false)
