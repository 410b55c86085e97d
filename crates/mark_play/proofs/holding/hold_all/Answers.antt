use Rattle.std.proofs.Common.{◌≡◌, ◌∙◌, ◌+◌, ◌<◌, ℕ, None, List, Option, length, ap, sym, subst, arith}
use Rattle.std.specs.Prelude.{slice_index_or, slice_set}
use Rattle.std.proofs.lemmas.List.{length-set}
use Rattle.std.proofs.lemmas.Nat.Bits.{bit_at_above}
use Rattle.seg_words.specs.contracts.held_words.HeldWordsWordsIn.TheImpl.{ghosts}
use Rattle.seg_words.specs.declared.held_words.HeldWords.{HeldWords}
use Rattle.entry_slots.specs.Entries.{listed}
use Rattle.entry_slots.specs.Standing.{entries}
use Rattle.mark_play.specs.declared.answering.Window.{Window}
use Rattle.mark_play.specs.HeldPlaces.{IsHeldFor}
use Rattle.mark_play.proofs.HeldWorkers.{HoldsBelow, held_next, held_skip, same_default}
use Rattle.mark_play.proofs.holding.hold_all.Goals as goal
use Rattle.mark_play.proofs.holding.hold_all.Goals.{then-mask-worker-eq1, else-mask-worker-eq1}

pub place_for-at-requires-clause-key : goal.place_for-at-requires-clause-key
place_for-at-requires-clause-key c w is =
    let low : c.loop-worker.worker < length c.args.windows.now = omega (arith, c.loop-worker-test.true, c.requires.full) in
    c.requires.keys c.loop-worker.worker w (same_default c.args.windows.now c.loop-worker.worker None c.index-windows-worker.result low ∙ (sym c.index-windows-worker.is ∙ is))

pub loop-worker-preserved : goal.loop-worker-preserved
loop-worker-preserved c =
    let rows = listed (entries c.args.slots.now) in
    let i = c.loop-worker.invariant in
    let n = c.loop-worker.worker in
    let low : n < length c.args.windows.now = omega (arith, c.loop-worker-test.true, c.requires.full) in
    elim c.if-mask-worker-eq1.branch [
      | then-mask-worker-eq1 w ↦
          let looked = w.place_for-at.ensures in
          let before : HeldWords = w.place_for-at.new.seg in
          let rest : ghosts.rest c.if-mask-worker-eq1.words ≡ slice_set (ghosts.rest c.loop-worker.words) n w.place_for-at.result =
          ap (λ (x : HeldWords). ghosts.rest x) w.words-is ∙ (w.hold.ensures.held ∙ ap (λ (h : List ℕ). slice_set h n w.place_for-at.result) looked.kept.rest) in
          let here : IsHeldFor rows (slice_index_or c.args.windows.now n None) w.place_for-at.result =
          subst (λ (o : Option Window). IsHeldFor rows o w.place_for-at.result) (w.index-windows-worker.is ∙ same_default c.args.windows.now n w.index-windows-worker.result None low) looked.place in
          let seats : n < length (ghosts.rest c.loop-worker.words) = omega (arith, c.loop-worker-test.true, i.seats) in
          record {
            held = subst (HoldsBelow rows c.args.windows.now c.args.mask (n + 1)) (sym rest) (held_next rows c.args.windows.now c.args.mask n w.place_for-at.result (ghosts.rest c.loop-worker.words) seats here i.held);
            seats = ap length rest ∙ (length-set (ghosts.rest c.loop-worker.words) n w.place_for-at.result ∙ i.seats);
            words = ap (λ (x : HeldWords). ghosts.words x) w.words-is ∙ (w.hold.ensures.words ∙ (looked.kept.words ∙ i.words));
            aside = ap (λ (x : HeldWords). ghosts.aside x) w.words-is ∙ (w.hold.ensures.aside ∙ (looked.kept.aside ∙ i.aside));
          }
      | else-mask-worker-eq1 w ↦
          let rest : ghosts.rest c.if-mask-worker-eq1.words ≡ ghosts.rest c.loop-worker.words = ap (λ (x : HeldWords). ghosts.rest x) w.words-is in
          record {
            held = subst (HoldsBelow rows c.args.windows.now c.args.mask (n + 1)) (sym rest) (held_skip rows c.args.windows.now c.args.mask n (ghosts.rest c.loop-worker.words) w.if-mask-worker-eq1.false i.held);
            seats = ap length rest ∙ i.seats;
            words = ap (λ (x : HeldWords). ghosts.words x) w.words-is ∙ i.words;
            aside = ap (λ (x : HeldWords). ghosts.aside x) w.words-is ∙ i.aside;
          }
    ]

pub returns-then-mask-eq0-clause-held : goal.returns-then-mask-eq0-clause-held
returns-then-mask-eq0-clause-held c v low bit = absurd (omega (arith, bit, bit_at_above c.args.mask 0 v (omega (arith, c.if-mask-eq0.true)) (omega arith)))
