use Rattle.std.proofs.Common.{List, ℕ, sym, subst, arith}
use Rattle.seg_words.specs.Windows.{Aside}
use Rattle.sma_blocks.specs.Ready.{IsReady}
use Rattle.entry_slots.proofs.StorableWords.{may_slot}
use Rattle.entry_slots.proofs.slots.EntrySlots.end_all.Goals as goal

pub store-requires-clause-apart : goal.store-requires-clause-apart
store-requires-clause-apart g c =
    let sma = c.args.self.now.sma in
    let ws : List ℕ = g.S.WordsIn.words c.loop-slot.seg in
    let aside : Aside = g.S.WordsIn.aside c.args.seg.now in
    let ready : IsReady sma ws aside = (c.block_laws.ensures.before sma (g.S.WordsIn.words c.args.seg.now) ws aside c.requires.ready (record { count = c.loop-slot.invariant.count; after = c.loop-slot.invariant.after })).ready in
    subst (λ (a : Aside). Rattle.seg_words.specs.Blocks.MayStore ws a.windows c.loop-slot.slot) (sym c.loop-slot.invariant.beside.aside) (may_slot sma ws aside c.loop-slot.slot ready (omega (arith, c.loop-slot-test.true)))
