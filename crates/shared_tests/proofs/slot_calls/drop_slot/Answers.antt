use Rattle.std.proofs.Common.{length, sym, ap, ◌∙◌, arith}
use Rattle.entry_slots.specs.Entries.{chain_of, removed_at}
use Rattle.entry_slots.specs.Standing.{entries}
use Rattle.shared_tests.proofs.slot_calls.drop_slot.Goals as goal

pub unlink-requires-clause-there : goal.unlink-requires-clause-there
unlink-requires-clause-there g c =
    let s = entries c.loop-at.slots in
    c.place_laws.ensures.chain s c.args.slot c.loop-at.at (c.place_laws.ensures.first (chain_of s c.args.slot) c.loop-at.at c.loop-at.invariant.first c.loop-at-test.true)

pub to_removed-requires-clause-there : goal.to_removed-requires-clause-there
to_removed-requires-clause-there g c =
    let s = entries c.loop-at.slots in
    rw c.unlink.ensures.unlinked (c.place_laws.ensures.unlinks s c.loop-at.at (c.place_laws.ensures.chain s c.args.slot c.loop-at.at (c.place_laws.ensures.first (chain_of s c.args.slot) c.loop-at.at c.loop-at.invariant.first c.loop-at-test.true)))

pub loop-at-smaller : goal.loop-at-smaller
loop-at-smaller g c =
    let s = entries c.loop-at.slots in
    let is = c.to_removed.ensures.removed ∙ ap (removed_at c.loop-at.at c.args.t) c.unlink.ensures.unlinked in
    omega (arith, c.leaving_laws.ensures.shorter s c.args.slot c.loop-at.at (c.place_laws.ensures.first (chain_of s c.args.slot) c.loop-at.at c.loop-at.invariant.first c.loop-at-test.true), ap (λ x. length (chain_of x c.args.slot)) is)

pub returns-clause-empty : goal.returns-clause-empty
returns-clause-empty g c =
    c.standing_laws.ensures.empty c.loop-at.slots (g.S.WordsIn.words c.loop-at.seg) (g.S.WordsIn.aside c.loop-at.seg) (entries c.loop-at.slots) c.args.slot c.loop-at.invariant.stand (sym c.loop-at.invariant.first ∙ c.loop-at-test.false)
