use Rattle.std.proofs.Common.{◌≡◌, ◌<◌, ℕ, false, List, sym, ap, ◌∙◌, subst}
use Rattle.std.specs.List.{list_any}
use Rattle.apcu_model.specs.Cache.{Row}
use Rattle.apcu_model.specs.Expiry.{is_expired}
use Rattle.apcu_model.specs.declared.conf.Conf.{Conf}
use Rattle.apcu_model.specs.SlotOrder.{slot_of}
use Rattle.entry_slots.specs.Entries.{chain_of}
use Rattle.entry_slots.specs.Standing.{entries}
use Rattle.ttl_expunge.specs.Steps.{DropsRows}
use Rattle.ttl_expunge.proofs.ReadOnlyCalls.{stand_kept}
use Rattle.ttl_expunge.proofs.EventSteps.{may_kept, drops_nothing, drops_kept, drops_till}
use Rattle.ttl_expunge.proofs.UnexpiredChains.{none_passes, same_conf}
use Rattle.ttl_expunge.proofs.spots.seek_swept.Goals as goal

pub has_expired-requires-clause-stand : goal.has_expired-requires-clause-stand
has_expired-requires-clause-stand g c = stand_kept c.args.slots.now c.seek-spot.ensures.kept c.requires.ready.stand

pub has_expired-requires-clause-spot : goal.has_expired-requires-clause-spot
has_expired-requires-clause-spot g c = c.seek-spot.ensures.spot.in_chain

pub returns-then-not-has_expired-clause-swept : goal.returns-then-not-has_expired-clause-swept
returns-then-not-has_expired-clause-swept g c =
    let s = entries c.args.slots.now in
    let slot : c.seek-spot.result.slot ≡ c.args.slot = c.seek-spot.ensures.spot.slot_is ∙ sym c.requires.slot in
    let none : list_any (is_expired s.conf c.args.t) (chain_of s c.args.slot) ≡ false =
    ap (λ (n : ℕ). list_any (is_expired s.conf c.args.t) (chain_of s n)) (sym slot) ∙ (sym c.has_expired.ensures.expired ∙ c.if-not-has_expired.true) in
    subst (λ (gone : List Row). DropsRows g.S.WordsIn c.args.slots.now c.args.slots.now c.args.seg.now c.has_expired.new.seg c.args.t gone) (sym (none_passes (is_expired s.conf c.args.t) (chain_of s c.args.slot) none))
    (drops_till (drops_nothing c.args.slots.now c.args.t c.seek-spot.ensures.kept c.requires.ready) c.has_expired.ensures.kept)

pub sweep_chain-requires-clause-ready : goal.sweep_chain-requires-clause-ready
sweep_chain-requires-clause-ready g c = may_kept c.args.slots.now c.has_expired.ensures.kept (may_kept c.args.slots.now c.seek-spot.ensures.kept c.requires.ready)

pub sweep_chain-requires-clause-slot : goal.sweep_chain-requires-clause-slot
sweep_chain-requires-clause-slot g c =
    let slot : c.seek-spot.result.slot ≡ c.args.slot = c.seek-spot.ensures.spot.slot_is ∙ sym c.requires.slot in
    subst (λ (n : ℕ). n < (entries c.args.slots.now).conf.slots) slot c.seek-spot.ensures.spot.in_chain.low

pub seek-requires-clause-slot : goal.seek-requires-clause-slot
seek-requires-clause-slot g c = c.requires.slot ∙ ap (λ (k : Conf). slot_of k c.args.key.now) (sym (same_conf c.sweep_chain.ensures.drops))

pub seek-requires-clause-limit : goal.seek-requires-clause-limit
seek-requires-clause-limit g c = c.requires.limit ∙ ap (λ (k : Conf). k.ttl) (sym (same_conf c.sweep_chain.ensures.drops))

pub returns-clause-swept : goal.returns-clause-swept
returns-clause-swept g c = drops_till (drops_kept c.seek-spot.ensures.kept (drops_kept c.has_expired.ensures.kept c.sweep_chain.ensures)) c.seek.ensures.kept
