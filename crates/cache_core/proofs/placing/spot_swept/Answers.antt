use Rattle.std.proofs.Common.{◌≡◌, ℕ, false, List, Option, sym, ap, ◌∙◌, subst}
use Rattle.std.specs.List.{list_any}
use Rattle.apcu_model.specs.Cache.{Row}
use Rattle.apcu_model.specs.Expiry.{is_expired}
use Rattle.entry_slots.specs.declared.spots.Spot.{Spot}
use Rattle.entry_slots.specs.Entries.{chain_of}
use Rattle.entry_slots.specs.Spots.{IsSpotOf}
use Rattle.entry_slots.specs.Standing.{entries}
use Rattle.ttl_expunge.specs.Steps.{DropsRows}
use Rattle.ttl_expunge.proofs.EventSteps.{may_kept, drops_nothing, drops_kept}
use Rattle.cache_core.specs.Spots.{IsSpotIfAny}
use Rattle.cache_core.proofs.SpotsAfterRoom.{none_taken}
use Rattle.cache_core.proofs.placing.spot_swept.Goals as goal

pub has_expired-requires-clause-spot : goal.has_expired-requires-clause-spot
has_expired-requires-clause-spot g c =
    let s = entries c.args.slots.now in
    let h : IsSpotOf s c.args.key.now c.args.t c.in-Some.spot = subst (λ (o : Option Spot). IsSpotIfAny s c.args.key.now c.args.t o) c.in-Some.is c.requires.spot in
    h.in_chain

pub returns-then-not-has_expired-clause-swept : goal.returns-then-not-has_expired-clause-swept
returns-then-not-has_expired-clause-swept g c =
    let s = entries c.args.slots.now in
    let h : IsSpotOf s c.args.key.now c.args.t c.in-Some.spot = subst (λ (o : Option Spot). IsSpotIfAny s c.args.key.now c.args.t o) c.in-Some.is c.requires.spot in
    let slot : c.in-Some.spot.slot ≡ c.args.slot = h.slot_is ∙ sym c.requires.slot in
    let none : list_any (is_expired s.conf c.args.t) (chain_of s c.args.slot) ≡ false =
    ap (λ (n : ℕ). list_any (is_expired s.conf c.args.t) (chain_of s n)) (sym slot) ∙ (sym c.has_expired.ensures.expired ∙ c.if-not-has_expired.true) in
    subst (λ (gone : List Row). DropsRows g.S.WordsIn c.args.slots.now c.args.slots.now c.args.seg.now c.has_expired.new.seg c.args.t gone) (sym (none_taken (is_expired s.conf c.args.t) (chain_of s c.args.slot) none))
    (drops_nothing c.args.slots.now c.args.t c.has_expired.ensures.kept c.requires.ready)

pub returns-then-not-has_expired-clause-spot : goal.returns-then-not-has_expired-clause-spot
returns-then-not-has_expired-clause-spot g c = subst (λ (o : Option Spot). IsSpotIfAny (entries c.args.slots.now) c.args.key.now c.args.t o) c.in-Some.is c.requires.spot

pub seek_swept-requires-2-clause-ready : goal.seek_swept-requires-2-clause-ready
seek_swept-requires-2-clause-ready g c = may_kept c.args.slots.now c.has_expired.ensures.kept c.requires.ready

pub returns-clause-swept : goal.returns-clause-swept
returns-clause-swept g c = drops_kept c.has_expired.ensures.kept c.seek_swept-2.ensures.swept
