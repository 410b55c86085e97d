use Rattle.std.proofs.Common.{◌<◌, sym, ap, ◌∙◌, subst}
use Rattle.std.proofs.lemmas.Bool.{or_left}
use Rattle.entry_slots.specs.Lists.{is_at, has_place}
use Rattle.entry_slots.specs.Entries.{Entries}
use Rattle.apcu_model.specs.declared.conf.Conf.{Conf}
use Rattle.ttl_expunge.proofs.UnexpiredChains.{same_conf}
use Rattle.ttl_expunge.specs.DropRules.{is_to_drop}
use Rattle.std.proofs.lemmas.List.Folds.{list_any-append}
use Rattle.ttl_expunge.proofs.ReadOnlyCalls.{stand_kept}
use Rattle.ttl_expunge.proofs.EventSteps.{may_kept, drops_kept}
use Rattle.ttl_expunge.proofs.SlotDrops.{chaining_starts, chaining_spot, next_is, chaining_on, chaining_falls, chaining_ends}
use Rattle.entry_slots.specs.Standing.{entries}
use Rattle.ttl_expunge.proofs.chains.drop_chain.Goals as goal

pub loop-at-init : goal.loop-at-init
loop-at-init g c =
    let s = entries c.args.slots.now in
    let kept = c.first_in-at.ensures.kept in
    record {
      chaining = chaining_starts (is_to_drop c.args.rule c.args.t) c.args.t s (g.S.WordsIn.aside c.args.seg.now) (g.S.WordsIn.aside c.first_in-at.new.seg) c.args.slot c.first_in-at.result kept.aside c.first_in-at.ensures.first c.requires.ready.refused;
      stand = stand_kept c.args.slots.now kept c.requires.ready.stand;
      rest = kept.rest;
    }

pub after-next-requires-clause-there : goal.after-next-requires-clause-there
after-next-requires-clause-there g c =
    let s = entries c.loop-at.slots in
    let sound = c.standing_laws.ensures.sound c.loop-at.slots (g.S.WordsIn.words c.loop-at.seg) (g.S.WordsIn.aside c.loop-at.seg) (entries c.loop-at.slots) c.loop-at.invariant.stand in
    let n = next_is c.loop-at.invariant.chaining sound c.loop-at-test.true in
    list_any-append (is_at c.loop-at.at) s.rows s.removed ∙ or_left (has_place c.loop-at.at s.rows) (has_place c.loop-at.at s.removed) n.listed

pub drop_if-link-requires : goal.drop_if-link-requires
drop_if-link-requires g c =
    let s = entries c.loop-at.slots in
    let sound = c.standing_laws.ensures.sound c.loop-at.slots (g.S.WordsIn.words c.loop-at.seg) (g.S.WordsIn.aside c.loop-at.seg) (entries c.loop-at.slots) c.loop-at.invariant.stand in
    let n = next_is c.loop-at.invariant.chaining sound c.loop-at-test.true in
    let conf = same_conf c.loop-at.invariant.chaining.drops in
    record {
      ready = may_kept c.loop-at.slots c.after-next.ensures.kept (record { stand = c.loop-at.invariant.stand; refused = c.loop-at.invariant.chaining.drops.refused });
      spot = (0, chaining_spot c.loop-at.invariant.chaining (subst (λ (k : Conf). c.args.slot < k.slots) (sym conf) c.requires.slot));
      there = n.listed;
      limit = λ ttl e. c.requires.limit ttl e ∙ ap (λ (k : Conf). k.ttl) (sym conf);
    }

pub loop-at-preserved : goal.loop-at-preserved
loop-at-preserved g c =
    let s = entries c.loop-at.slots in
    let sound = c.standing_laws.ensures.sound c.loop-at.slots (g.S.WordsIn.words c.loop-at.seg) (g.S.WordsIn.aside c.loop-at.seg) (entries c.loop-at.slots) c.loop-at.invariant.stand in
    let n = next_is c.loop-at.invariant.chaining sound c.loop-at-test.true in
    let drops = (drops_kept c.after-next.ensures.kept c.drop_if-link.ensures.drops).drops in
    let names = c.drop_if-link.ensures.link n.row n.member n.place in
    let slot : c.args.slot < s.conf.slots = subst (λ k. c.args.slot < k) (sym (ap (λ (x : Entries). x.conf.slots) c.loop-at.invariant.chaining.drops.dropped)) c.requires.slot in
    record {
      chaining = chaining_on c.loop-at.invariant.chaining n drops (c.after-next.ensures.row c.args.slot slot n.there) names;
      stand = c.drop_if-link.ensures.drops.stand;
      rest = c.drop_if-link.ensures.drops.rest ∙ (c.after-next.ensures.kept.rest ∙ c.loop-at.invariant.rest);
    }

pub loop-at-smaller : goal.loop-at-smaller
loop-at-smaller g c =
    let s = entries c.loop-at.slots in
    let sound = c.standing_laws.ensures.sound c.loop-at.slots (g.S.WordsIn.words c.loop-at.seg) (g.S.WordsIn.aside c.loop-at.seg) (entries c.loop-at.slots) c.loop-at.invariant.stand in
    let sound' = c.standing_laws.ensures.sound c.drop_if-link.new.slots (g.S.WordsIn.words c.drop_if-link.new.seg) (g.S.WordsIn.aside c.drop_if-link.new.seg) (entries c.drop_if-link.new.slots) c.drop_if-link.ensures.drops.stand in
    let n = next_is c.loop-at.invariant.chaining sound c.loop-at-test.true in
    let drops = (drops_kept c.after-next.ensures.kept c.drop_if-link.ensures.drops).drops in
    let names = c.drop_if-link.ensures.link n.row n.member n.place in
    let slot : c.args.slot < s.conf.slots = subst (λ k. c.args.slot < k) (sym (ap (λ (x : Entries). x.conf.slots) c.loop-at.invariant.chaining.drops.dropped)) c.requires.slot in
    chaining_falls c.loop-at.invariant.chaining n drops (c.after-next.ensures.row c.args.slot slot n.there) names sound'

pub returns : goal.returns
returns g c =
    let sound = c.standing_laws.ensures.sound c.loop-at.slots (g.S.WordsIn.words c.loop-at.seg) (g.S.WordsIn.aside c.loop-at.seg) (entries c.loop-at.slots) c.loop-at.invariant.stand in
    record {
      drops = chaining_ends c.loop-at.invariant.chaining sound c.loop-at-test.false;
      stand = c.loop-at.invariant.stand;
      rest = c.loop-at.invariant.rest;
    }
