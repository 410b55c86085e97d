use Rattle.std.proofs.Common.{◌∙◌, ap, sym, subst, arith}
use Rattle.seg_words.specs.contracts.held_words.HeldWordsWordsIn.TheImpl.{ghosts}
use Rattle.entry_slots.specs.declared.slots.EntrySlots.{EntrySlots}
use Rattle.entry_slots.specs.Entries.{listed}
use Rattle.entry_slots.specs.Standing.{Stand, entries}
use Rattle.cache_core.specs.declared.cache.Core.{Core}
use Rattle.cache_core.specs.LentEntries.{with_slots}
use Rattle.mark_play.specs.HeldPlaces.{HasKeyIn}
use Rattle.mark_play.specs.ReplayStages.{IsReached}
use Rattle.mark_play.proofs.ReplayEvents.{keyed}
use Rattle.mark_play.proofs.holding.begin_event.Goals as goal

pub hold_all-requires-clause-keys : goal.hold_all-requires-clause-keys
hold_all-requires-clause-keys c v w is =
    let r = c.requires in
    subst (λ (e : EntrySlots). HasKeyIn (listed (entries e)) w) (sym c.slots.ensures.value)
    (keyed c.lower_laws.ensures ghosts c.args.core.now c.args.words.now c.args.windows.now r.stage r.left r.at v w is)

pub hold_all-requires-clause-stand : goal.hold_all-requires-clause-stand
hold_all-requires-clause-stand c =
    subst (λ (e : EntrySlots). Stand ghosts e c.args.words.now) (sym c.slots.ensures.value) c.requires.at.stand.stand

pub hold_all-requires-clause-full : goal.hold_all-requires-clause-full
hold_all-requires-clause-full c = c.requires.at.full

pub hold_all-requires-clause-seats : goal.hold_all-requires-clause-seats
hold_all-requires-clause-seats c = c.requires.at.seats

pub returns : goal.returns
returns c m left at = record {
  laws = c.lower_laws.ensures;
  at = subst (λ (k : Core). IsReached ghosts k c.args.words.now c.args.windows.now m left) (sym (ap (with_slots c.args.core.now) c.slots.ensures.value)) at;
  held = ghosts.rest c.hold_all.new.words;
  seats = c.hold_all.ensures.seats;
  small = omega (arith, c.ranges.mask);
  held_for = c.hold_all.ensures.held;
  words = c.begin.ensures.words ∙ c.hold_all.ensures.words;
  aside = c.begin.ensures.aside;
  rest = c.begin.ensures.held;
}
