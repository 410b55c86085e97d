use Rattle.std.proofs.Common.{refl}
use Rattle.apcu_model.specs.declared.request.Request.TheVariants as request
use Rattle.apcu_model.specs.declared.request.Reply.TheVariants as reply
use Rattle.cache_core.specs.Events.{Does}
use Rattle.cache_core.proofs.Events.{does_nothing}
use Rattle.pin_table.specs.contracts.writer.WriterWordsIn.TheImpl.{ghosts}
use Rattle.shared_cache.proofs.UnderLockLemmas.{at_work, hand, worker_is, left_is, some_left, roomy}
use Rattle.shared_cache.proofs.WindowlessEvents.{Passes, settles, follows_at}
use Rattle.shared_cache.proofs.locked_cache.LockedCache.retire.Goals as goal
use Rattle.shared_cache.proofs.locked_cache.LockedCache.retire.Given as given

pub record_event-requires : goal.record_event-requires
record_event-requires g c = record { room = roomy _ _ _ _ _ (at_work {w = c.begin-w.result} (c.begin-w.ensures.taken _ _ c.self.invariant) refl) }

pub give_ended-requires : goal.give_ended-requires
give_ended-requires g c =
    let work = at_work {w = c.begin-w.result} (c.begin-w.ensures.taken _ _ c.self.invariant) refl in
    record { hand = hand _ _ _ _ _ work; worker = worker_is _ _ _ _ _ work; left = left_is _ _ _ _ _ work; budget = some_left _ _ _ _ _ work }

passes : (g : given.Over) (c : goal.After-give_ended g) → Passes c.begin-w.result c.give_ended.new.self.1.0 c.give_ended.result 0 request.Retire c.self.inside.journal c.record_event.new.journal
passes g c = record {
  order = c.give_ended.ensures.order;
  small = c.record_event.ensures.small;
  seat = c.give_ended.ensures.table;
  state = c.give_ended.ensures.state;
  given = c.give_ended.ensures.ended;
  known = c.give_ended.ensures.known;
  marks = c.record_event.ensures.marks;
  room = c.record_event.ensures.room;
  flat = refl;
}

does : (g : given.Over) (c : goal.After-give_ended g) → Does ghosts c.self.inside.core c.self.inside.core c.begin-w.result c.begin-w.result 0 request.Retire reply.Ended
does g c = does_nothing (record { core = refl; kept = record { words = refl; aside = refl; rest = refl } }) (c.begin-w.ensures.taken _ _ c.self.invariant).ready.stand (λ held. refl) (λ held. refl)

pub invariant_of-self : goal.invariant_of-self
invariant_of-self g c = settles (at_work {w = c.begin-w.result} (c.begin-w.ensures.taken _ _ c.self.invariant) refl) (passes g c) refl (does g c)

pub returns : goal.returns
returns g c = (follows_at (at_work {w = c.begin-w.result} (c.begin-w.ensures.taken _ _ c.self.invariant) refl) (passes g c) refl (does g c)).follows
