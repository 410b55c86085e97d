use Rattle.apcu_model.specs.Asking.{asked}
use Rattle.shared_cache.proofs.UnderLockLemmas.{hand, worker_is, left_is, some_left, roomy}
use Rattle.shared_cache.proofs.WindowlessEvents.{Passes, settles, follows_at}
use Rattle.shared_cache.proofs.under_lock.end.Goals as goal
use Rattle.shared_cache.proofs.under_lock.end.Given as given

pub record_event-requires : goal.record_event-requires
record_event-requires g c = record { room = roomy _ _ _ _ _ c.requires.work }

pub give_pass-requires : goal.give_pass-requires
give_pass-requires g c = record { hand = hand _ _ _ _ _ c.requires.work; worker = worker_is _ _ _ _ _ c.requires.work; left = left_is _ _ _ _ _ c.requires.work; budget = some_left _ _ _ _ _ c.requires.work }

passes : (g : given.Over) (c : goal.After-give_pass g) → Passes c.args.w c.give_pass.new.self.1.0 c.give_pass.result c.args.t (asked c.args.ask) c.args.journal.now c.record_event.new.journal
passes g c = record {
  order = c.give_pass.ensures.order;
  small = c.record_event.ensures.small;
  seat = c.give_pass.ensures.table;
  state = c.give_pass.ensures.state;
  given = c.give_pass.ensures.pass;
  known = c.give_pass.ensures.known;
  marks = c.record_event.ensures.marks;
  room = c.record_event.ensures.room;
  flat = c.requires.shallow;
}

pub returns-clause-settled : goal.returns-clause-settled
returns-clause-settled g c = λ work core left y same does. settles work (passes g c) same does

pub returns-clause-follows : goal.returns-clause-follows
returns-clause-follows g c = λ work core left y same does. follows_at work (passes g c) same does
