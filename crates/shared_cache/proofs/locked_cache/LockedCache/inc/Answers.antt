use Rattle.std.proofs.Common.{length, subst, w64, refl}
use Rattle.std.proofs.lemmas.Int.{to_z-of_z}
use Rattle.apcu_model.specs.declared.request.Request.TheVariants as request
use Rattle.counter_entry.specs.Numbers.{reply_of}
use Rattle.shared_cache.specs.Follows.{Follows}
use Rattle.shared_cache.proofs.UnderLockLemmas.{at_work}
use Rattle.shared_cache.proofs.locked_cache.LockedCache.inc.Goals as goal

pub inc-answer-requires-clause-ready : goal.inc-answer-requires-clause-ready
inc-answer-requires-clause-ready g c = (c.begin-w.ensures.taken _ _ c.self.invariant).ready

pub inc-answer-requires-clause-unnamed : goal.inc-answer-requires-clause-unnamed
inc-answer-requires-clause-unnamed g c = (c.begin-w.ensures.taken _ _ c.self.invariant).unnamed

pub end-requires-clause-work : goal.end-requires-clause-work
end-requires-clause-work g c = at_work (c.begin-w.ensures.taken _ _ c.self.invariant) c.inc-answer.ensures.does.step.rest

pub invariant_of-self : goal.invariant_of-self
invariant_of-self g c = c.end.ensures.settled (at_work (c.begin-w.ensures.taken _ _ c.self.invariant) c.inc-answer.ensures.does.step.rest) _ _ _ refl c.inc-answer.ensures.does

pub returns : goal.returns
returns g c =
    subst (λ n. Follows g.N.TableName.conf (length g.N.TableName.budgets) c.args.pass c.end.result c.args.t (request.Inc c.args.key.now n c.args.ttl) (reply_of c.inc-answer.result)) (to_z-of_z w64 c.args.step c.ranges.step)
    (c.end.ensures.follows (at_work (c.begin-w.ensures.taken _ _ c.self.invariant) c.inc-answer.ensures.does.step.rest) _ _ _ refl c.inc-answer.ensures.does).follows
