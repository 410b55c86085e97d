use Rattle.std.proofs.Common.{subst, sym, refl}
use Rattle.apcu_model.specs.declared.request.Request.TheVariants as request
use Rattle.apcu_model.specs.declared.request.Reply.TheVariants as reply
use Rattle.shared_cache.specs.Follows.{Follows}
use Rattle.std.proofs.Common.{length}
use Rattle.shared_cache.proofs.UnderLockLemmas.{at_work}
use Rattle.shared_cache.proofs.locked_cache.LockedCache.store.Goals as goal

pub store-answer-requires-clause-ready : goal.store-answer-requires-clause-ready
store-answer-requires-clause-ready g c = (c.begin-w.ensures.taken _ _ c.self.invariant).ready

pub end-requires-clause-work : goal.end-requires-clause-work
end-requires-clause-work g c = at_work (c.begin-w.ensures.taken _ _ c.self.invariant) c.store-answer.ensures.does.step.rest

pub invariant_of-self : goal.invariant_of-self
invariant_of-self g c = c.end.ensures.settled (at_work (c.begin-w.ensures.taken _ _ c.self.invariant) c.store-answer.ensures.does.step.rest) _ _ _ refl c.store-answer.ensures.does

pub returns : goal.returns
returns g c =
    subst (λ b. Follows g.N.TableName.conf (length g.N.TableName.budgets) c.args.pass c.end.result c.args.t (request.Store c.args.key.now c.args.value.now c.args.ttl c.args.exclusive) (reply.Flag b)) (sym c.was_stored.ensures)
    (c.end.ensures.follows (at_work (c.begin-w.ensures.taken _ _ c.self.invariant) c.store-answer.ensures.does.step.rest) _ _ _ refl c.store-answer.ensures.does).follows
