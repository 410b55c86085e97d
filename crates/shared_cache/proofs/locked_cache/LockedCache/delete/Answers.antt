use Rattle.std.proofs.Common.{refl}
use Rattle.shared_cache.proofs.UnderLockLemmas.{at_work, drops_first}
use Rattle.shared_cache.proofs.locked_cache.LockedCache.delete.Goals as goal

pub delete-found-requires-clause-ready : goal.delete-found-requires-clause-ready
delete-found-requires-clause-ready g c = drops_first (c.begin-w.ensures.taken _ _ c.self.invariant)

pub end-requires-clause-work : goal.end-requires-clause-work
end-requires-clause-work g c = at_work (c.begin-w.ensures.taken _ _ c.self.invariant) c.delete-found.ensures.does.step.rest

pub invariant_of-self : goal.invariant_of-self
invariant_of-self g c = c.end.ensures.settled (at_work (c.begin-w.ensures.taken _ _ c.self.invariant) c.delete-found.ensures.does.step.rest) _ _ _ refl c.delete-found.ensures.does

pub returns : goal.returns
returns g c = (c.end.ensures.follows (at_work (c.begin-w.ensures.taken _ _ c.self.invariant) c.delete-found.ensures.does.step.rest) _ _ _ refl c.delete-found.ensures.does).follows
