use Rattle.std.proofs.Common.{refl}
use Rattle.shared_cache.proofs.UnderLockLemmas.{at_work, drops_first}
use Rattle.shared_cache.proofs.locked_cache.LockedCache.clear.Goals as goal

pub clear-requires : goal.clear-requires
clear-requires g c = drops_first (c.begin-w.ensures.taken _ _ c.self.invariant)

pub end-requires-clause-work : goal.end-requires-clause-work
end-requires-clause-work g c = at_work (c.begin-w.ensures.taken _ _ c.self.invariant) c.clear.ensures.step.rest

pub invariant_of-self : goal.invariant_of-self
invariant_of-self g c = c.end.ensures.settled (at_work (c.begin-w.ensures.taken _ _ c.self.invariant) c.clear.ensures.step.rest) _ _ _ refl c.clear.ensures

pub returns : goal.returns
returns g c = (c.end.ensures.follows (at_work (c.begin-w.ensures.taken _ _ c.self.invariant) c.clear.ensures.step.rest) _ _ _ refl c.clear.ensures).follows
