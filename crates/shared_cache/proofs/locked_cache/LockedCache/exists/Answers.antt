use Rattle.std.proofs.Common.{ap, refl}
use Rattle.apcu_model.specs.declared.request.Reply.TheVariants as reply
use Rattle.cache_core.proofs.Events.{does_nothing}
use Rattle.shared_cache.proofs.UnderLockLemmas.{at_work}
use Rattle.shared_cache.proofs.locked_cache.LockedCache.exists.Goals as goal

pub exists-found-requires-clause-stand : goal.exists-found-requires-clause-stand
exists-found-requires-clause-stand g c = (c.begin-w.ensures.taken _ _ c.self.invariant).ready.stand

pub end-requires-clause-work : goal.end-requires-clause-work
end-requires-clause-work g c = at_work (c.begin-w.ensures.taken _ _ c.self.invariant) c.exists-found.ensures.kept.rest

pub invariant_of-self : goal.invariant_of-self
invariant_of-self g c = c.end.ensures.settled (at_work (c.begin-w.ensures.taken _ _ c.self.invariant) c.exists-found.ensures.kept.rest) _ _ _ refl (does_nothing (record { core = refl; kept = c.exists-found.ensures.kept }) (c.begin-w.ensures.taken _ _ c.self.invariant).ready.stand (λ held. ap reply.Flag c.exists-found.ensures.found) (λ held. refl))

pub returns : goal.returns
returns g c = (c.end.ensures.follows (at_work (c.begin-w.ensures.taken _ _ c.self.invariant) c.exists-found.ensures.kept.rest) _ _ _ refl (does_nothing (record { core = refl; kept = c.exists-found.ensures.kept }) (c.begin-w.ensures.taken _ _ c.self.invariant).ready.stand (λ held. ap reply.Flag c.exists-found.ensures.found) (λ held. refl))).follows
