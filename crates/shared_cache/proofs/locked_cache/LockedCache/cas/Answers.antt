use Rattle.std.proofs.Common.{length, subst, w64, to_z, of_z, refl}
use Rattle.std.proofs.lemmas.Int.{to_z-of_z}
use Rattle.apcu_model.specs.declared.request.Request.TheVariants as request
use Rattle.apcu_model.specs.declared.request.Reply.TheVariants as reply
use Rattle.shared_cache.specs.Follows.{Follows}
use Rattle.shared_cache.proofs.UnderLockLemmas.{at_work}
use Rattle.shared_cache.proofs.locked_cache.LockedCache.cas.Goals as goal

pub cas-found-requires-clause-stand : goal.cas-found-requires-clause-stand
cas-found-requires-clause-stand g c = (c.begin-w.ensures.taken _ _ c.self.invariant).ready.stand

pub cas-found-requires-clause-unnamed : goal.cas-found-requires-clause-unnamed
cas-found-requires-clause-unnamed g c = (c.begin-w.ensures.taken _ _ c.self.invariant).unnamed

pub end-requires-clause-work : goal.end-requires-clause-work
end-requires-clause-work g c = at_work (c.begin-w.ensures.taken _ _ c.self.invariant) c.cas-found.ensures.does.step.rest

pub invariant_of-self : goal.invariant_of-self
invariant_of-self g c = c.end.ensures.settled (at_work (c.begin-w.ensures.taken _ _ c.self.invariant) c.cas-found.ensures.does.step.rest) _ _ _ refl c.cas-found.ensures.does

pub returns : goal.returns
returns g c =
    subst (λ n. Follows g.N.TableName.conf (length g.N.TableName.budgets) c.args.pass c.end.result c.args.t (request.Cas c.args.key.now n c.args.set) (reply.Flag c.cas-found.result)) (to_z-of_z w64 c.args.expect c.ranges.expect)
    (subst (λ n. Follows g.N.TableName.conf (length g.N.TableName.budgets) c.args.pass c.end.result c.args.t (request.Cas c.args.key.now (to_z w64 (of_z w64 c.args.expect)) n) (reply.Flag c.cas-found.result)) (to_z-of_z w64 c.args.set c.ranges.set)
    (c.end.ensures.follows (at_work (c.begin-w.ensures.taken _ _ c.self.invariant) c.cas-found.ensures.does.step.rest) _ _ _ refl c.cas-found.ensures.does).follows)
