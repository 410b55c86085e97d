use Rattle.std.proofs.Common.{refl}
use Rattle.apcu_model.specs.declared.request.Reply.TheVariants as reply
use Rattle.cache_core.proofs.Events.{tells}
use Rattle.shared_cache.proofs.UnderLockLemmas.{at_work}
use Rattle.shared_cache.proofs.locked_cache.LockedCache.cache_info.Goals as goal

pub cache_info-answer-requires : goal.cache_info-answer-requires
cache_info-answer-requires g c = record { stand = (c.begin-w.ensures.taken _ _ c.self.invariant).ready.stand }

pub end_or_give_back-requires-clause-work : goal.end_or_give_back-requires-clause-work
end_or_give_back-requires-clause-work g c = at_work (c.begin-w.ensures.taken _ _ c.self.invariant) c.cache_info-answer.ensures.same.kept.rest

pub invariant_of-self : goal.invariant_of-self
invariant_of-self g c = c.end_or_give_back.ensures.settled (at_work (c.begin-w.ensures.taken _ _ c.self.invariant) c.cache_info-answer.ensures.same.kept.rest) _ reply.Info
    (tells c.cache_info-answer.result reply.Info _ c.cache_info-answer.ensures.info c.cache_info-answer.ensures.same (c.begin-w.ensures.taken _ _ c.self.invariant).ready.stand (λ held. refl) (λ held. refl))

pub returns-clause-event : goal.returns-clause-event
returns-clause-event g c = c.end_or_give_back.ensures.event (at_work (c.begin-w.ensures.taken _ _ c.self.invariant) c.cache_info-answer.ensures.same.kept.rest) _ reply.Info
    (tells c.cache_info-answer.result reply.Info _ c.cache_info-answer.ensures.info c.cache_info-answer.ensures.same (c.begin-w.ensures.taken _ _ c.self.invariant).ready.stand (λ held. refl) (λ held. refl))

pub returns-clause-same : goal.returns-clause-same
returns-clause-same g c = c.end_or_give_back.ensures.same (at_work (c.begin-w.ensures.taken _ _ c.self.invariant) c.cache_info-answer.ensures.same.kept.rest)
