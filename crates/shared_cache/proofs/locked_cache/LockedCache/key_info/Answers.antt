use Rattle.std.proofs.Common.{refl}
use Rattle.apcu_model.specs.Sequential.{info_reply}
use Rattle.cache_core.proofs.Events.{tells}
use Rattle.shared_cache.proofs.UnderLockLemmas.{at_work}
use Rattle.shared_cache.proofs.locked_cache.LockedCache.key_info.Goals as goal

pub key_info-answer-requires-clause-stand : goal.key_info-answer-requires-clause-stand
key_info-answer-requires-clause-stand g c = (c.begin-w.ensures.taken _ _ c.self.invariant).ready.stand

pub end_or_give_back-requires-clause-work : goal.end_or_give_back-requires-clause-work
end_or_give_back-requires-clause-work g c = at_work (c.begin-w.ensures.taken _ _ c.self.invariant) c.key_info-answer.ensures.same.kept.rest

pub invariant_of-self : goal.invariant_of-self
invariant_of-self g c = c.end_or_give_back.ensures.settled (at_work (c.begin-w.ensures.taken _ _ c.self.invariant) c.key_info-answer.ensures.same.kept.rest) _ info_reply
    (tells c.key_info-answer.result info_reply _ c.key_info-answer.ensures.info c.key_info-answer.ensures.same (c.begin-w.ensures.taken _ _ c.self.invariant).ready.stand (λ held. refl) (λ held. refl))

pub returns-clause-event : goal.returns-clause-event
returns-clause-event g c = c.end_or_give_back.ensures.event (at_work (c.begin-w.ensures.taken _ _ c.self.invariant) c.key_info-answer.ensures.same.kept.rest) _ info_reply
    (tells c.key_info-answer.result info_reply _ c.key_info-answer.ensures.info c.key_info-answer.ensures.same (c.begin-w.ensures.taken _ _ c.self.invariant).ready.stand (λ held. refl) (λ held. refl))

pub returns-clause-same : goal.returns-clause-same
returns-clause-same g c = c.end_or_give_back.ensures.same (at_work (c.begin-w.ensures.taken _ _ c.self.invariant) c.key_info-answer.ensures.same.kept.rest)
