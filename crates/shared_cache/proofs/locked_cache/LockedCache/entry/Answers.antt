use Rattle.std.proofs.lemmas.Bool.{le-leb}
use Rattle.std.proofs.Common.{length}
use Rattle.apcu_model.specs.declared.request.Reply.TheVariants as reply
use Rattle.apcu_model.specs.Levels.{most_levels}
use Rattle.cache_core.proofs.Events.{step_if}
use Rattle.pin_table.specs.Views.{aside_of}
use Rattle.shared_cache.proofs.UnderLockLemmas.{at_work, entries_of}
use Rattle.shared_cache.proofs.locked_cache.LockedCache.entry.Goals as goal

pub entry-answer-requires-clause-ready : goal.entry-answer-requires-clause-ready
entry-answer-requires-clause-ready g c = (c.begin-w.ensures.taken _ _ c.self.invariant).ready

pub end_or_give_back-requires : goal.end_or_give_back-requires
end_or_give_back-requires g c =
    let k = c.begin-w.ensures.taken _ _ c.self.invariant in
    record {
      work = at_work k (step_if c.entry-answer.result k.ready.stand c.entry-answer.ensures.does).rest;
      shallow = let few = c.requires.levels in le-leb (length c.args.generator.now.levels) most_levels few;
    }

pub invariant_of-self : goal.invariant_of-self
invariant_of-self g c =
    let k = c.begin-w.ensures.taken _ _ c.self.invariant in
    c.end_or_give_back.ensures.settled (at_work k (step_if c.entry-answer.result k.ready.stand c.entry-answer.ensures.does).rest) _ (λ v. reply.Gave v.0) c.entry-answer.ensures.does

pub returns-clause-given : goal.returns-clause-given
returns-clause-given g c =
    let k = c.begin-w.ensures.taken _ _ c.self.invariant in
    rw c.end_or_give_back.ensures.answer (entries_of _ _ _ _ _ _ _ _ _ k c.args.t c.args.generator.now (aside_of c.entry-answer.new.seg.seat.now.state) c.entry-answer.result
    (c.end_or_give_back.ensures.place (at_work k (step_if c.entry-answer.result k.ready.stand c.entry-answer.ensures.does).rest) _ (λ v. reply.Gave v.0) c.entry-answer.ensures.does) c.entry-answer.ensures.fate)

pub returns-clause-same : goal.returns-clause-same
returns-clause-same g c =
    let k = c.begin-w.ensures.taken _ _ c.self.invariant in
    c.end_or_give_back.ensures.same (at_work k (step_if c.entry-answer.result k.ready.stand c.entry-answer.ensures.does).rest)
