use Rattle.std.proofs.Common.{◌≡◌, ◌≤◌, length, Option, sym, ◌∙◌, subst}
use Rattle.std.specs.Prelude.{IfOk}
use Rattle.apcu_model.specs.declared.conf.Conf.{Conf}
use Rattle.apcu_model.specs.declared.request.Request.TheVariants as request
use Rattle.apcu_model.specs.declared.request.Reply.TheVariants as reply
use Rattle.apcu_model.specs.declared.searching.Pattern.{Pattern}
use Rattle.cache_core.specs.Events.{DoesIf}
use Rattle.cache_core.proofs.Events.{step_if}
use Rattle.pin_table.specs.contracts.writer.WriterWordsIn.TheImpl.{ghosts}
use Rattle.shared_cache.specs.Follows.{Follows}
use Rattle.shared_cache.proofs.UnderLockLemmas.{at_work, drops_first}
use Rattle.shared_cache.proofs.locked_cache.LockedCache.chunk_delete.Goals as goal
use Rattle.shared_cache.proofs.locked_cache.LockedCache.chunk_delete.Given as given

pub chunk_delete-answer-requires-clause-ready : goal.chunk_delete-answer-requires-clause-ready
chunk_delete-answer-requires-clause-ready g c = drops_first (c.begin-w.ensures.taken _ _ c.self.invariant)

pub chunk_delete-answer-requires-clause-from : goal.chunk_delete-answer-requires-clause-from
chunk_delete-answer-requires-clause-from g c = subst (λ (x : Conf). c.args.from ≤ x.slots) (sym (c.begin-w.ensures.taken _ _ c.self.invariant).shape) c.requires.from

pub end_or_give_back-requires-clause-work : goal.end_or_give_back-requires-clause-work
end_or_give_back-requires-clause-work g c = at_work (c.begin-w.ensures.taken _ _ c.self.invariant) ((step_if c.chunk_delete-answer.result (c.begin-w.ensures.taken _ _ c.self.invariant).ready.stand c.chunk_delete-answer.ensures.does).rest)

does : (g : given.Over) (c : goal.After-end_or_give_back g) (s : Option Pattern) → s ≡ c.args.search.now
    → DoesIf ghosts c.self.inside.core c.chunk_delete-answer.new.core c.begin-w.result c.chunk_delete-answer.new.seg c.args.t (request.ChunkDelete s c.args.from c.args.size) c.chunk_delete-answer.result reply.Next
does g c s e =
    subst (λ (s : Option Pattern). DoesIf ghosts c.self.inside.core c.chunk_delete-answer.new.core c.begin-w.result c.chunk_delete-answer.new.seg c.args.t (request.ChunkDelete s c.args.from c.args.size) c.chunk_delete-answer.result reply.Next) (sym e)
    c.chunk_delete-answer.ensures.does

pub invariant_of-self : goal.invariant_of-self
invariant_of-self g c = c.end_or_give_back.ensures.settled (at_work (c.begin-w.ensures.taken _ _ c.self.invariant) ((step_if c.chunk_delete-answer.result (c.begin-w.ensures.taken _ _ c.self.invariant).ready.stand c.chunk_delete-answer.ensures.does).rest)) _ reply.Next (does g c _ (c.pattern-search.ensures ∙ c.chunk_delete-answer.ensures.search))

pub returns-clause-deleted : goal.returns-clause-deleted
returns-clause-deleted g c =
    let e = c.pattern-search.ensures ∙ c.chunk_delete-answer.ensures.search in
    subst (λ (s : Option Pattern). IfOk c.end_or_give_back.result.1 (λ a. Follows g.N.TableName.conf (length g.N.TableName.budgets) c.args.pass c.end_or_give_back.result.0 c.args.t (request.ChunkDelete s c.args.from c.args.size) (reply.Next a))) e
    (c.end_or_give_back.ensures.event (at_work (c.begin-w.ensures.taken _ _ c.self.invariant) ((step_if c.chunk_delete-answer.result (c.begin-w.ensures.taken _ _ c.self.invariant).ready.stand c.chunk_delete-answer.ensures.does).rest)) _ reply.Next (does g c _ e))

pub returns-clause-same : goal.returns-clause-same
returns-clause-same g c = c.end_or_give_back.ensures.same (at_work (c.begin-w.ensures.taken _ _ c.self.invariant) ((step_if c.chunk_delete-answer.result (c.begin-w.ensures.taken _ _ c.self.invariant).ready.stand c.chunk_delete-answer.ensures.does).rest))
