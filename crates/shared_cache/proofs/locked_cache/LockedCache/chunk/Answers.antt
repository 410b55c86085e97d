use Rattle.std.proofs.Common.{◌≡◌, ◌≤◌, length, Option, refl, sym, ◌∙◌, subst}
use Rattle.std.specs.Prelude.{IfOk}
use Rattle.apcu_model.specs.declared.conf.Conf.{Conf}
use Rattle.apcu_model.specs.declared.request.Request.TheVariants as request
use Rattle.apcu_model.specs.declared.request.Reply.TheVariants as reply
use Rattle.apcu_model.specs.declared.searching.Pattern.{Pattern}
use Rattle.cache_core.specs.Events.{DoesIf}
use Rattle.cache_core.proofs.Events.{tells}
use Rattle.pin_table.specs.contracts.writer.WriterWordsIn.TheImpl.{ghosts}
use Rattle.shared_cache.specs.Follows.{Follows}
use Rattle.shared_cache.proofs.UnderLockLemmas.{at_work}
use Rattle.shared_cache.proofs.locked_cache.LockedCache.chunk.Goals as goal
use Rattle.shared_cache.proofs.locked_cache.LockedCache.chunk.Given as given

pub chunk-answer-requires-clause-stand : goal.chunk-answer-requires-clause-stand
chunk-answer-requires-clause-stand g c = (c.begin-w.ensures.taken _ _ c.self.invariant).ready.stand

pub chunk-answer-requires-clause-from : goal.chunk-answer-requires-clause-from
chunk-answer-requires-clause-from g c = subst (λ (x : Conf). c.args.from ≤ x.slots) (sym (c.begin-w.ensures.taken _ _ c.self.invariant).shape) c.requires.from

pub end_or_give_back-requires-clause-work : goal.end_or_give_back-requires-clause-work
end_or_give_back-requires-clause-work g c = at_work (c.begin-w.ensures.taken _ _ c.self.invariant) (c.chunk-answer.ensures.same.kept.rest)

does : (g : given.Over) (c : goal.After-end_or_give_back g) (s : Option Pattern) → s ≡ c.args.search.now
    → DoesIf ghosts c.self.inside.core c.chunk-answer.new.core c.begin-w.result c.chunk-answer.new.seg c.args.t (request.Chunk s c.args.from c.args.size c.args.list c.args.fields) c.chunk-answer.result reply.Chunk
does g c s e =
    subst (λ (s : Option Pattern). DoesIf ghosts c.self.inside.core c.chunk-answer.new.core c.begin-w.result c.chunk-answer.new.seg c.args.t (request.Chunk s c.args.from c.args.size c.args.list c.args.fields) c.chunk-answer.result reply.Chunk) (sym e)
    (tells c.chunk-answer.result reply.Chunk _ c.chunk-answer.ensures.chunk c.chunk-answer.ensures.same (c.begin-w.ensures.taken _ _ c.self.invariant).ready.stand (λ held. refl) (λ held. refl))

pub invariant_of-self : goal.invariant_of-self
invariant_of-self g c = c.end_or_give_back.ensures.settled (at_work (c.begin-w.ensures.taken _ _ c.self.invariant) (c.chunk-answer.ensures.same.kept.rest)) _ reply.Chunk (does g c _ (c.pattern.ensures ∙ c.chunk-answer.ensures.search))

pub returns-clause-event : goal.returns-clause-event
returns-clause-event g c =
    let e = c.pattern.ensures ∙ c.chunk-answer.ensures.search in
    subst (λ (s : Option Pattern). IfOk c.end_or_give_back.result.1 (λ a. Follows g.N.TableName.conf (length g.N.TableName.budgets) c.args.pass c.end_or_give_back.result.0 c.args.t (request.Chunk s c.args.from c.args.size c.args.list c.args.fields) (reply.Chunk a))) e
    (c.end_or_give_back.ensures.event (at_work (c.begin-w.ensures.taken _ _ c.self.invariant) (c.chunk-answer.ensures.same.kept.rest)) _ reply.Chunk (does g c _ e))

pub returns-clause-same : goal.returns-clause-same
returns-clause-same g c = c.end_or_give_back.ensures.same (at_work (c.begin-w.ensures.taken _ _ c.self.invariant) (c.chunk-answer.ensures.same.kept.rest))
