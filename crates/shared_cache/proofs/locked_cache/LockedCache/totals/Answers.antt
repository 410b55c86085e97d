use Rattle.std.proofs.Common.{◌≡◌, ℕ, length, Option, refl, sym, ◌∙◌, subst}
use Rattle.std.specs.Prelude.{IfOk}
use Rattle.apcu_model.specs.declared.request.Request.TheVariants as request
use Rattle.apcu_model.specs.declared.request.Reply.TheVariants as reply
use Rattle.apcu_model.specs.declared.searching.Pattern.{Pattern}
use Rattle.cache_core.specs.Events.{DoesIf}
use Rattle.cache_core.proofs.Events.{tells_as}
use Rattle.pin_table.specs.contracts.writer.WriterWordsIn.TheImpl.{ghosts}
use Rattle.shared_cache.specs.Follows.{Follows}
use Rattle.shared_cache.proofs.UnderLockLemmas.{at_work}
use Rattle.shared_cache.proofs.locked_cache.LockedCache.totals.Goals as goal
use Rattle.shared_cache.proofs.locked_cache.LockedCache.totals.Given as given

pub totals-answer-requires : goal.totals-answer-requires
totals-answer-requires g c = record { stand = (c.begin-w.ensures.taken _ _ c.self.invariant).ready.stand }

pub end_or_give_back-requires-clause-work : goal.end_or_give_back-requires-clause-work
end_or_give_back-requires-clause-work g c = at_work (c.begin-w.ensures.taken _ _ c.self.invariant) (c.totals-answer.ensures.same.kept.rest)

does : (g : given.Over) (c : goal.After-end_or_give_back g) (s : Option Pattern) → s ≡ c.args.search.now
    → DoesIf ghosts c.self.inside.core c.totals-answer.new.core c.begin-w.result c.totals-answer.new.seg c.args.t (request.Totals s c.args.list) c.totals-answer.result (λ (r : ℕ × ℕ × ℕ). reply.Totals r.0 r.1 r.2)
does g c s e =
    subst (λ (s : Option Pattern). DoesIf ghosts c.self.inside.core c.totals-answer.new.core c.begin-w.result c.totals-answer.new.seg c.args.t (request.Totals s c.args.list) c.totals-answer.result (λ (r : ℕ × ℕ × ℕ). reply.Totals r.0 r.1 r.2)) (sym e)
    (tells_as c.totals-answer.result (λ (r : ℕ × ℕ × ℕ). reply.Totals r.0 r.1 r.2) _ c.totals-answer.ensures.totals c.totals-answer.ensures.same (c.begin-w.ensures.taken _ _ c.self.invariant).ready.stand (λ held. refl) (λ held. refl))

pub invariant_of-self : goal.invariant_of-self
invariant_of-self g c = c.end_or_give_back.ensures.settled (at_work (c.begin-w.ensures.taken _ _ c.self.invariant) (c.totals-answer.ensures.same.kept.rest)) _ (λ (r : ℕ × ℕ × ℕ). reply.Totals r.0 r.1 r.2) (does g c _ (c.pattern-search.ensures ∙ c.totals-answer.ensures.search))

pub returns-clause-event : goal.returns-clause-event
returns-clause-event g c =
    let e = c.pattern-search.ensures ∙ c.totals-answer.ensures.search in
    subst (λ (s : Option Pattern). IfOk c.end_or_give_back.result.1 (λ a. Follows g.N.TableName.conf (length g.N.TableName.budgets) c.args.pass c.end_or_give_back.result.0 c.args.t (request.Totals s c.args.list) ((λ (r : ℕ × ℕ × ℕ). reply.Totals r.0 r.1 r.2) a))) e
    (c.end_or_give_back.ensures.event (at_work (c.begin-w.ensures.taken _ _ c.self.invariant) (c.totals-answer.ensures.same.kept.rest)) _ (λ (r : ℕ × ℕ × ℕ). reply.Totals r.0 r.1 r.2) (does g c _ e))

pub returns-clause-same : goal.returns-clause-same
returns-clause-same g c = c.end_or_give_back.ensures.same (at_work (c.begin-w.ensures.taken _ _ c.self.invariant) (c.totals-answer.ensures.same.kept.rest))
