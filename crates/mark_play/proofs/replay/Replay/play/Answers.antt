use Rattle.std.proofs.Common.{◌≡◌, ◌∙◌, ℕ, ◌+◌, ◌-◌, List, Option, ap, sym, subst, arith}
use Rattle.seg_words.specs.contracts.held_words.HeldWordsWordsIn.TheImpl.{ghosts}
use Rattle.std.specs.Prelude.{slice_set}
use Rattle.apcu_model.specs.Asking.{asked}
use Rattle.apcu_model.specs.declared.conf.Conf.{Conf}
use Rattle.apcu_model.specs.Cache.{Cache}
use Rattle.mark_play.specs.Asks.{MayBeAsked}
use Rattle.apcu_model.specs.History.{Stage, reply_in, after_event}
use Rattle.apcu_model.specs.Sequential.{cache_after, reply_to}
use Rattle.cache_core.specs.CoreCache.{cache_of}
use Rattle.cache_core.proofs.Events.{by_now, may_insert, stays}
use Rattle.mark_play.specs.declared.answering.Window.{Window}
use Rattle.mark_play.specs.Events.{event_by}
use Rattle.mark_play.specs.ReplayStages.{Replayed, IsReached}
use Rattle.mark_play.proofs.ReplayEvents.{begun_stand, begun_unrefused, begun_unnamed, begun_again, reply_is, reached, shape_after}
use Rattle.mark_play.proofs.Windows.{flat_ask}
use Rattle.mark_play.proofs.replay.Replay.play.Goals as goal

pub begin_event-requires : goal.begin_event-requires
begin_event-requires c = record {
  stage = c.self.inside.reached.state;
  left = c.self.inside.left;
  at = subst (λ (l : List (Option Window)). IsReached ghosts c.self.inside.core c.self.inside.words l c.self.inside.reached.state c.self.inside.left) (sym c.deref.ensures.value) c.self.invariant;
}

pub answer-requires-clause-may : goal.answer-requires-clause-may
answer-requires-clause-may c =
    let at = subst (λ (l : List (Option Window)). IsReached ghosts c.self.inside.core c.self.inside.words l c.self.inside.reached.state c.self.inside.left) (sym c.deref.ensures.value) c.self.invariant in
    let b = c.begin_event.ensures c.self.inside.reached.state c.self.inside.left at in
    let shape : c.begin_event.new.core.conf ≡ c.args.self.now.stage.cache.conf = ap (λ (x : Cache). x.conf) b.at.cache ∙ ap (λ (r : Replayed). r.stage.cache.conf) c.self.view_is in
    subst (λ (k : Conf). MayBeAsked k c.args.search.now (asked c.args.ask)) (sym shape) c.requires.may

pub answer-requires-clause-ready : goal.answer-requires-clause-ready
answer-requires-clause-ready c =
    let at = subst (λ (l : List (Option Window)). IsReached ghosts c.self.inside.core c.self.inside.words l c.self.inside.reached.state c.self.inside.left) (sym c.deref.ensures.value) c.self.invariant in
    let b = c.begin_event.ensures c.self.inside.reached.state c.self.inside.left at in
    may_insert (begun_stand _ _ _ _ _ _ _ _ b) (begun_unrefused _ _ _ _ _ _ _ _ b)

pub answer-requires-clause-unnamed : goal.answer-requires-clause-unnamed
answer-requires-clause-unnamed c =
    let at = subst (λ (l : List (Option Window)). IsReached ghosts c.self.inside.core c.self.inside.words l c.self.inside.reached.state c.self.inside.left) (sym c.deref.ensures.value) c.self.invariant in
    begun_unnamed _ _ _ _ _ _ _ _ (c.begin_event.ensures c.self.inside.reached.state c.self.inside.left at)

pub invariant_of-self : goal.invariant_of-self
invariant_of-self c =
    let at = subst (λ (l : List (Option Window)). IsReached ghosts c.self.inside.core c.self.inside.words l c.self.inside.reached.state c.self.inside.left) (sym c.deref.ensures.value) c.self.invariant in
    let b = c.begin_event.ensures c.self.inside.reached.state c.self.inside.left at in
    let u = c.in_err-reply.ensures.does.same in
    let step = stays u (begun_stand _ _ _ _ _ _ _ _ b) in
    subst (λ (l : List (Option Window)). IsReached ghosts c.answer.new.core c.answer.new.seg l c.self.inside.reached.state c.self.inside.left) c.deref.ensures.value
    (begun_again _ _ _ _ _ _ _ _ b c.answer.new.core c.answer.new.seg u.core step.stand u.kept.rest)

pub invariant_of-self-2 : goal.invariant_of-self-2
invariant_of-self-2 c =
    let at = subst (λ (l : List (Option Window)). IsReached ghosts c.self.inside.core c.self.inside.words l c.self.inside.reached.state c.self.inside.left) (sym c.deref.ensures.value) c.self.invariant in
    let b = c.begin_event.ensures c.self.inside.reached.state c.self.inside.left at in
    let d = c.in_ok-reply.ensures.does.done in
    let after = by_now (λ (held : List ℕ). cache_after held c.args.t (asked c.args.ask) (cache_of c.begin_event.new.core)) d.cache in
    let l = ap (λ (r : Replayed). r.left) c.self.view_is in
    let one : (c.self.inside.left - 1) + 1 ≡ c.self.inside.left = omega (arith, c.requires.left, l) in
    let r = reached _ _ _ _ _ _ _ _ b c.answer.new.core c.answer.new.seg c.args.worker c.args.t (asked c.args.ask) c.in_ok-reply.window (c.self.inside.left - 1) c.requires.worker one
    (flat_ask c.args.self.now.stage.cache.conf c.args.search.now (asked c.args.ask) c.requires.may) d.step.goes after c.in_ok-reply.ensures.window d.step.stand d.step.rest in
    subst (λ (m : Stage). IsReached ghosts c.answer.new.core c.answer.new.seg (slice_set c.self.inside.windows.items c.args.worker c.in_ok-reply.window) m (c.self.inside.left - 1)) (sym c.then-self-inside.ensures)
    (subst (λ (l : List (Option Window)). IsReached ghosts c.answer.new.core c.answer.new.seg (slice_set l c.args.worker c.in_ok-reply.window) (after_event c.self.inside.reached.state (event_by c.args.worker c.args.mask (asked c.args.ask) c.args.t)) (c.self.inside.left - 1)) c.deref.ensures.value r)

pub returns-clause-reply : goal.returns-clause-reply
returns-clause-reply c =
    let at = subst (λ (l : List (Option Window)). IsReached ghosts c.self.inside.core c.self.inside.words l c.self.inside.reached.state c.self.inside.left) (sym c.deref.ensures.value) c.self.invariant in
    let d = c.in_ok-reply.ensures.does.done in
    reply_is _ _ _ _ _ _ _ _ (c.begin_event.ensures c.self.inside.reached.state c.self.inside.left at)
    c.answer.new.seg c.args.worker c.args.t (asked c.args.ask) c.in_ok-reply.reply d.step.goes (by_now (λ (held : List ℕ). reply_to held c.args.t (asked c.args.ask) (cache_of c.begin_event.new.core)) d.reply)
    ∙ ap (λ (r : Replayed). reply_in r.stage (event_by c.args.worker c.args.mask (asked c.args.ask) c.args.t)) c.self.view_is

pub returns-clause-shape : goal.returns-clause-shape
returns-clause-shape c =
    let at = subst (λ (l : List (Option Window)). IsReached ghosts c.self.inside.core c.self.inside.words l c.self.inside.reached.state c.self.inside.left) (sym c.deref.ensures.value) c.self.invariant in
    let b = c.begin_event.ensures c.self.inside.reached.state c.self.inside.left at in
    ap (λ (m : Stage). m.cache.conf) c.then-self-inside.ensures
    ∙ (shape_after _ _ _ _ _ _ _ _ b (event_by c.args.worker c.args.mask (asked c.args.ask) c.args.t)
    ∙ ap (λ (r : Replayed). r.stage.cache.conf) c.self.view_is)
