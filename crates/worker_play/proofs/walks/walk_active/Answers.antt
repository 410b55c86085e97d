use Rattle.std.proofs.Common.{◌≡◌, ℕ, ◌++◌, List, [], ◌∷◌, refl, sym, ap, ◌∙◌, append_assoc, arith}
use Rattle.std.proofs.lemmas.List.{append-nil}
use Rattle.apcu_model.specs.declared.request.Request.{Request}
use Rattle.apcu_model.specs.declared.request.Request.TheVariants as request
use Rattle.apcu_model.specs.declared.request.Reply.{Reply}
use Rattle.apcu_model.specs.declared.request.Reply.TheVariants as reply
use Rattle.apcu_model.specs.declared.searching.List.TheVariants.{Active}
use Rattle.script_read.specs.Play.{slot_after}
use Rattle.reply_text.specs.Items.{walk_text}
use Rattle.worker_play.proofs.PassProgress.{nothing_asked, ends, on_ok, if_ok, of_if_ok}
use Rattle.worker_play.proofs.SeveralKeys.{printed}
use Rattle.worker_play.proofs.Iterators.{iterator_goes_on, iterator_breaks, asked_so, steps_over}
use Rattle.worker_play.proofs.walks.walk_active.Goals as goal

-- one step more was kept
kept_more : (steps new : List Reply) (step : Reply) → new ≡ steps ++ step ∷ [] → (later : List Reply) → steps ++ (step ∷ later) ≡ new ++ later
kept_more steps new step is later = sym (append_assoc steps (step ∷ []) later) ∙ ap (λ (l : List Reply). l ++ later) (sym is)

-- no step was kept yet
none_kept : (steps : List Reply) → steps ≡ [] → (later : List Reply) → later ≡ steps ++ later
none_kept steps none later = ap (λ (l : List Reply). l ++ later) (sym none)

pub walking-init : goal.walking-init
walking-init g c = record {
  table = c.requires.table;
  whole = c.requires.whole;
  left = omega (arith, c.requires.left);
  search = refl;
  midway = (nothing_asked _ _ _ _ c.requires.whole, λ later. refl, none_kept _ c.new-steps.ensures.items);
}

pub walking-preserved : goal.walking-preserved
walking-preserved g c =
    let i = c.walking.invariant in
    let kept = c.in-Ok.ensures in
    let asked = of_if_ok _ c.chunk-next.result.1 kept.0 kept.1 c.chunk-next.ensures.event in
    record {
      table = asked.table ∙ i.table;
      whole = asked.all_own;
      left = omega (arith, i.left, asked.left, c.next_slot-from.ensures.up, c.walking-test.true);
      search = c.chunk-next.ensures.search ∙ i.search;
      midway = iterator_goes_on _ _ _ _ _ _ c.args.when.t c.args.context.now.slots (λ from. request.Chunk c.args.search.now from c.args.size Active c.args.fields) c.walking.from _ (reply.Chunk kept.0) (λ replies. replies) (λ later. c.walking.steps.items ++ later) _ i.midway
          (asked_so _ _ _ _ _ _ _ _ (ap (λ s. request.Chunk s c.walking.from c.args.size Active c.args.fields) i.search) asked) c.walking-test.true
          (c.next_slot-from.ensures.is ∙ ap (λ (n : ℕ). slot_after c.args.context.now.slots c.walking.from (reply.Next n)) kept.2) (kept_more _ _ (reply.Chunk kept.0) kept.3);
    }

pub returns-in-Err-clause-reaches : goal.returns-in-Err-clause-reaches
returns-in-Err-clause-reaches g c =
    let i = c.walking.invariant in
    let ask : ℕ → Request = λ from. request.Chunk c.args.search.now from c.args.size Active c.args.fields in
    iterator_breaks _ _ _ _ _ _ c.args.when.t c.args.context.now.slots ask c.walking.from reply.Chunk (λ replies. replies) (λ later. c.walking.steps.items ++ later) c.chunk-next.result.1 i.midway c.walking-test.true
    (if_ok c.chunk-next.result.1 (λ chunk asked. asked_so _ _ _ _ _ _ _ _ (ap (λ s. request.Chunk s c.walking.from c.args.size Active c.args.fields) i.search) asked) c.chunk-next.ensures.event) c.chunk-next.ensures.same

pub returns-clause-reaches : goal.returns-clause-reaches
returns-clause-reaches g c = c.walking.invariant.midway.0

pub returns-clause-line : goal.returns-clause-line
returns-clause-line g c =
    let ask : ℕ → Request = λ from. request.Chunk c.args.search.now from c.args.size Active c.args.fields in
    let t = ends _ _ _ _ _ _ (λ replies. replies) (λ later. c.walking.steps.items ++ later) c.walking.invariant.midway (steps_over c.args.when.t c.args.context.now.slots ask c.walking.from c.walking-test.false) in
    let text = λ (replies : List Reply). c.args.out.now ++ walk_text c.args.fields replies in
    let kept : c.deref.result.now ≡ c.walking.steps.items ++ [] = c.deref.ensures.value ∙ sym (append-nil c.walking.steps.items) in
    on_ok c.write_walk.result (λ e. printed _ _ _ _ _ _ _ text _ t (e ∙ ap text kept)) c.write_walk.ensures
