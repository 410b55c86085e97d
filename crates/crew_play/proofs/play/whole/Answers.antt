use Rattle.std.proofs.Common.{◌≡◌, ◌∷◌, [], length, ap, ◌∙◌, arith, length-append}
use Rattle.std.specs.Prelude.{Ok, Err, List, ℕ, Result}
use Rattle.std.specs.Vec.Iter.{into_iter_items}
use Rattle.worker_play.specs.declared.script.PlayFault.{PlayFault}
use Rattle.worker_play.specs.declared.script.PlayFault.TheVariants.{Memory, Pattern}
use Rattle.crew_play.proofs.WorkerTexts.{items_taken, behind_first, first_there, not_first}
use Rattle.crew_play.proofs.play.whole.Goals as goal

pub loop-text-preserved-in-Ok : goal.loop-text-preserved-in-Ok
loop-text-preserved-in-Ok c =
    let i = c.loop-text.invariant in
    let texts = c.args.texts.items in
    let next = into_iter_items c.loop-text.text-iterator in
    let rest = into_iter_items c.next.new.self in
    let text = c.in-Ok.text in
    let more = c.push_reserved.new.self.items in
    let step : next ≡ Ok text ∷ rest = c.in-Some.ensures.steps.0 ∙ ap (λ (t : Result (List ℕ) PlayFault). t ∷ rest) c.in-Ok.is in
    record {
      items = λ calm. items_taken texts next rest text c.loop-text.all.items more (i.items calm) step c.push_reserved.ensures.items;
      count = omega (arith, i.count, ap length step, ap length c.push_reserved.ensures.items, length-append c.loop-text.all.items (text ∷ []));
      room = omega (arith, i.room, c.push_reserved.ensures.capacity);
      behind = behind_first texts next rest (Ok text) i.behind step;
      ahead = λ there. not_first next rest (Ok text) (Err Memory) (λ e. cc e) step (i.ahead there);
      seen = i.seen;
    }

pub loop-text-preserved : goal.loop-text-preserved
loop-text-preserved c =
    let i = c.loop-text.invariant in
    let texts = c.args.texts.items in
    let next = into_iter_items c.loop-text.text-iterator in
    let rest = into_iter_items c.next.new.self in
    let step : next ≡ Err Pattern ∷ rest = c.in-Some.ensures.steps.0 ∙ ap (λ (t : Result (List ℕ) PlayFault). t ∷ rest) (c.in-Err.is ∙ ap Err c.in-Pattern.is) in
    record {
      items = λ calm. absurd (cc (calm));
      count = omega (arith, i.count, ap length step);
      room = i.room;
      behind = behind_first texts next rest (Err Pattern) i.behind step;
      ahead = λ there. not_first next rest (Err Pattern) (Err Memory) (λ e. cc e) step (i.ahead there);
      seen = λ told. first_there texts next rest (Err Pattern) i.behind step;
    }
