use Rattle.std.proofs.Common.{◌≡◌, ◌+◌, ◌-◌, ◌≤◌, ◌++◌, ◌∙◌, List, Option, Some, true, false, length, take, drop, arith, ap, sym, subst, refl}
use Rattle.std.specs.Prelude.{option_map, IfSome}
use Rattle.apcu_model.specs.Conf.{usable_of}
use Rattle.reply_text.specs.Lines.{texts_of}
use Rattle.reply_text.specs.Output.{worker_texts}
use Rattle.script_read.specs.Budgets.{all_events}
use Rattle.script_read.specs.Clock.{all_timed}
use Rattle.script_read.specs.Play.{are_done, marked}
use Rattle.mark_play.specs.ReplayStages.{Replayed}
use Rattle.run_verify.specs.Games.{Game, IsGame, game_begun}
use Rattle.run_verify.specs.JudgedOutputs.{IsJudgedTo}
use Rattle.run_verify.specs.Verdicts.{first_difference}
use Rattle.ghost_log.specs.declared.log.Log.{Log}
use Rattle.run_verify.specs.declared.seat.Seat.{Seat}
use Rattle.run_verify.proofs.EventCounts.{timed_all}
use Rattle.run_verify.proofs.JudgedLines.{judged_none, judged_more, judged_stop, judged_short, judged_whole, none_more, line_mark, line_before, written_back}
use Rattle.run_verify.proofs.verifying.judge.Goals as goal

pub new-requires-clause-usable : goal.new-requires-clause-usable
new-requires-clause-usable g c = usable_of c.requires.good

pub lines-init : goal.lines-init
lines-init g c =
    let conf = c.args.conf.now in
    let s = all_timed c.args.clock c.args.scripts.now in
    let seats : List Seat = c.in_ok-seats.seats.items in
    record {
      judged = subst (λ (x : Game). IsJudgedTo conf s c.args.output.now c.args.part c.args.part 0 x.play) (sym c.start-played.ensures)
          (judged_none conf s c.args.output.now c.args.part c.requires.within c.requires.part);
      game = subst (λ (x : Game). IsGame conf s c.in_ok-replay.replay seats x) (sym c.start-played.ensures)
          (subst (λ (r : Replayed). IsGame conf s r seats (game_begun conf s)) (sym c.in_ok-replay.ensures) (c.in_ok-seats.ensures conf c.args.clock c.in-Some.events));
      left = omega (arith, ap (λ (r : Replayed). r.left) c.in_ok-replay.ensures);
    }

pub returns-then-k-events-clause-verdict : goal.returns-then-k-events-clause-verdict
returns-then-k-events-clause-verdict g c =
    let conf = c.args.conf.now in
    let s = all_timed c.args.clock c.args.scripts.now in
    let p = c.lines.played.state.play in
    let all : all_events conf.slots s ≤ c.lines.k = omega (arith, c.if-k-events.true, c.in-Some.ensures.some, timed_all conf.slots c.args.clock c.args.scripts.now) in
    judged_stop conf s c.args.output.now c.args.part c.lines.at c.line_end-end.result c.lines.k p c.lines.invariant.judged c.line_end-end.ensures.line
    (none_more conf s c.args.output.now c.args.part c.lines.at c.lines.k p c.lines.invariant.judged all (take (c.line_end-end.result - c.lines.at) (drop c.lines.at c.args.output.now)))

pub lines-preserved : goal.lines-preserved
lines-preserved g c =
    let conf = c.args.conf.now in
    let s = all_timed c.args.clock c.args.scripts.now in
    let o = c.args.output.now in
    let p = c.lines.played.state.play in
    let q = c.in-Some-2.next.state.play in
    let end = c.line_end-end.result in
    let goes : Some q ≡ marked conf s p c.in-Some-read_mark.mark = ap (option_map (λ (x : Log Game). x.state.play)) (sym c.in-Some-2.is) ∙ c.in_ok-next.ensures.marked in
    let game : IsGame conf s c.play_mark.new.replay c.play_mark.new.seats c.in-Some-2.next.state =
    subst (λ (r : Option (Log Game)). IfSome r (λ (x : Log Game). IsGame conf s c.play_mark.new.replay c.play_mark.new.seats x.state)) c.in-Some-2.is c.in_ok-next.ensures.game in
    let left = subst (λ (r : Option (Log Game)). IfSome r (λ (x : Log Game). c.play_mark.new.replay.left + 1 ≡ c.lines.replay.left)) c.in-Some-2.is c.in_ok-next.ensures.left in
    record {
      judged = judged_more conf s o c.args.part c.lines.at end c.lines.k p q c.lines.invariant.judged c.line_end-end.ensures.past c.line_end-end.ensures.within c.line_end-end.ensures.line
          (line_mark conf s p (take (end - c.lines.at) (drop c.lines.at o)) c.in-Some-read_mark.mark (Some q) c.in-Some-read_mark.ensures goes);
      game = subst (λ (l : List Seat). IsGame conf s c.play_mark.new.replay l c.in-Some-2.next.state)
          (sym (written_back c.lines.seats.len c.play_mark.new.seats c.lines.seats.items (c.play_mark.auto.seats ∙ ap length c.deref_mut.ensures.value) c.lines.seats.ok.0)) game;
      left = omega (arith, left, c.lines.invariant.left);
    }

pub returns-then-not-all_done-clause-verdict : goal.returns-then-not-all_done-clause-verdict
returns-then-not-all_done-clause-verdict g c =
    let conf = c.args.conf.now in
    let s = all_timed c.args.clock c.args.scripts.now in
    let p = c.lines.played.state.play in
    let game : IsGame conf s c.lines.replay c.deref.result.now c.lines.played.state = subst (λ (l : List Seat). IsGame conf s c.lines.replay l c.lines.played.state) (sym c.deref.ensures.value) c.lines.invariant.game in
    let more : are_done conf s p.replies ≡ false = sym (c.all_done.ensures conf c.args.clock c.lines.replay c.lines.played.state game) ∙ c.if-not-all_done.true in
    judged_short conf s c.args.output.now c.args.part c.lines.at c.lines.k p c.lines.invariant.judged (omega (arith, c.lines-test.false)) more

pub overflow_sub-part : goal.overflow_sub-part
overflow_sub-part g c = (line_before c.args.output.now c.args.part c.requires.within c.requires.part).room

pub returns-clause-verdict : goal.returns-clause-verdict
returns-clause-verdict g c =
    let conf = c.args.conf.now in
    let s = all_timed c.args.clock c.args.scripts.now in
    let o = c.args.output.now in
    let p = c.lines.played.state.play in
    let texts = c.as_slice.result.now in
    let game : IsGame conf s c.lines.replay c.deref.result.now c.lines.played.state = subst (λ (l : List Seat). IsGame conf s c.lines.replay l c.lines.played.state) (sym c.deref.ensures.value) c.lines.invariant.game in
    let done : are_done conf s p.replies ≡ true = sym (c.all_done.ensures conf c.args.clock c.lines.replay c.lines.played.state game) ∙ c.if-not-all_done.false in
    let same : texts ≡ texts_of conf s p.replies = c.as_slice.ensures.value ∙ c.in_ok-texts.ensures conf s c.lines.replay c.lines.played.state c.lines.invariant.game done in
    c.compared.ensures
    ∙ judged_whole conf s o c.args.part c.lines.at c.lines.k p texts (first_difference o (worker_texts 0 texts ++ drop (c.args.part - 8) o)) c.lines.invariant.judged
    (omega (arith, c.lines-test.false)) c.requires.within c.requires.part done same refl
