use Rattle.std.proofs.Common.{◌≡◌, ℕ, ◌+◌, ◌≤◌, List, ◌∷◌, length, drop, Some, ap, ◌∙◌, arith}
use Rattle.std.specs.Prelude.{slice_get}
use Rattle.std.proofs.lemmas.Option.{slice_get_within, get_or_from_slice_get}
use Rattle.std.proofs.lemmas.List.{drop_more}
use Rattle.std.proofs.Math.ListN.{drop_of_length-le}
use Rattle.script_read.specs.declared.script.Step.{Step}
use Rattle.script_read.specs.Budgets.{events_in}
use Rattle.script_read.specs.Calls.{event_bound}
use Rattle.play_tests.proofs.playing.may_play.Goals as goal

-- the events of a step, and those of the steps after it
events_behind : (slots : ℕ) (steps : List Step) (i : ℕ) (step : Step) → slice_get steps i ≡ Some step → events_in slots (drop i steps) ≡ event_bound slots step.call + events_in slots (drop (i + 1) steps)
events_behind slots steps i step is =
    let split : drop i steps ≡ step ∷ drop (i + 1) steps = drop_more steps i step (slice_get_within steps i step is) ∙ ap (λ y. y ∷ drop (i + 1) steps) (get_or_from_slice_get steps i step step is) in
    ap (events_in slots) split

pub loop-i-preserved : goal.loop-i-preserved
loop-i-preserved c =
    let next = events_behind c.args.slots c.args.script.now c.loop-i.i c.at.result.now c.at.ensures.step in
    record {
      all = omega (arith, next, c.loop-i.invariant.all, c.events-more.ensures);
      few = omega arith;
    }

pub returns : goal.returns
returns c = λ _.
    let past : length c.args.script.now ≤ c.loop-i.i = omega (arith, c.loop-i-test.false) in
    let none : events_in c.args.slots (drop c.loop-i.i c.args.script.now) ≡ 0 = ap (events_in c.args.slots) (drop_of_length-le c.args.script.now past) in
    omega (arith, none, c.loop-i.invariant.all, c.loop-i.invariant.few)
