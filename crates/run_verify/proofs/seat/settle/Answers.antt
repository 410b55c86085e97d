use Rattle.std.proofs.Common.{◌∙◌, ◌<◌, [], length, ap, sym, arith}
use Rattle.std.proofs.lemmas.List.{length-map}
use Rattle.script_read.specs.declared.script.Step.{Step}
use Rattle.script_read.specs.Clock.{timed_step, timed}
use Rattle.script_read.specs.Play.{asking_of}
use Rattle.run_verify.specs.Seats.{is_asking, next_from}
use Rattle.run_verify.proofs.CallProgress.{asks_some, asks_none, next_call, no_call, same_step}
use Rattle.run_verify.proofs.TimedScripts.{timed_at}
use Rattle.run_verify.proofs.seat.settle.Goals as goal

pub returns-then-asks-clause-asking : goal.returns-then-asks-clause-asking
returns-then-asks-clause-asking c = record {
  asks = λ step here.
      let seat = c.loop-seat.seat in
      let n = next_from c.args.conf.now.slots (asking_of c.at-step.result.now.call) (length seat.replies) seat.from [] in
      let told = ap (λ k. is_asking (next_from c.args.conf.now.slots (asking_of c.at-step.result.now.call) k seat.from [])) (sym c.len-in-loop-seat.ensures) ∙ (sym c.asks.ensures ∙ c.if-asks.true) in
      let r = asks_some n told in
      (r.0, ap (λ (s : Step). next_from c.args.conf.now.slots (asking_of s.call) (length seat.replies) seat.from []) (same_step c.args.script.now seat.step step c.at-step.result.now here c.at-step.ensures.step) ∙ r.1);
}

pub loop-seat-preserved : goal.loop-seat-preserved
loop-seat-preserved c clock rs s =
    let old = c.loop-seat.seat in
    let step = c.at-step.result.now in
    let told = ap (λ k. is_asking (next_from c.args.conf.now.slots (asking_of step.call) k old.from [])) (sym c.len-in-loop-seat.ensures) ∙ (sym c.asks.ensures ∙ c.if-asks.false) in
    let done = asks_none c.args.conf.now.slots (asking_of step.call) (length old.replies) old.from told in
    let less : old.step < length (timed clock c.args.script.now) = omega (arith, c.loop-seat-test.true, c.len.ensures, length-map c.args.script.now (timed_step clock)) in
    next_call c.args.conf.now (timed clock c.args.script.now) rs old c.next_call.new.seat (timed_step clock step) (timed_at clock c.args.script.now old.step step c.at-step.ensures.step) less done c.in_ok-next_call.ensures
    (c.loop-seat.invariant clock rs s)

pub returns-clause-asking : goal.returns-clause-asking
returns-clause-asking c = record {
  asks = λ step here. absurd (no_call c.args.script.now c.loop-seat.seat.step step (omega (arith, c.loop-seat-test.false, c.len.ensures)) here);
}
