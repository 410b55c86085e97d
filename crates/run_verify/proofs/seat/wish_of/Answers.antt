use Rattle.std.proofs.Common.{◌≤◌, ◌∙◌, ℕ, [], Some, length, ap, sym, subst, arith}
use Rattle.std.specs.Prelude.{Option, IfSome, option_map}
use Rattle.std.proofs.lemmas.List.{length-map}
use Rattle.script_read.specs.Patterns.{call_pattern}
use Rattle.script_read.specs.Clock.{timed_step, timed}
use Rattle.script_read.specs.Play.{Wish, asking_of, moment_for}
use Rattle.mark_play.specs.Asks.{MayBeAsked}
use Rattle.run_verify.specs.declared.asking.Query.{Query}
use Rattle.run_verify.specs.Seats.{asks_or, next_from, queried}
use Rattle.run_verify.proofs.CallProgress.{ends_now, has_ended, wants_now, empty_list, some_list}
use Rattle.run_verify.proofs.TimedScripts.{timed_at}
use Rattle.run_verify.proofs.seat.wish_of.Goals as goal

pub returns-then-is_empty : goal.returns-then-is_empty
returns-then-is_empty c =
    let script = timed c.args.clock c.args.script.now in
    let over : length script ≤ c.args.seat.now.step = omega (arith, c.if-seat-len.true, c.len.ensures, length-map c.args.script.now (timed_step c.args.clock)) in
    record {
      wish = λ rs s. ends_now c.args.conf.now script rs c.args.seat.now s over (empty_list c.args.seat.now.replies (sym c.is_empty.ensures ∙ c.if-is_empty.true));
      may = record { may = λ searched is. tt };
    }

pub returns-else-is_empty : goal.returns-else-is_empty
returns-else-is_empty c =
    let script = timed c.args.clock c.args.script.now in
    let over : length script ≤ c.args.seat.now.step = omega (arith, c.if-seat-len.true, c.len.ensures, length-map c.args.script.now (timed_step c.args.clock)) in
    record {
      wish = λ rs s. has_ended c.args.conf.now script rs c.args.seat.now s over (some_list c.args.seat.now.replies (sym c.is_empty.ensures ∙ c.if-is_empty.false));
      may = tt;
    }

pub returns-in-Some : goal.returns-in-Some
returns-in-Some c =
    let script = timed c.args.clock c.args.script.now in
    let step = c.at-step.result.now in
    let r = queried c.in-Some.query in
    let n = ap (λ k. next_from c.args.conf.now.slots (asking_of step.call) k c.args.seat.now.from []) (sym c.len-2.ensures)
    ∙ (sym c.in_ok-query.ensures.next ∙ ap (λ (o : Option Query). asks_or (option_map queried o)) c.in-Some.is) in
    let may = subst (λ (o : Option Query). IfSome o (λ q. MayBeAsked c.args.conf.now (call_pattern step.call) (queried q))) c.in-Some.is c.in_ok-query.ensures.may in
    let made : ℕ → Wish = λ t. record { request = r; t = t } in
    record {
      wish = λ rs s.
          wants_now c.args.conf.now script rs c.args.seat.now (timed_step c.args.clock step) r s (timed_at c.args.clock c.args.script.now c.args.seat.now.step step c.at-step.ensures.step) n
          ∙ ap (λ t. Some (made t)) (ap (λ t. moment_for t r) (sym c.moment.ensures) ∙ (ap (moment_for c.moment.result) (sym c.ask.ensures) ∙ sym c.moment_of-t.ensures));
      may = record {
        may = λ searched is. subst (λ p. MayBeAsked c.args.conf.now p r) (sym (is step c.at-step.ensures.step)) may;
      };
    }
