use Rattle.std.proofs.Common.{◌-◌, List, length}
use Rattle.apcu_model.specs.declared.conf.Clock.{Clock}
use Rattle.apcu_model.specs.declared.request.Reply.{Reply}
use Rattle.script_read.specs.Clock.{timed}
use Rattle.run_verify.specs.Seats.{IsSeat}
use Rattle.run_verify.proofs.seat.settle.Given as goal

abbrev pub invariant-loop-seat : goal.invariant-loop-seat
invariant-loop-seat l =
    (clock : Clock) (replies : List Reply) → IsSeat l.conf (timed clock l.script) replies l.fn.seat → IsSeat l.conf (timed clock l.script) replies l.seat

abbrev pub decreases-loop-seat : goal.decreases-loop-seat
decreases-loop-seat l = length l.script - l.seat.step
