use Rattle.run_verify.proofs.GameSeats.{EachDone}
use Rattle.run_verify.proofs.seats.all_done.Given as goal

abbrev pub invariant-loop-worker : goal.invariant-loop-worker
invariant-loop-worker l = EachDone l.scripts l.seats l.worker
