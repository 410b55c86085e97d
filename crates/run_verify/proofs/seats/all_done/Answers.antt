use Rattle.std.proofs.Common.{◌<◌, ◌≡◌, ◌∙◌, Some, length, ap, sym, subst, arith}
use Rattle.std.specs.Prelude.{slice_get}
use Rattle.std.proofs.lemmas.Option.{slice_get-get_or}
use Rattle.run_verify.specs.Seats.{KnowsDone}
use Rattle.run_verify.proofs.GameSeats.{one_done, knows_end, knows_more}
use Rattle.run_verify.proofs.seats.all_done.Goals as goal

pub returns-then-not-is_done : goal.returns-then-not-is_done
returns-then-not-is_done c =
    let v = c.loop-worker.worker in
    let seat = c.index-seats-worker.result in
    let low : v < length c.args.seats.now = omega (arith, c.loop-worker-test.true, c.len-worker-end.ensures, c.requires) in
    let here : slice_get c.args.seats.now v ≡ Some seat = slice_get-get_or c.args.seats.now v seat low ∙ ap Some (sym c.index-seats-worker.is) in
    knows_more c.args.scripts.now c.args.seats.now v c.at.result.now seat c.at.ensures here (subst (λ b. KnowsDone c.at.result.now seat b) c.if-not-is_done.true c.is_done.ensures)

pub loop-worker-preserved : goal.loop-worker-preserved
loop-worker-preserved c =
    let v = c.loop-worker.worker in
    let seat = c.index-seats-worker.result in
    let low : v < length c.args.seats.now = omega (arith, c.loop-worker-test.true, c.len-worker-end.ensures, c.requires) in
    let here : slice_get c.args.seats.now v ≡ Some seat = slice_get-get_or c.args.seats.now v seat low ∙ ap Some (sym c.index-seats-worker.is) in
    one_done c.args.scripts.now c.args.seats.now v c.at.result.now seat c.loop-worker.invariant c.at.ensures here (subst (λ b. KnowsDone c.at.result.now seat b) c.if-not-is_done.false c.is_done.ensures)

pub returns : goal.returns
returns c = knows_end c.args.scripts.now c.args.seats.now c.loop-worker.worker (omega (arith, c.loop-worker-test.false, c.len-worker-end.ensures, c.loop-worker.auto.worker-end)) c.loop-worker.invariant
