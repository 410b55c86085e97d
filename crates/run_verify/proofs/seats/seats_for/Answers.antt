use Rattle.std.proofs.Common.{[], ◌∷◌, length, length-append, ap, sym, subst, arith}
use Rattle.run_verify.proofs.GameSeats.{AreFirst, one_first, begins}
use Rattle.run_verify.proofs.seats.seats_for.Goals as goal

pub loop-worker-init : goal.loop-worker-init
loop-worker-init c = record {
  many = ap length c.in_ok-seats.ensures.items;
  all = subst AreFirst (sym c.in_ok-seats.ensures.items) tt;
}

pub loop-worker-preserved : goal.loop-worker-preserved
loop-worker-preserved c =
    let i = c.loop-worker.invariant in
    let e = c.in_ok-push.ensures.items in
    record {
      many = omega (arith, ap length e, length-append c.loop-worker.seats.items (c.in_ok-first.field-0 ∷ []), i.many);
      all = subst AreFirst (sym e) (one_first c.loop-worker.seats.items c.in_ok-first.field-0 i.all c.in_ok-first.ensures);
    }

pub returns : goal.returns
returns c = begins c.args.scripts.now c.loop-worker.seats.items (omega (arith, c.loop-worker.invariant.many, c.loop-worker-test.false, c.len-worker-end.ensures, c.loop-worker.auto._worker-end)) c.loop-worker.invariant.all
