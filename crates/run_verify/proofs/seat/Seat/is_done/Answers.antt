use Rattle.std.proofs.Common.{◌<◌, length, sym, subst, arith}
use Rattle.std.proofs.lemmas.Bool.{lt-leb}
use Rattle.run_verify.specs.Seats.{KnowsDone}
use Rattle.run_verify.proofs.GameSeats.{done_more, done_over}
use Rattle.run_verify.proofs.seat.Seat.is_done.Goals as goal

pub returns-then-self-len : goal.returns-then-self-len
returns-then-self-len c = done_over c.args.script.now c.args.self.now (omega (arith, c.if-self-len.true, c.len.ensures)) c.is_empty.result c.is_empty.ensures

pub returns-else-self-len : goal.returns-else-self-len
returns-else-self-len c =
    let low : c.args.self.now.step < length c.args.script.now = omega (arith, c.if-self-len.false, c.len.ensures) in
    subst (λ b. KnowsDone c.args.script.now c.args.self.now b) (sym (lt-leb c.len.result c.args.self.now.step (omega (arith, c.if-self-len.false)))) (done_more c.args.script.now c.args.self.now low)
