use Rattle.std.proofs.Common.{◌≡◌, length, arith, rules}
use Rattle.cache_c.proofs.Seats.{zeros_named}
use Rattle.cache_c.proofs.seat_words.is_some.Goals as goal

pub returns-clause-none : goal.returns-clause-none
returns-clause-none c =
    let all : length c.args.seats.now ≡ 64 = search rules in
    λ _. zeros_named c.args.seats.now (λ k low. c.loop-seat.invariant.zeros k (omega (arith, low, c.loop-seat-test.false, all)))
