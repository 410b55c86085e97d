use Rattle.std.proofs.Common.{arith}
use Rattle.cache_c.proofs.seat_words.SeatWords.hold.Goals as goal

pub invariant_of-self : goal.invariant_of-self
invariant_of-self c = record { none = c.is_some-self.ensures.none; within = omega arith; room = omega arith }
