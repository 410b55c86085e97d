use Rattle.std.proofs.Common.{◌≡◌, ℕ, ◌<◌, slice_index}
use Rattle.cache_c.proofs.seat_words.is_some.Given as goal

abbrev pub invariant-loop-seat : goal.invariant-loop-seat
invariant-loop-seat l = record {
  zeros : (k : ℕ) → k < l.seat → slice_index l.seats k ≡ 0;
}
