use Rattle.std.proofs.Common.{◌≡◌, ◌++◌, map, length}
use Rattle.std.specs.Vec.Iter.{into_iter_items, into_iter_len}
use Rattle.run_verify.specs.declared.seat.Seat.{Seat}
use Rattle.run_verify.proofs.seats.into_texts.Given as goal

abbrev pub invariant-loop-seat : goal.invariant-loop-seat
invariant-loop-seat l = record {
  told : l.texts.items ++ map (λ (seat : Seat). seat.text) (into_iter_items l.seat-iterator)
      ≡ map (λ (seat : Seat). seat.text) l.fn.seats.items;
  len : into_iter_len l.seat-iterator ≡ length (into_iter_items l.seat-iterator);
}
