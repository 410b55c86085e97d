use Rattle.std.proofs.Common.{◌≡◌, ◌+◌, ◌++◌, take, drop}
use Rattle.std.specs.Vec.{vec_ptr}
use Rattle.late_words.specs.Zeros.{with_zeros}
use Rattle.late_words.proofs.late_words.LateWordsSegment.store_eight.Given as goal

abbrev pub invariant-words : goal.invariant-words
invariant-words l = record {
  place : vec_ptr l.self.written ≡ vec_ptr l.initial.self.written;
  words : with_zeros l.self.written.items l.self.len ≡ take l.i (with_zeros l.initial.self.written.items l.initial.self.len) ++ (take l.k l.eight ++ drop (l.i + l.k) (with_zeros l.initial.self.written.items l.initial.self.len));
}
