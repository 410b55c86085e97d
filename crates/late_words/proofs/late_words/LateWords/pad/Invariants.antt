use Rattle.std.proofs.Common.{◌≡◌, ◌-◌, ◌≤◌, ◌++◌, replicate}
use Rattle.std.specs.Prelude.{vec_len}
use Rattle.std.specs.Vec.{vec_ptr}
use Rattle.late_words.proofs.late_words.LateWords.pad.Given as goal

abbrev pub invariant-words : goal.invariant-words
invariant-words l = record {
  items : l.self.written.items ≡ l.initial.self.written.items ++ replicate (vec_len l.self.written - vec_len l.initial.self.written) 0;
  place : vec_ptr l.self.written ≡ vec_ptr l.initial.self.written;
  len : l.self.len ≡ l.initial.self.len;
  low : vec_len l.initial.self.written ≤ vec_len l.self.written;
  high : vec_len l.self.written ≤ l.at;
}

abbrev pub decreases-words : goal.decreases-words
decreases-words l = l.at - vec_len l.self.written
