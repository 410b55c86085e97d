use Rattle.std.proofs.Common.{◌≡◌, ℕ, ◌<◌, get_or, false}
use Rattle.notation.specs.Marks.{ends_number}
use Rattle.notation.proofs.tokens.run_len.Given as goal

abbrev pub invariant-loop-i : goal.invariant-loop-i
invariant-loop-i l = (k : ℕ) → k < l.i → ends_number (get_or l.bytes k 0) ≡ false
