-- Words of which only the first ones were written.
use Rattle.std.specs.Prelude.{ℕ, ◌-◌, ◌^◌, ◌<◌, ◌≤◌, List, ◌++◌, length, replicate}
use Rattle.std.proofs.Common.{◌≡◌, arith}
use Rattle.std.proofs.lemmas.List.{length-append, length-replicate}

-- this many words: those that were written, and zeros after them
abbrev pub with_zeros : List ℕ → ℕ → List ℕ
with_zeros written len = written ++ replicate (len - length written) 0

-- their number
pub length_with : (written : List ℕ) (len : ℕ) → length written ≤ len
    → length (with_zeros written len) ≡ len
length_with written len within =
    omega (
      arith,
      within,
      length-append written (replicate {A = ℕ} (len - length written) 0),
      length-replicate {A = ℕ} (len - length written) 0,
    )

pub short_with : (written : List ℕ) (len : ℕ) → length written ≤ len → len < 2 ^ 32
    → length (with_zeros written len) < 2 ^ 32
short_with written len within short = omega (arith, length_with written len within, short)
