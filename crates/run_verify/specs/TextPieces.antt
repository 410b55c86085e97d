-- Comparing piece by piece.
use Rattle.std.specs.Prelude.{◌≡◌, ℕ, ◌+◌, ◌≤◌, List, ◌++◌, length, drop, codes, Some}
use Rattle.std.specs.Fmt.{decimal}
use Rattle.script_read.specs.Grammar.{ends_line}
use Rattle.run_verify.specs.Verdicts.{first_difference}

-- the piece is in the output from `at` on, up to `to`
pub record HasPiece (output : List ℕ) (at : ℕ) (piece : List ℕ) (to : ℕ) : Type 0 where
  pub end : to ≡ at + length piece
  pub within : to ≤ length output
  pub stands : drop at output ≡ piece ++ drop to output

-- whatever follows the piece, the output differs from it first at `place`, counted from `at` on
pub record DiffersAt (output : List ℕ) (at : ℕ) (piece : List ℕ) (place : ℕ) : Type 0 where
  pub from : ℕ
  pub place_is : place ≡ at + from
  pub differs : (rest : List ℕ) → first_difference (drop at output) (piece ++ rest) ≡ Some from

-- a worker's line, and then its text
abbrev pub worker_text : ℕ → List ℕ → List ℕ
worker_text worker text = codes "worker " ++ decimal worker ++ ends_line ++ text
