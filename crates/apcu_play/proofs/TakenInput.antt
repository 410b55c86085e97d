-- How much of the input was taken.
use Rattle.std.proofs.Common.{ℕ, List, [], length, Option, Some, None, refl, arith}
use Rattle.io_edges.specs.Reading.{HasTakenWithin}
use Rattle.apcu_model.specs.declared.limits.TheConstants.{LONGEST_INPUT}
use Rattle.apcu_play.specs.Tasks.{WasRead}

pub was_taken : (before after : Option (List ℕ)) (input : List ℕ) → WasRead before after input → HasTakenWithin before after LONGEST_INPUT
was_taken before after input read = (length input, read.short, (input, refl, read.taken))

pub none_taken : (left : Option (List ℕ)) (most : ℕ) → HasTakenWithin left left most
none_taken None most = (0, omega arith, ([], refl, refl))
none_taken (Some bytes) most = (0, omega arith, ([], refl, refl))
