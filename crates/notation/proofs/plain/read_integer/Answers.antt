use Rattle.std.proofs.Common.{◌≡◌, ◌∷◌, ◌-◌, ℕ, List, Err, take, drop, length, arith}
use Rattle.std.proofs.lemmas.Grind.{common_steps}
use Rattle.notation.specs.Reading.{reading_of}
use Rattle.notation.proofs.PlainValues.{integer_found, integer_fails}
use Rattle.notation.proofs.plain.read_integer.Goals as goal

pub returns-in_err-integer-in-105-clause-fault : goal.returns-in_err-integer-in-105-clause-fault
returns-in_err-integer-in-105-clause-fault c =
    let bytes = c.args.bytes.now in
    let behind : List ℕ = take (length bytes - 1) (drop 1 bytes) in
    let split : bytes ≡ 105 ∷ behind = grind (arith, common_steps) in
    let fails : reading_of bytes ≡ Err c.in_err-integer-in-105.field-0.0 = integer_fails bytes behind c.in_err-integer-in-105.field-0.0 split c.in_err-integer-in-105.ensures.read in
    grind (arith, common_steps)

pub returns-in_ok-integer-in-105-clause-found : goal.returns-in_ok-integer-in-105-clause-found
returns-in_ok-integer-in-105-clause-found c =
    let bytes = c.args.bytes.now in
    let behind : List ℕ = take (length bytes - 1) (drop 1 bytes) in
    let split : bytes ≡ 105 ∷ behind = grind (arith, common_steps) in
    integer_found bytes behind (c.in_ok-integer-in-105.field-0.0, c.in_ok-integer-in-105.field-0.1.now) split c.in_ok-integer-in-105.ensures.read
