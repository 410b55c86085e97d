use Rattle.std.proofs.Common.{◌≡◌, ◌∷◌, ◌-◌, ℕ, List, Err, take, drop, length, arith}
use Rattle.std.proofs.lemmas.Grind.{common_steps}
use Rattle.notation.specs.Reading.{reading_of}
use Rattle.notation.proofs.PlainValues.{string_found, string_fails}
use Rattle.notation.proofs.plain.read_string.Goals as goal

pub returns-in_err-string-in-115-clause-fault : goal.returns-in_err-string-in-115-clause-fault
returns-in_err-string-in-115-clause-fault c =
    let bytes = c.args.bytes.now in
    let behind : List ℕ = take (length bytes - 1) (drop 1 bytes) in
    let split : bytes ≡ 115 ∷ behind = grind (arith, common_steps) in
    let fails : reading_of bytes ≡ Err c.in_err-string-in-115.field-0.0 = string_fails bytes behind c.in_err-string-in-115.field-0.0 split c.in_err-string-in-115.ensures.read in
    grind (arith, common_steps)

pub returns-in_ok-string-in-115-clause-found : goal.returns-in_ok-string-in-115-clause-found
returns-in_ok-string-in-115-clause-found c =
    let bytes = c.args.bytes.now in
    let behind : List ℕ = take (length bytes - 1) (drop 1 bytes) in
    let split : bytes ≡ 115 ∷ behind = grind (arith, common_steps) in
    string_found bytes behind (c.in_ok-string-in-115.field-0.0.now, c.in_ok-string-in-115.field-0.1.now) split c.in_ok-string-in-115.ensures.read
