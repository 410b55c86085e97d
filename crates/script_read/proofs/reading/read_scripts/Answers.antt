use Rattle.std.proofs.Common.{◌<◌, arith}
use Rattle.std.proofs.lemmas.List.Elements.{recursion_from_All, All-from_get_or}
use Rattle.script_read.specs.Ties.{AreSomeBytes}
use Rattle.script_read.proofs.ReaderAnswers.{found_read, only_read}
use Rattle.script_read.proofs.reading.read_scripts.Goals as goal

pub returns-clause-found : goal.returns-clause-found
returns-clause-found c =
    let all = c.args.bytes.now in
    let bytes : AreSomeBytes all = recursion_from_All (λ b. b < 256) all (All-from_get_or (λ b. b < 256) all 0 (λ i lt. omega (arith, c.type_inv.bytes i))) in
    found_read c.readings_are_scripts.ensures.takes c.args.bytes.now c.read.result bytes c.read.ensures

pub returns-clause-only : goal.returns-clause-only
returns-clause-only c = only_read c.readings_are_scripts.ensures.again c.args.bytes.now c.read.result c.read.ensures
