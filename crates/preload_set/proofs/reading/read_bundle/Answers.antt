use Rattle.std.proofs.Common.{◌<◌, arith}
use Rattle.std.proofs.lemmas.List.Elements.{recursion_from_All, All-from_get_or}
use Rattle.script_read.specs.Ties.{AreSomeBytes}
use Rattle.preload_set.proofs.reading.read_bundle.Goals as goal

pub returns-in-Ok-clause-found : goal.returns-in-Ok-clause-found
returns-in-Ok-clause-found c =
    let all = c.args.bytes.now in
    let bytes : AreSomeBytes all = recursion_from_All (λ b. b < 256) all (All-from_get_or (λ b. b < 256) all 0 (λ i lt. omega (arith, c.type_inv.bytes i))) in
    c.readings_are_bundles.ensures.takes all c.in-Ok.records bytes c.in-Ok.ensures
