use Rattle.std.proofs.Common.{◌<◌, List, arith}
use Rattle.std.specs.List.{AllByRecursion}
use Rattle.std.proofs.lemmas.List.Elements.{recursion_from_All, All-from_get_or}
use Rattle.value_image.proofs.SingleTexts.{text_graph}
use Rattle.value_image.proofs.contents.text_content.Goals as goal

pub returns-clause-graph : goal.returns-clause-graph
returns-clause-graph c =
    let bytes : AllByRecursion (λ b. b < 256) c.args.bytes.now = recursion_from_All (λ b. b < 256) c.args.bytes.now (All-from_get_or (λ b. b < 256) c.args.bytes.now 0 (λ i lt. omega (arith, c.type_inv.bytes i))) in
    text_graph c.args.bytes.now (c.requires.short, bytes)
