use Rattle.value_image.proofs.SingleScalars.{bool_graph}
use Rattle.value_image.proofs.scalars.bool_content.Goals as goal

pub returns-clause-graph : goal.returns-clause-graph
returns-clause-graph c = bool_graph c.args.truth
