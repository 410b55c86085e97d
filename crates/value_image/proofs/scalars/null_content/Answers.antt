use Rattle.value_image.proofs.SingleScalars.{null_graph}
use Rattle.value_image.proofs.scalars.null_content.Goals as goal

pub returns-clause-graph : goal.returns-clause-graph
returns-clause-graph c = null_graph
