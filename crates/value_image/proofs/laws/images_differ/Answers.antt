use Rattle.value_image.proofs.OneGraph.{one_graph}
use Rattle.value_image.proofs.laws.images_differ.Goals as goal

pub returns : goal.returns
returns c = one_graph
