use Rattle.notation.proofs.ValueTexts.{reading_takes}
use Rattle.notation.proofs.Graphs.{reading_is_graph}
use Rattle.notation.proofs.ValueReadBack.{spelled_read}
use Rattle.notation.proofs.laws.readings_are_spellings.Goals as goal

pub returns-clause-takes : goal.returns-clause-takes
returns-clause-takes c = reading_takes c.integer_texts.ensures.written

pub returns-clause-again : goal.returns-clause-again
returns-clause-again c = λ g rest graph. spelled_read c.integer_texts.ensures.read g rest graph (c.graphs_are_written.ensures g graph)

pub returns-clause-graph : goal.returns-clause-graph
returns-clause-graph c = reading_is_graph c.integer_texts.ensures.written c.written_graphs.ensures.graph
