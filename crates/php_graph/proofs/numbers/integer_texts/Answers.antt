use Rattle.php_graph.proofs.NumberTexts.{text_written, text_read}
use Rattle.php_graph.proofs.numbers.integer_texts.Goals as goal

pub returns-clause-written : goal.returns-clause-written
returns-clause-written c = text_written

pub returns-clause-read : goal.returns-clause-read
returns-clause-read c = text_read
