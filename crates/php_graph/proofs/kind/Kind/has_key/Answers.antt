use Rattle.php_graph.proofs.KeyLemmas.{names_without_int}
use Rattle.std.proofs.Common.{sym}
use Rattle.php_graph.proofs.kind.Kind.has_key.Goals as goal

pub returns-in-Int : goal.returns-in-Int
returns-in-Int c = rw (c.in-Object.is, c.in-Int.is) (sym (names_without_int c.in-Object.props c.in-Int.field-0))
