use Rattle.std.proofs.Common.{List, length, ap, arith}
use Rattle.php_graph.specs.declared.kind.Kind.{Kind}
use Rattle.notation.specs.Notation.{text_of}
use Rattle.preload_set.proofs.RecordParts.{key_some, key_refused}
use Rattle.preload_set.proofs.records.key.Goals as goal

pub returns-in-Ok-clause-on : goal.returns-in-Ok-clause-on
returns-in-Ok-clause-on c =
    omega (arith, c.in_ok-read_value.ensures.place, ap (λ (g : List Kind). length (text_of g)) c.in-Ok.ensures.string.0, key_some c.in-Ok.key)

pub returns-clause-read : goal.returns-clause-read
returns-clause-read c =
    let place = c.place-place.ensures in
    key_refused c.args.from.now c.read_value.new.from c.in_ok-read_value.field-0 c.place-place.result c.in_ok-read_value.ensures.read c.in-Err.ensures.other.1 place.place (omega (arith, place.place, place.within))
