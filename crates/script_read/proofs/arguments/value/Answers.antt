use Rattle.script_read.proofs.CursorValues.{value_read}
use Rattle.script_read.proofs.arguments.value.Goals as goal

pub returns-in-Ok-clause-read : goal.returns-in-Ok-clause-read
returns-in-Ok-clause-read c =
    value_read c.args.bytes.now c.new-from.result c.read_value.new.from c.in-Ok.graph c.place.result c.new-from.ensures c.in-Ok.ensures.read c.in-Ok.ensures.bytes c.place.ensures.place
