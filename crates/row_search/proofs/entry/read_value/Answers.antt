use Rattle.std.proofs.Common.{◌∙◌, ap, sym, Some, None, Bool}
use Rattle.std.specs.Prelude.{if◌then◌else◌}
use Rattle.row_search.proofs.ChosenRows.{value_told, value_left}
use Rattle.row_search.proofs.entry.read_value.Goals as goal

pub returns-then-fields-eq0-clause-value : goal.returns-then-fields-eq0-clause-value
returns-then-fields-eq0-clause-value g c = λ graph is.
    sym (ap (λ (b : Bool). if b then Some graph else None) (value_left c.args.fields.0 c.if-fields-eq0.true))

pub returns-clause-value : goal.returns-clause-value
returns-clause-value g c = λ graph is.
    ap Some (c.in_ok-unpersist.ensures.graph graph is)
    ∙ sym (ap (λ (b : Bool). if b then Some graph else None) (value_told c.args.fields.0 c.if-fields-eq0.false))
