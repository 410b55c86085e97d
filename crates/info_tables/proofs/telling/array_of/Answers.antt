use Rattle.std.proofs.Common.{◌≡◌, ◌++◌, ap, arith, sym, ◌∙◌, drop, [], append-nil}
use Rattle.std.proofs.lemmas.Grind.{common_steps}
use Rattle.std.proofs.Math.ListN.{drop_of_length-le}
use Rattle.php_graph.specs.declared.kind.Kind.TheVariants as kinds
use Rattle.php_graph.specs.Size.{cells_of}
use Rattle.apcu_model.specs.InfoGraphs.{sized_members, name_cells}
use Rattle.info_tables.proofs.GraphLayout.{array_cells}
use Rattle.info_tables.proofs.telling.array_of.Goals as goal

pub returns-clause-cells : goal.returns-clause-cells
returns-clause-cells c =
    let fields = c.args.fields.now in
    let i = c.loop-field.invariant in
    let none : drop c.loop-field.field-index fields ≡ [] = drop_of_length-le fields c.loop-field-test.false in
    let all = c.from_vec.ensures ∙ sym (append-nil c.loop-field.items.items) ∙ sym (ap (λ l. c.loop-field.items.items ++ sized_members c.loop-field.next l) none) ∙ i.members in
    let many = ap (λ l. cells_of (kinds.Array l)) all ∙ array_cells c.args.place fields in
    omega (arith, many, i.cells, ap name_cells none)

pub returns-in_err-items-clause-kind : goal.returns-in_err-items-clause-kind
returns-in_err-items-clause-kind c = grind (arith, common_steps)

pub returns-in_err-items-clause-cells : goal.returns-in_err-items-clause-cells
returns-in_err-items-clause-cells c = grind (arith, common_steps)

pub returns-in_err-items-clause-small : goal.returns-in_err-items-clause-small
returns-in_err-items-clause-small c = grind (arith, common_steps)

pub loop-field-init : goal.loop-field-init
loop-field-init c = grind (arith, common_steps)

pub offset_bounds-fields-field-index : goal.offset_bounds-fields-field-index
offset_bounds-fields-field-index c = grind (arith, common_steps)

pub bounds-fields-field-index : goal.bounds-fields-field-index
bounds-fields-field-index c = grind (arith, common_steps)

pub of-requires : goal.of-requires
of-requires c = grind (arith, common_steps)

pub returns-in_err-of-clause-kind : goal.returns-in_err-of-clause-kind
returns-in_err-of-clause-kind c = grind (arith, common_steps)

pub returns-in_err-of-clause-cells : goal.returns-in_err-of-clause-cells
returns-in_err-of-clause-cells c = grind (arith, common_steps)

pub returns-in_err-of-clause-small : goal.returns-in_err-of-clause-small
returns-in_err-of-clause-small c = grind (arith, common_steps)

pub returns-in_err-push-clause-kind : goal.returns-in_err-push-clause-kind
returns-in_err-push-clause-kind c = grind (arith, common_steps)

pub returns-in_err-push-clause-cells : goal.returns-in_err-push-clause-cells
returns-in_err-push-clause-cells c = grind (arith, common_steps)

pub returns-in_err-push-clause-small : goal.returns-in_err-push-clause-small
returns-in_err-push-clause-small c = grind (arith, common_steps)

pub overflow_add-next : goal.overflow_add-next
overflow_add-next c = grind (arith, common_steps)

pub overflow_cast-field : goal.overflow_cast-field
overflow_cast-field c = grind (arith, common_steps)

pub words_in-requires : goal.words_in-requires
words_in-requires c = grind (arith, common_steps)

pub from-requires : goal.from-requires
from-requires c = grind (arith, common_steps)

pub overflow_add-cells : goal.overflow_add-cells
overflow_add-cells c = grind (arith, common_steps)

pub overflow_add-cells-in-loop-field : goal.overflow_add-cells-in-loop-field
overflow_add-cells-in-loop-field c = grind (arith, common_steps)

pub loop-field-smaller : goal.loop-field-smaller
loop-field-smaller c = grind (arith, common_steps)

pub loop-field-preserved : goal.loop-field-preserved
loop-field-preserved c = grind (arith, common_steps)

pub from_vec-requires : goal.from_vec-requires
from_vec-requires c = grind (arith, common_steps)

pub returns-clause-kind : goal.returns-clause-kind
returns-clause-kind c = grind (arith, common_steps)

pub returns-clause-small : goal.returns-clause-small
returns-clause-small c = grind (arith, common_steps)
