use Rattle.std.proofs.Common.{◌≡◌, ◌+◌, ◌-◌, ◌++◌, ◌∷◌, [], ap, arith, sym, ◌∙◌, append-nil, length, length-append}
use Rattle.php_graph.specs.declared.kind.Kind.TheVariants as kinds
use Rattle.php_graph.specs.Size.{cells_of}
use Rattle.apcu_model.specs.InfoGraphs.{stepped_members}
use Rattle.info_tables.proofs.GraphLayout.{list_cells, step_end, step_room, list_goes_on}
use Rattle.info_tables.proofs.telling.list_of.Goals as goal

pub overflow_add-next : goal.overflow_add-next
overflow_add-next c =
    omega (arith, step_room c.loop-i.next c.args.step (c.args.count - c.loop-i.i) (omega (arith, c.loop-i-test.true)), c.loop-i.invariant.room, c.requires.room)

pub loop-i-preserved : goal.loop-i-preserved
loop-i-preserved c =
    let i = c.loop-i.invariant in
    let items = c.loop-i.items.items in
    let items_are = c.in_ok-push.ensures.items ∙ ap (λ m. items ++ m ∷ []) c.item.ensures in
    record {
      members = ap (λ l. l ++ stepped_members (c.loop-i.next + c.args.step) (c.loop-i.i + 1) c.args.step (c.args.count - (c.loop-i.i + 1))) items_are ∙ list_goes_on items c.loop-i.next c.loop-i.i c.args.step c.args.count c.loop-i-test.true ∙ i.members;
      room = sym (step_end c.loop-i.next c.args.step c.args.count c.loop-i.i c.loop-i-test.true) ∙ i.room;
      count = omega (arith, ap length c.in_ok-push.ensures.items, length-append items (c.item.result ∷ []), i.count);
    }

pub returns-clause-cells : goal.returns-clause-cells
returns-clause-cells c =
    let i = c.loop-i.invariant in
    let none : c.args.count - c.loop-i.i ≡ 0 = omega (arith, c.loop-i-test.false) in
    let all = c.from_vec.ensures ∙ sym (append-nil c.loop-i.items.items) ∙ sym (ap (λ n. c.loop-i.items.items ++ stepped_members c.loop-i.next c.loop-i.i c.args.step n) none) ∙ i.members in
    let many = ap (λ l. cells_of (kinds.Array l)) all ∙ list_cells c.args.place 0 c.args.step c.args.count in
    omega (arith, many, c.from.ensures)
