use Rattle.std.proofs.Common.{◌≡◌, ◌+◌, ◌∷◌, [], List, ◌++◌, ap, arith, sym, subst, ◌∙◌, map, length, append-nil, rules}
use Rattle.std.specs.Vec.Iter.{into_iter_items}
use Rattle.std.specs.List.{AllByRecursion}
use Rattle.php_graph.specs.ByteStrings.{AreBytes}
use Rattle.php_graph.specs.declared.kind.Kind.{Kind}
use Rattle.apcu_model.specs.declared.row_info.ListedRow.{ListedRow}
use Rattle.apcu_model.specs.Infos.{info_row}
use Rattle.apcu_model.specs.InfoGraphs.{values_run, stepped_members}
use Rattle.info_tables.proofs.ValueRuns.{run_goes_on, list_told, rows_stepped, nine_steps, nothing_left}
use Rattle.info_tables.proofs.tables.push_rows.Goals as goal

pub list_of-requires-clause-room : goal.list_of-requires-clause-room
list_of-requires-clause-room c =
    omega (arith, nine_steps (c.len-place.result + 1 + 1) c.len-2.result, c.len-place.ensures.few, c.if-len.false, c.len.ensures, c.len-2.ensures)

pub loop-row-init : goal.loop-row-init
loop-row-init c =
    let gives = c.into_iter-row-iterator.ensures.into_iter_gives in
    record {
      info = ap (λ l. c.reserve.new.self ++ values_run (length c.reserve.new.self + 1) (map info_row l)) gives.0;
      keys = λ all. subst (AllByRecursion (λ (row : ListedRow). AreBytes row.key)) gives.0 all;
      len = search rules;
    }

pub loop-row-preserved : goal.loop-row-preserved
loop-row-preserved c =
    let at = c.loop-row in
    let i = at.invariant in
    let x = c.in-Some.row in
    let rest = into_iter_items c.next.new.self in
    let steps : into_iter_items at.row-iterator ≡ x ∷ rest = c.in-Some.ensures.steps.0 in
    record {
      info = run_goes_on at.telling c.push_row.new.telling (info_row x) (map info_row rest) c.in_ok-push_row.ensures.info
          ∙ sym (ap (λ l. at.telling ++ values_run (length at.telling + 1) (map info_row l)) steps) ∙ i.info;
      keys = λ all. i.keys (subst (AllByRecursion (λ (row : ListedRow). AreBytes row.key)) (sym steps) (c.in_ok-push_row.ensures.key, all));
      len = let was = i.len in let gone = c.in-Some.ensures.steps.1 in let short = ap length steps in omega arith;
    }

pub returns-clause-info : goal.returns-clause-info
returns-clause-info c =
    let at = c.loop-row in
    let rows = c.args.rows.items in
    let old = c.args.telling.now in
    let none = c.in-None.ensures.steps in
    let empty : into_iter_items at.row-iterator ≡ [] = nothing_left _ (sym at.invariant.len ∙ none.0) in
    let count : c.len-2.result ≡ length rows = search rules in
    let members = stepped_members (c.len-place.result + 1 + 1) 0 9 c.len-2.result in
    let are = ap (λ n. stepped_members (n + 1 + 1) 0 9 c.len-2.result) c.len-place.ensures.len ∙ ap (λ n. stepped_members (length old + 1 + 1) 0 9 n) count ∙ sym (rows_stepped (length old + 1 + 1) 0 rows) in
    let run = λ (now : List Kind). now ++ values_run (length now + 1) (map info_row rows) in
    let start = c.reserve.ensures ∙ c.in_ok-push.ensures ∙ ap (λ kind. old ++ kind ∷ []) c.in_ok-kind.ensures.kind in
    sym (append-nil at.telling) ∙ sym (ap (λ l. at.telling ++ values_run (length at.telling + 1) (map info_row l)) empty) ∙ at.invariant.info ∙ ap run start ∙ list_told old (map info_row rows) members are
