use Rattle.std.proofs.Common.{◌≡◌, ◌+◌, ◌∷◌, [], List, ◌++◌, ap, arith, sym, ◌∙◌, drop, map, length, append-nil}
use Rattle.std.proofs.Math.ListN.{drop_of_length-le}
use Rattle.php_graph.specs.declared.kind.Kind.{Kind}
use Rattle.apcu_model.specs.Infos.{info_gap}
use Rattle.apcu_model.specs.InfoGraphs.{values_run, stepped_members}
use Rattle.info_tables.proofs.ValueRuns.{gap_goes_on, list_told, gaps_stepped, three_steps}
use Rattle.info_tables.proofs.tables.push_gaps.Goals as goal

pub list_of-requires-clause-room : goal.list_of-requires-clause-room
list_of-requires-clause-room c =
    omega (arith, three_steps (c.len-place.result + 1 + 1) (length c.args.gaps.now), c.len-place.ensures.few, c.if-gaps.false)

pub loop-gap-preserved : goal.loop-gap-preserved
loop-gap-preserved c =
    gap_goes_on c.args.gaps.now c.loop-gap.gap-index c.loop-gap.telling c.push_gap.new.telling _ c.loop-gap-test.true c.in_ok-push_gap.ensures
    ∙ c.loop-gap.invariant

pub returns-clause-info : goal.returns-clause-info
returns-clause-info c =
    let gaps = c.args.gaps.now in
    let i = c.loop-gap.invariant in
    let none : drop c.loop-gap.gap-index gaps ≡ [] = drop_of_length-le gaps c.loop-gap-test.false in
    let old = c.args.telling.now in
    let members = stepped_members (c.len-place.result + 1 + 1) 0 3 (length gaps) in
    let are = ap (λ n. stepped_members (n + 1 + 1) 0 3 (length gaps)) c.len-place.ensures.len ∙ sym (gaps_stepped (length old + 1 + 1) 0 gaps) in
    let run = λ (now : List Kind). now ++ values_run (length now + 1) (map info_gap gaps) in
    let start = c.reserve.ensures ∙ c.in_ok-push.ensures ∙ ap (λ kind. old ++ kind ∷ []) c.in_ok-kind.ensures.kind in
    sym (append-nil c.loop-gap.telling) ∙ sym (ap (λ l. c.loop-gap.telling ++ values_run (length c.loop-gap.telling + 1) (map info_gap l)) none) ∙ i ∙ ap run start ∙ list_told old (map info_gap gaps) members are
