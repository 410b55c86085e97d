use Rattle.std.proofs.Common.{◌≡◌, ◌+◌, ◌-◌, ◌∷◌, [], List, ◌++◌, ap, arith, sym, ◌∙◌, map, length, append-nil}
use Rattle.std.specs.List.{range_with_len}
use Rattle.php_graph.specs.declared.kind.Kind.{Kind}
use Rattle.apcu_model.specs.Infos.{info_gap, info_list, info_segment, info_members, info_numbered}
use Rattle.apcu_model.specs.InfoGraphs.{values_run}
use Rattle.info_tables.proofs.ValueRuns.{run_goes_on, list_told, range_left}
use Rattle.info_tables.proofs.tables.push_segments.Goals as goal

pub loop-k-preserved : goal.loop-k-preserved
loop-k-preserved c =
    let at = c.loop-k in
    let f = info_segment c.args.piece c.args.gaps.now in
    let told = c.in_ok-push_gaps.ensures.info ∙ ap (λ l. at.telling ++ info_list (map info_gap l) (length at.telling + 1)) (c.deref.ensures.value ∙ c.in_ok-list.ensures.gaps) in
    run_goes_on at.telling c.push_gaps.new.telling (f at.k) (map f (range_with_len (at.k + 1) (c.args.segments - (at.k + 1)))) told
    ∙ sym (ap (λ ks. at.telling ++ values_run (length at.telling + 1) (map f ks)) (range_left at.k c.args.segments c.loop-k-test.true))
    ∙ at.invariant

pub returns-clause-info : goal.returns-clause-info
returns-clause-info c =
    let at = c.loop-k in
    let f = info_segment c.args.piece c.args.gaps.now in
    let old = c.args.telling.now in
    let vs = map f (range_with_len 0 c.args.segments) in
    let none : c.args.segments - at.k ≡ 0 = omega (arith, c.loop-k-test.false) in
    let members = info_members (c.len-place.result + 1 + 1) (info_numbered 0 vs) in
    let are = ap (λ n. info_members (n + 1 + 1) (info_numbered 0 vs)) c.len-place.ensures.len in
    let run = λ (now : List Kind). now ++ values_run (length now + 1) vs in
    let start = c.in_ok-push.ensures ∙ ap (λ kind. old ++ kind ∷ []) c.in_ok-kind.ensures.kind in
    sym (append-nil at.telling) ∙ sym (ap (λ n. at.telling ++ values_run (length at.telling + 1) (map f (range_with_len at.k n))) none) ∙ at.invariant ∙ ap run start ∙ list_told old vs members are
