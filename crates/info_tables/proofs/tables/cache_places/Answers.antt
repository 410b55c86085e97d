use Rattle.std.proofs.Common.{◌≡◌, ◌+◌, ◌∷◌, [], List, ◌++◌, ap, arith, sym, subst, ◌∙◌, map, length, rules}
use Rattle.std.proofs.lemmas.Grind.{common_steps}
use Rattle.php_graph.specs.declared.kind.Kind.{Kind}
use Rattle.apcu_model.specs.Infos.{info_row, info_list, info_values, info_counts, info_array, info_rows}
use Rattle.apcu_model.specs.InfoGraphs.{IsTellable}
use Rattle.info_tables.proofs.ValueRuns.{cache_told}
use Rattle.info_tables.proofs.TableValues.{cache_tellable}
use Rattle.info_tables.proofs.tables.cache_places.Goals as goal

all_told : (c : goal.In_ok-push_rows-2)
    → c.push_rows-2.new.telling ≡ info_array (info_counts c.args.conf c.args.counts c.args.words ++ info_rows c.args.rows.items c.args.removed.items) 1
all_told c =
    let many : c.len-2.result ≡ length c.args.rows.items = search rules in
    let start = c.in_ok-push_counts.ensures ∙ ap (λ (t : List Kind). t ++ info_values 2 (info_counts c.args.conf c.args.counts c.args.words)) (c.new-telling.ensures ∙ ap (λ (k : Kind). k ∷ []) c.in_ok-first.ensures.kind) in
    c.in_ok-push_rows-2.ensures.info
    ∙ ap (λ (t : List Kind). t ++ info_list (map info_row c.args.removed.items) (length t + 1))
    (c.in_ok-push_rows.ensures.info ∙ ap (λ (t : List Kind). t ++ info_list (map info_row c.args.rows.items) (length t + 1)) start)
    ∙ cache_told c.args.conf c.args.counts c.args.words c.len-2.result c.args.rows.items c.args.removed.items many

pub returns-clause-info : goal.returns-clause-info
returns-clause-info c = all_told c

pub returns-clause-tellable : goal.returns-clause-tellable
returns-clause-tellable c =
    subst IsTellable (sym (all_told c)) (cache_tellable c.args.conf c.args.counts c.args.words c.args.rows.items c.args.removed.items c.in_ok-push_rows.ensures.keys c.in_ok-push_rows-2.ensures.keys c.in_ok-push_rows.ensures.few c.in_ok-push_rows-2.ensures.few)

pub returns-then-len-clause-info : goal.returns-then-len-clause-info
returns-then-len-clause-info c = grind (arith, common_steps)

pub returns-then-len-clause-tellable : goal.returns-then-len-clause-tellable
returns-then-len-clause-tellable c = grind (arith, common_steps)

pub overflow_cast-len : goal.overflow_cast-len
overflow_cast-len c = grind (arith, common_steps)

pub overflow_mul-len : goal.overflow_mul-len
overflow_mul-len c = grind (arith, common_steps)

pub overflow_add-len : goal.overflow_add-len
overflow_add-len c = grind (arith, common_steps)

pub slice_bounds-array_of-end-11 : goal.slice_bounds-array_of-end-11
slice_bounds-array_of-end-11 c = grind (arith, common_steps)

pub array_of-requires-clause-few : goal.array_of-requires-clause-few
array_of-requires-clause-few c = grind (arith, common_steps)

pub array_of-requires-clause-short : goal.array_of-requires-clause-short
array_of-requires-clause-short c = grind (arith, common_steps)

pub array_of-requires-clause-room : goal.array_of-requires-clause-room
array_of-requires-clause-room c = grind (arith, common_steps)

pub returns-in_err-first-clause-info : goal.returns-in_err-first-clause-info
returns-in_err-first-clause-info c = grind (arith, common_steps)

pub returns-in_err-first-clause-tellable : goal.returns-in_err-first-clause-tellable
returns-in_err-first-clause-tellable c = grind (arith, common_steps)

pub new-telling-requires-clause-cells : goal.new-telling-requires-clause-cells
new-telling-requires-clause-cells c = grind (arith, common_steps)

pub new-telling-requires-clause-small : goal.new-telling-requires-clause-small
new-telling-requires-clause-small c = grind (arith, common_steps)

pub push_counts-requires : goal.push_counts-requires
push_counts-requires c = grind (arith, common_steps)

pub drop-telling-requires : goal.drop-telling-requires
drop-telling-requires c = grind (arith, common_steps)

pub returns-in_err-push_counts-clause-info : goal.returns-in_err-push_counts-clause-info
returns-in_err-push_counts-clause-info c = grind (arith, common_steps)

pub returns-in_err-push_counts-clause-tellable : goal.returns-in_err-push_counts-clause-tellable
returns-in_err-push_counts-clause-tellable c = grind (arith, common_steps)

pub push_rows-requires : goal.push_rows-requires
push_rows-requires c = grind (arith, common_steps)

pub drop-telling-requires-in_err-push_rows : goal.drop-telling-requires-in_err-push_rows
drop-telling-requires-in_err-push_rows c = grind (arith, common_steps)

pub returns-in_err-push_rows-clause-info : goal.returns-in_err-push_rows-clause-info
returns-in_err-push_rows-clause-info c = grind (arith, common_steps)

pub returns-in_err-push_rows-clause-tellable : goal.returns-in_err-push_rows-clause-tellable
returns-in_err-push_rows-clause-tellable c = grind (arith, common_steps)

pub push_rows-requires-2 : goal.push_rows-requires-2
push_rows-requires-2 c = grind (arith, common_steps)

pub drop-telling-requires-in_err-push_rows-2 : goal.drop-telling-requires-in_err-push_rows-2
drop-telling-requires-in_err-push_rows-2 c = grind (arith, common_steps)

pub returns-in_err-push_rows-2-clause-info : goal.returns-in_err-push_rows-2-clause-info
returns-in_err-push_rows-2-clause-info c = grind (arith, common_steps)

pub returns-in_err-push_rows-2-clause-tellable : goal.returns-in_err-push_rows-2-clause-tellable
returns-in_err-push_rows-2-clause-tellable c = grind (arith, common_steps)
