use Rattle.std.proofs.Common.{◌≡◌, ◌+◌, List, ap, sym, ◌∙◌}
use Rattle.php_graph.specs.declared.key.Key.{Key}
use Rattle.php_graph.specs.declared.kind.Kind.TheVariants as kinds
use Rattle.php_graph.specs.Size.{cells_of}
use Rattle.apcu_model.specs.InfoGraphs.{single_members}
use Rattle.info_tables.proofs.ValueRuns.{joined}
use Rattle.info_tables.proofs.tables.push_row.Goals as goal

pub push-requires-clause-cells : goal.push-requires-clause-cells
push-requires-clause-cells c =
    let place = c.len-place.result + 1 + 1 in
    c.requires.cells place
    ∙ sym (ap cells_of (c.in_ok-kind.ensures ∙ ap (λ (ks : List Key). kinds.Array (single_members place ks)) c.requires.keys))

pub returns-clause-info : goal.returns-clause-info
returns-clause-info c =
    rw (c.in_ok-push_numbers.ensures, c.in_ok-push_string.ensures, c.in_ok-push.ensures, c.in_ok-kind.ensures, c.requires.keys, c.len-place.ensures.len, c.from.ensures, c.bytes_in.ensures)
    (joined c.args.telling.now _ _ _)
