use Rattle.std.proofs.lemmas.List.{append_assoc}
use Rattle.info_tables.proofs.tables.push_gap.Goals as goal

pub returns : goal.returns
returns c =
    rw (c.in_ok-push_numbers.ensures, c.in_ok-push.ensures, c.in_ok-kind.ensures.kind, c.len-place.ensures.len, c.bytes_in.ensures, c.bytes_in-2.ensures)
    (append_assoc c.args.telling.now _ _)
