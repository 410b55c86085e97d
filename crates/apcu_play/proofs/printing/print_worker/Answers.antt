use Rattle.std.proofs.Common.{◌++◌, false, true, codes, ◌∙◌}
use Rattle.std.specs.Fmt.{decimal}
use Rattle.script_read.specs.Grammar.{ends_line}
use Rattle.apcu_play.proofs.PartialWrites.{failed_first, both_written, failed_then, written_after, written_as}
use Rattle.apcu_play.proofs.printing.print_worker.Goals as goal

pub returns-then-not-write_text : goal.returns-then-not-write_text
returns-then-not-write_text g c = failed_first (codes "worker ") (decimal c.args.worker ++ ends_line ++ c.args.text.now) _ _ _ _ c.if-not-write_text.ensures

pub returns-then-not-write_text-2 : goal.returns-then-not-write_text-2
returns-then-not-write_text-2 g c =
    let number = written_as false c.as_bytes.result.now (decimal c.args.worker) _ _ _ _ (c.as_bytes.ensures.value ∙ c.format.ensures.text) c.if-not-write_text-2.ensures in
    failed_then (codes "worker ") (decimal c.args.worker ++ ends_line ++ c.args.text.now) _ _ _ _ _ _ c.if-not-write_text.ensures
    (failed_first (decimal c.args.worker ++ ends_line) c.args.text.now _ _ _ _ (failed_first (decimal c.args.worker) ends_line _ _ _ _ number))

pub returns-then-not-write_text-3 : goal.returns-then-not-write_text-3
returns-then-not-write_text-3 g c =
    let number = written_as true c.as_bytes.result.now (decimal c.args.worker) _ _ _ _ (c.as_bytes.ensures.value ∙ c.format.ensures.text) c.if-not-write_text-2.ensures in
    failed_then (codes "worker ") (decimal c.args.worker ++ ends_line ++ c.args.text.now) _ _ _ _ _ _ c.if-not-write_text.ensures
    (failed_first (decimal c.args.worker ++ ends_line) c.args.text.now _ _ _ _ (failed_then (decimal c.args.worker) ends_line _ _ _ _ _ _ number c.if-not-write_text-3.ensures))

pub returns : goal.returns
returns g c =
    let number = written_as true c.as_bytes.result.now (decimal c.args.worker) _ _ _ _ (c.as_bytes.ensures.value ∙ c.format.ensures.text) c.if-not-write_text-2.ensures in
    written_after c.write_text-4.result (codes "worker ") (decimal c.args.worker ++ ends_line ++ c.args.text.now) _ _ _ _ _ _ c.if-not-write_text.ensures
    (written_after c.write_text-4.result (decimal c.args.worker ++ ends_line) c.args.text.now _ _ _ _ _ _ (both_written (decimal c.args.worker) ends_line _ _ _ _ _ _ number c.if-not-write_text-3.ensures) c.write_text-4.ensures)
