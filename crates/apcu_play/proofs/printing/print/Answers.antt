use Rattle.std.proofs.Common.{true, ap}
use Rattle.reply_text.specs.Output.{worker_texts}
use Rattle.apcu_play.proofs.PartialWrites.{written_after, written_as}
use Rattle.apcu_play.proofs.printing.print.Goals as goal

pub returns : goal.returns
returns g c =
    let p = c.args.printed.now in
    let texts = written_as true (worker_texts 0 c.deref.result.now) (worker_texts 0 p.texts.items) _ _ _ _ (ap (worker_texts 0) c.deref.ensures.value) c.if-not-print_texts.ensures in
    written_after c.write_text.result (worker_texts 0 p.texts.items) p.rest _ _ _ _ _ _ texts (written_as c.write_text.result c.as_slice.result.now p.rest _ _ _ _ c.as_slice.ensures c.write_text.ensures)
