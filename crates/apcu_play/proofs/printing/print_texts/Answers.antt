use Rattle.std.proofs.Common.{◌++◌, ◌+◌, true, false, length, take, drop, ap}
use Rattle.reply_text.specs.Output.{worker_texts}
use Rattle.apcu_play.proofs.PartialWrites.{failed_first, both_written, failed_then, written_as}
use Rattle.apcu_play.proofs.PrintedPieces.{worker_part, texts_go_on, texts_behind}
use Rattle.apcu_play.proofs.printing.print_texts.Goals as goal

pub returns-then-not-print_worker : goal.returns-then-not-print_worker
returns-then-not-print_worker g c =
    let texts = c.args.texts.now in
    let i = c.loop-worker.worker in
    let text = c.index-texts-worker.result in
    let so_far = worker_texts 0 (take i texts) in
    let part = written_as false (worker_part i c.as_slice.result.now) (worker_part i text) _ _ _ _ (ap (worker_part i) c.as_slice.ensures) c.if-not-print_worker.ensures in
    let all = written_as false (so_far ++ worker_part i text) (worker_texts 0 (take (i + 1) texts)) _ _ _ _ (texts_go_on texts i text c.loop-worker-test.true c.index-texts-worker.is) (failed_then so_far (worker_part i text) _ _ _ _ _ _ c.loop-worker.invariant part) in
    let behind = worker_texts (0 + length (take (i + 1) texts)) (drop (i + 1) texts) in
    written_as false (worker_texts 0 (take (i + 1) texts) ++ behind) (worker_texts 0 texts) _ _ _ _ (texts_behind texts (i + 1)) (failed_first (worker_texts 0 (take (i + 1) texts)) behind _ _ _ _ all)

pub loop-worker-preserved : goal.loop-worker-preserved
loop-worker-preserved g c =
    let texts = c.args.texts.now in
    let i = c.loop-worker.worker in
    let text = c.index-texts-worker.result in
    let so_far = worker_texts 0 (take i texts) in
    let part = written_as true (worker_part i c.as_slice.result.now) (worker_part i text) _ _ _ _ (ap (worker_part i) c.as_slice.ensures) c.if-not-print_worker.ensures in
    written_as true (so_far ++ worker_part i text) (worker_texts 0 (take (i + 1) texts)) _ _ _ _ (texts_go_on texts i text c.loop-worker-test.true c.index-texts-worker.is) (both_written so_far (worker_part i text) _ _ _ _ _ _ c.loop-worker.invariant part)
