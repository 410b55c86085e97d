use Rattle.std.proofs.Common.{◌≡◌, ◌+◌, ◌++◌, ℕ, List, take, drop, length, get_or, ap, sym, ◌∙◌, subst}
use Rattle.run_verify.specs.TextPieces.{HasPiece, DiffersAt, worker_text}
use Rattle.reply_text.specs.Output.{worker_texts}
use Rattle.run_verify.proofs.FirstDifferences.{later, sooner, joined, upto, all_texts}
use Rattle.run_verify.proofs.comparing.match_workers.Goals as goal

pub loop-worker-preserved : goal.loop-worker-preserved
loop-worker-preserved c =
    let texts = c.args.texts.now in
    let w = c.loop-worker.worker in
    let front : List ℕ = worker_texts 0 (take w texts) in
    let text : c.as_slice.result.now ≡ get_or texts w c.index-texts-worker.result = c.as_slice.ensures ∙ c.index-texts-worker.is in
    let whole = ap (λ t. front ++ worker_text w t) text ∙ sym (upto texts w c.index-texts-worker.result c.loop-worker-test.true) in
    subst (λ l. HasPiece c.args.output.now 0 l c.in-Ok.to) whole
    (joined c.args.output.now 0 c.loop-worker.at c.in-Ok.to front (worker_text w c.as_slice.result.now) c.loop-worker.invariant c.in-Ok.ensures.has)

pub returns-in-Err-clause-differs : goal.returns-in-Err-clause-differs
returns-in-Err-clause-differs c =
    let texts = c.args.texts.now in
    let w = c.loop-worker.worker in
    let front : List ℕ = worker_texts 0 (take w texts) in
    let text : c.as_slice.result.now ≡ get_or texts w c.index-texts-worker.result = c.as_slice.ensures ∙ c.index-texts-worker.is in
    let whole = ap (λ t. front ++ worker_text w t) text ∙ sym (upto texts w c.index-texts-worker.result c.loop-worker-test.true) in
    let here = later c.args.output.now 0 c.loop-worker.at c.in-Err.place front (worker_text w c.as_slice.result.now) c.loop-worker.invariant c.in-Err.ensures.differs in
    subst (λ l. DiffersAt c.args.output.now 0 l c.in-Err.place) (sym (all_texts texts (w + 1)))
    (sooner c.args.output.now 0 c.in-Err.place _ (worker_texts (0 + length (take (w + 1) texts)) (drop (w + 1) texts))
    (subst (λ l. DiffersAt c.args.output.now 0 l c.in-Err.place) whole here))
