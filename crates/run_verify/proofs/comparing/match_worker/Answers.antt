use Rattle.std.proofs.Common.{◌≡◌, ℕ, List, ◌++◌, ◌∙◌, ap, sym, subst, append_assoc}
use Rattle.std.specs.Prelude.{codes}
use Rattle.std.specs.Fmt.{decimal}
use Rattle.script_read.specs.Grammar.{ends_line}
use Rattle.run_verify.specs.TextPieces.{DiffersAt, worker_text}
use Rattle.run_verify.proofs.FirstDifferences.{later, err_weaker}
use Rattle.run_verify.proofs.comparing.match_worker.Goals as goal

pub returns-in-Ok-clause-differs : goal.returns-in-Ok-clause-differs
returns-in-Ok-clause-differs c =
    let front : List ℕ = codes "worker " ++ c.as_bytes.result.now in
    let named : c.as_bytes.result.now ≡ decimal c.args.worker = c.as_bytes.ensures.value ∙ c.format.ensures.text in
    let whole : front ++ (ends_line ++ c.args.text.now) ≡ worker_text c.args.worker c.args.text.now =
    sym (append_assoc front ends_line c.args.text.now) ∙ ap (λ l. ((codes "worker " ++ l) ++ ends_line) ++ c.args.text.now) named in
    err_weaker {P = DiffersAt c.args.output.now c.in-Ok.mid (ends_line ++ c.args.text.now)} {Q = DiffersAt c.args.output.now c.args.at (worker_text c.args.worker c.args.text.now)} c.match_both-in-Ok.result
    (λ e h. subst (λ l. DiffersAt c.args.output.now c.args.at l e) whole (later c.args.output.now c.args.at c.in-Ok.mid e front (ends_line ++ c.args.text.now) c.in-Ok.ensures.has h)) c.match_both-in-Ok.ensures.differs
