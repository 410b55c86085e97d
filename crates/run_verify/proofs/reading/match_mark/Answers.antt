use Rattle.std.proofs.Common.{◌≡◌, ◌++◌, List, ℕ, ◌∙◌, subst}
use Rattle.std.specs.Fmt.{decimal}
use Rattle.reply_text.specs.Output.{mask_text, mark_line}
use Rattle.script_read.specs.Grammar.{ends_line}
use Rattle.run_verify.specs.TextPieces.{HasPiece, DiffersAt}
use Rattle.run_verify.proofs.FirstDifferences.{joined, later, sooner, err_weaker}
use Rattle.run_verify.proofs.reading.match_mark.Goals as goal

pub returns-in-Err-match_mask-clause-differs : goal.returns-in-Err-match_mask-clause-differs
returns-in-Err-match_mask-clause-differs c =
    let named : c.as_bytes.result.now ≡ decimal c.args.mark.worker = c.as_bytes.ensures.value ∙ c.format.ensures.text in
    let first : HasPiece c.args.line.now 0 (decimal c.args.mark.worker) c.in-Ok.to = subst (λ (l : List ℕ). HasPiece c.args.line.now 0 l c.in-Ok.to) named c.in-Ok.ensures.has in
    sooner c.args.line.now 0 c.in-Err-match_mask.place (decimal c.args.mark.worker ++ mask_text c.args.mark.mask 64) ends_line
    (later c.args.line.now 0 c.in-Ok.to c.in-Err-match_mask.place (decimal c.args.mark.worker) (mask_text c.args.mark.mask 64) first c.in-Err-match_mask.ensures.differs)

pub returns-clause-differs : goal.returns-clause-differs
returns-clause-differs c =
    let named : c.as_bytes.result.now ≡ decimal c.args.mark.worker = c.as_bytes.ensures.value ∙ c.format.ensures.text in
    let first : HasPiece c.args.line.now 0 (decimal c.args.mark.worker) c.in-Ok.to = subst (λ (l : List ℕ). HasPiece c.args.line.now 0 l c.in-Ok.to) named c.in-Ok.ensures.has in
    let front : List ℕ = decimal c.args.mark.worker ++ mask_text c.args.mark.mask 64 in
    let both = joined c.args.line.now 0 c.in-Ok.to c.in-Ok-match_mask.to (decimal c.args.mark.worker) (mask_text c.args.mark.mask 64) first c.in-Ok-match_mask.ensures.has in
    err_weaker {P = DiffersAt c.args.line.now c.in-Ok-match_mask.to ends_line} {Q = DiffersAt c.args.line.now 0 (mark_line c.args.mark)} c.match_piece-2.result
    (λ e h. later c.args.line.now 0 c.in-Ok-match_mask.to e front ends_line both h) c.match_piece-2.ensures.differs
