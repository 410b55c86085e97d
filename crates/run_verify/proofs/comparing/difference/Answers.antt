use Rattle.std.proofs.Common.{drop, sym, subst}
use Rattle.run_verify.specs.TextPieces.{HasPiece, DiffersAt}
use Rattle.reply_text.specs.Output.{worker_texts}
use Rattle.run_verify.proofs.FirstDifferences.{to_end, none_more, some_more, differs_whole}
use Rattle.run_verify.proofs.comparing.difference.Goals as goal

pub returns-in-Ok-match_piece : goal.returns-in-Ok-match_piece
returns-in-Ok-match_piece c =
    sym (none_more c.args.output.now (drop c.args.part c.args.output.now) c.in-Ok.at c.in-Ok-match_piece.to (worker_texts 0 c.args.texts.now) c.in-Ok.ensures.has
    (subst (λ l. HasPiece c.args.output.now c.in-Ok.at l c.in-Ok-match_piece.to) (to_end c.args.output.now c.args.part) c.in-Ok-match_piece.ensures.has) c.if-to-output.true)

pub returns-in-Ok-2 : goal.returns-in-Ok-2
returns-in-Ok-2 c =
    sym (some_more c.args.output.now (drop c.args.part c.args.output.now) c.in-Ok.at c.in-Ok-match_piece.to (worker_texts 0 c.args.texts.now) c.in-Ok.ensures.has
    (subst (λ l. HasPiece c.args.output.now c.in-Ok.at l c.in-Ok-match_piece.to) (to_end c.args.output.now c.args.part) c.in-Ok-match_piece.ensures.has) c.if-to-output.false)

pub returns-in-Err-match_piece : goal.returns-in-Err-match_piece
returns-in-Err-match_piece c =
    sym (differs_whole c.args.output.now (drop c.args.part c.args.output.now) c.in-Ok.at c.in-Err-match_piece.place (worker_texts 0 c.args.texts.now) c.in-Ok.ensures.has
    (subst (λ l. DiffersAt c.args.output.now c.in-Ok.at l c.in-Err-match_piece.place) (to_end c.args.output.now c.args.part) c.in-Err-match_piece.ensures.differs))
