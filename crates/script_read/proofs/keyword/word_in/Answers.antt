use Rattle.std.proofs.Common.{sym, ◌∙◌, arith}
use Rattle.script_read.proofs.Keywords.{found, passed, none_left}
use Rattle.script_read.proofs.keyword.word_in.Goals as goal

pub returns-then-is_word : goal.returns-then-is_word
returns-then-is_word c = c.loop-row.invariant ∙ found c.args.rows.now c.loop-row.row-index _ c.args.text.now (omega arith) (sym c.is_word.ensures ∙ c.if-is_word.true)

pub loop-row-preserved : goal.loop-row-preserved
loop-row-preserved c = c.loop-row.invariant ∙ passed c.args.rows.now c.loop-row.row-index _ c.args.text.now (omega arith) (sym c.is_word.ensures ∙ c.if-is_word.false)

pub returns : goal.returns
returns c = c.loop-row.invariant ∙ none_left c.args.rows.now c.loop-row.row-index c.args.text.now (omega arith)
