use Rattle.std.proofs.Common.{sym, ◌∙◌, arith}
use Rattle.script_read.proofs.FieldNames.{found, passed, none_left}
use Rattle.script_read.proofs.fields.bit_in.Goals as goal

pub returns-then-is_word : goal.returns-then-is_word
returns-then-is_word c = sym (c.loop-field.invariant ∙ found c.args.fields.now c.loop-field.field-index _ c.args.name.now (omega arith) (sym c.is_word.ensures ∙ c.if-is_word.true))

pub loop-field-preserved : goal.loop-field-preserved
loop-field-preserved c = c.loop-field.invariant ∙ passed c.args.fields.now c.loop-field.field-index _ c.args.name.now (omega arith) (sym c.is_word.ensures ∙ c.if-is_word.false)

pub returns : goal.returns
returns c = sym (c.loop-field.invariant ∙ none_left c.args.fields.now c.loop-field.field-index c.args.name.now (omega arith))
