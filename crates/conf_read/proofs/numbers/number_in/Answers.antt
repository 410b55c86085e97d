use Rattle.std.proofs.Common.{rules, ◌∙◌, Some, None, sym, arith}
use Rattle.conf_read.proofs.Digits.{no_text, not_above, read_as}
use Rattle.conf_read.proofs.numbers.number_in.Goals as goal

pub returns-in_err-number-in-Ok-clause-is : goal.returns-in_err-number-in-Ok-clause-is
returns-in_err-number-in-Ok-clause-is c =
    let e = read_as c.args.most c.args.high c.in-Ok.text.now c.args.text.now c.parse.result None (search rules) (search rules)
    (omega arith) (search rules) (search rules) (search rules) c.parse.ensures.value.0 in
    (search rules) ∙ sym e

pub returns-in-Err-clause-is : goal.returns-in-Err-clause-is
returns-in-Err-clause-is c = no_text c.args.most c.args.high c.args.text.now (search rules)

pub returns-then-number-high-clause-is : goal.returns-then-number-high-clause-is
returns-then-number-high-clause-is c =
    let e = read_as c.args.most c.args.high c.in-Ok.text.now c.args.text.now c.parse.result (Some c.in_ok-number-in-Ok.number) (search rules) (search rules)
    (omega arith) (search rules) (search rules) (search rules) c.parse.ensures.value.0 in
    sym (e ∙ not_above c.args.high c.in_ok-number-in-Ok.number (search rules))
