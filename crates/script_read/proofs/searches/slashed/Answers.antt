use Rattle.std.proofs.Common.{ap, sym, ◌∙◌}
use Rattle.std.specs.Option.{option_map}
use Rattle.script_read.proofs.Slashes.{plain_pattern, folding_pattern, no_pattern}
use Rattle.script_read.proofs.searches.slashed.Goals as goal

pub returns-in_err-strip_suffix-in-None-clause-is : goal.returns-in_err-strip_suffix-in-None-clause-is
returns-in_err-strip_suffix-in-None-clause-is c =
    let behind = c.in_ok-behind.ensures.cases in
    ap (option_map _) c.from_residual-in_err-strip_suffix-in-None.ensures
    ∙ sym (no_pattern c.args.text.now c.in_ok-behind.behind.now (behind.0, behind.1) c.in-None.ensures.cases c.in_err-strip_suffix-in-None.ensures.cases)

pub returns-in-Some-clause-is : goal.returns-in-Some-clause-is
returns-in-Some-clause-is c =
    let behind = c.in_ok-behind.ensures.cases in
    plain_pattern c.args.text.now c.in_ok-behind.behind.now c.in-Some.inside.now (behind.0, behind.1) c.in-Some.ensures.cases.0 c.in-Some.ensures.cases.1

pub returns-in_ok-strip_suffix-in-None-clause-is : goal.returns-in_ok-strip_suffix-in-None-clause-is
returns-in_ok-strip_suffix-in-None-clause-is c =
    let behind = c.in_ok-behind.ensures.cases in
    folding_pattern c.args.text.now c.in_ok-behind.behind.now c.in_ok-strip_suffix-in-None.field-0.now (behind.0, behind.1) c.in_ok-strip_suffix-in-None.ensures.cases.0 c.in_ok-strip_suffix-in-None.ensures.cases.1
