use Rattle.std.proofs.Common.{rules, ◌≡◌, ap}
use Rattle.std.specs.Prelude.{is_some}
use Rattle.regex.specs.Patterns.{Refuses}
use Rattle.regex.specs.Failures as failures
use Rattle.apcu_model.specs.PatternMatches.{config_of}
use Rattle.row_search.proofs.RegexPatterns.{finds_as, good_text, none_of_bytes, none_of_refusal, pattern_of}
use Rattle.row_search.proofs.maker.RegexMakerMaker.build.Goals as goal

pub returns-in_default-clause-bad : goal.returns-in_default-clause-bad
returns-in_default-clause-bad c _ =
    ap is_some (none_of_bytes c.args.pattern.now.fold c.args.pattern.now.text (search rules))

pub returns-in-Err-Syntax-clause-bad : goal.returns-in-Err-Syntax-clause-bad
returns-in-Err-Syntax-clause-bad c _ =
    let e = c.in-Err-Syntax.field-0-0 in
    let is = c.in-Err-Syntax.field-0-is in
    let refused = c.in-Err-Syntax.ensures.refused e is in
    let kind = rw is at c.in-Err-Syntax.ensures.kind in
    let text : c.in-Ok.text.now ≡ c.args.pattern.now.text = search rules in
    let there : Refuses (config_of c.args.pattern.now.fold) c.in-Ok.text.now e.kind = search rules in
    ap is_some (none_of_refusal c.args.pattern.now.fold c.args.pattern.now.text e.kind (rw text at there) kind)

pub returns-in-Ok-build_bytes-clause-good : goal.returns-in-Ok-build_bytes-clause-good
returns-in-Ok-build_bytes-clause-good c =
    good_text c.args.pattern.now.fold c.args.pattern.now.text c.in-Ok-build_bytes.regex
    (record { source = search rules; config = search rules; read = search rules })

pub returns-in-Ok-build_bytes-clause-finds : goal.returns-in-Ok-build_bytes-clause-finds
returns-in-Ok-build_bytes-clause-finds c =
    finds_as c.args.pattern.now.fold c.args.pattern.now.text c.in-Ok-build_bytes.regex
    (record { source = search rules; config = search rules; read = search rules })

pub returns-in-Err-CompiledTooBig-clause-big : goal.returns-in-Err-CompiledTooBig-clause-big
returns-in-Err-CompiledTooBig-clause-big c _ =
    let kind = rw (c.in-Err-CompiledTooBig.field-0-is) at c.in-Err-CompiledTooBig.ensures.kind in
    let text : c.in-Ok.text.now ≡ c.args.pattern.now.text = search rules in
    let there : failures.IsPattern (config_of c.args.pattern.now.fold) c.in-Ok.text.now = search rules in
    pattern_of c.args.pattern.now.fold c.args.pattern.now.text (search rules) (rw text at there)
