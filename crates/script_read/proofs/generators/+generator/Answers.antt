use Rattle.std.proofs.Common.{◌-◌, ℕ, List, length, sym, ap, subst, arith}
use Rattle.std.proofs.lemmas.Result.{err_from_is_err_and}
use Rattle.notation.specs.declared.fault.Reason.TheVariants as reasons
use Rattle.notation.specs.declared.fault.Fault.{Fault}
use Rattle.std.specs.Prelude.{Result}
use Rattle.apcu_model.specs.Levels.{Generator}
use Rattle.script_read.specs.Gives.{Stops}
use Rattle.script_read.specs.Reading.{generator_at}
use Rattle.script_read.proofs.GenSteps.{literal_read, too_deep, entry_begins, key_fails, space_fails, inner_fails, limit_fails, entry_ends}
use Rattle.script_read.proofs.TableRows.{moved, fault_is}
use Rattle.script_read.proofs.generators.+generator.Goals as goal

pub returns-in_default-clause-read : goal.returns-in_default-clause-read
returns-in_default-clause-read t c = moved _ c.literal.result _ _ (literal_read c.args.levels c.args.bytes.now c.in_default.ensures.cases) c.literal.ensures.read

pub returns-then-levels-eq0-clause-read : goal.returns-then-levels-eq0-clause-read
returns-then-levels-eq0-clause-read t c =
    let bytes = c.args.bytes.now in
    subst (λ (r : Result (Generator × List ℕ) Fault). Stops c.fault.result r) (sym (too_deep c.args.levels bytes c.in-Some.ensures.cases.0 c.if-levels-eq0.true))
    (fault_is ℕ (Generator × List ℕ) c.fault.result reasons.Generator bytes c.fault.ensures)

pub returns-in_err-key-clause-read : goal.returns-in_err-key-clause-read
returns-in_err-key-clause-read t c =
    let whole = entry_begins c.args.levels c.args.bytes.now c.in-Some.inside.now c.in-Some.ensures.cases.0 c.in-Some.ensures.cases.1 c.if-levels-eq0.false in
    let p = err_from_is_err_and c.from_residual.result c.from_residual.ensures.1 in
    rw (p.1, p.2) (key_fails c.in_err-key.field-0.0 (generator_at (c.args.levels - 1)) c.in-Some.inside.now _ whole c.in_err-key.ensures.read)

pub returns-in_err-argument-clause-read : goal.returns-in_err-argument-clause-read
returns-in_err-argument-clause-read t c =
    let whole = entry_begins c.args.levels c.args.bytes.now c.in-Some.inside.now c.in-Some.ensures.cases.0 c.in-Some.ensures.cases.1 c.if-levels-eq0.false in
    let p = err_from_is_err_and c.from_residual-in_err-argument.result c.from_residual-in_err-argument.ensures.1 in
    rw (p.1, p.2) (space_fails c.in_err-argument.field-0.0 (generator_at (c.args.levels - 1)) c.in-Some.inside.now c.in_ok-key.key c.in_ok-key.rest.now _ whole c.in_ok-key.ensures.read c.in_err-argument.ensures.read)

pub returns-in_err-inner-clause-read : goal.returns-in_err-inner-clause-read
returns-in_err-inner-clause-read t c =
    let whole = entry_begins c.args.levels c.args.bytes.now c.in-Some.inside.now c.in-Some.ensures.cases.0 c.in-Some.ensures.cases.1 c.if-levels-eq0.false in
    let p = err_from_is_err_and c.from_residual-in_err-inner.result c.from_residual-in_err-inner.ensures.1 in
    rw (p.1, p.2) (inner_fails c.in_err-inner.field-0.0 (generator_at (c.args.levels - 1)) c.in-Some.inside.now c.in_ok-key.key c.in_ok-key.rest.now c.in_ok-argument.argument.now _ whole c.in_ok-key.ensures.read c.in_ok-argument.ensures.read c.in_err-inner.ensures.read)

pub returns-in_err-ttl-clause-read : goal.returns-in_err-ttl-clause-read
returns-in_err-ttl-clause-read t c =
    let whole = entry_begins c.args.levels c.args.bytes.now c.in-Some.inside.now c.in-Some.ensures.cases.0 c.in-Some.ensures.cases.1 c.if-levels-eq0.false in
    let p = err_from_is_err_and c.from_residual-in_err-ttl.result c.from_residual-in_err-ttl.ensures.1 in
    rw (p.1, p.2) (limit_fails c.in_err-ttl.field-0.0 (generator_at (c.args.levels - 1)) c.in-Some.inside.now c.in_ok-key.key c.in_ok-key.rest.now c.in_ok-argument.argument.now c.in_ok-inner.inner c.in_ok-inner.rest.now _ whole c.in_ok-key.ensures.read c.in_ok-argument.ensures.read c.in_ok-inner.ensures.read c.in_err-ttl.ensures.read)

pub returns-clause-read : goal.returns-clause-read
returns-clause-read t c =
    let whole = entry_begins c.args.levels c.args.bytes.now c.in-Some.inside.now c.in-Some.ensures.cases.0 c.in-Some.ensures.cases.1 c.if-levels-eq0.false in
    entry_ends (generator_at (c.args.levels - 1)) c.in-Some.inside.now c.in_ok-key.key c.in_ok-key.rest.now c.in_ok-argument.argument.now c.in_ok-inner.inner c.in_ok-inner.rest.now c.in_ok-ttl.ttl c.in_ok-ttl.rest.now c.in_ok-made.made _ whole
    c.in_ok-key.ensures.read c.in_ok-argument.ensures.read c.in_ok-inner.ensures.read c.in_ok-ttl.ensures.read
    (sym c.in_ok-made.ensures)

pub returns-clause-levels : goal.returns-clause-levels
returns-clause-levels t c = omega (arith, ap (λ (made : Generator). length made.levels) c.in_ok-made.ensures, c.in_ok-inner.ensures.levels, c.if-levels-eq0.false)
