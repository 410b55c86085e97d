use Rattle.std.proofs.Common.{sym, ap, ◌∙◌, arith}
use Rattle.std.proofs.lemmas.Grind.{common_steps}
use Rattle.std.proofs.lemmas.Result.{err_from_is_err_and}
use Rattle.apcu_model.specs.Levels.{Generator}
use Rattle.script_read.specs.declared.call.Call.TheVariants.{Entry}
use Rattle.script_read.specs.declared.effect.Effect.TheVariants.{Calls}
use Rattle.script_read.proofs.TableRows.{entry_is, fails, goes_on, was_read}
use Rattle.script_read.proofs.counters.entry.Goals as goal

pub returns-in_err-key-clause-read : goal.returns-in_err-key-clause-read
returns-in_err-key-clause-read c = λ last.
    let p = err_from_is_err_and c.from_residual.result c.from_residual.ensures.1 in
    rw (p.1, p.2) (fails c.in_err-key.field-0.0 _ _ _ (entry_is last c.args.bytes.now) c.in_err-key.ensures.read)

pub returns-in_err-inner-clause-read : goal.returns-in_err-inner-clause-read
returns-in_err-inner-clause-read c = λ last.
    let p = err_from_is_err_and c.from_residual-in_err-inner.result c.from_residual-in_err-inner.ensures.1 in
    rw (p.1, p.2) (fails c.in_err-inner.field-0.0 _ _ _ (goes_on _ _ _ _ (entry_is last c.args.bytes.now) c.in_ok-key.ensures.read) c.in_err-inner.ensures.read)

pub returns-in_err-ttl-clause-read : goal.returns-in_err-ttl-clause-read
returns-in_err-ttl-clause-read c = λ last.
    let p = err_from_is_err_and c.from_residual-in_err-ttl.result c.from_residual-in_err-ttl.ensures.1 in
    rw (p.1, p.2) (fails c.in_err-ttl.field-0.0 _ _ _ (goes_on _ _ _ _ (goes_on _ _ _ _ (entry_is last c.args.bytes.now) c.in_ok-key.ensures.read) c.in_ok-inner.ensures.read) c.in_err-ttl.ensures.read)

pub returns-in_err-rest-clause-read : goal.returns-in_err-rest-clause-read
returns-in_err-rest-clause-read c = λ last.
    let p = err_from_is_err_and c.from_residual-in_err-rest.result c.from_residual-in_err-rest.ensures.1 in
    rw (p.1, p.2) (fails c.in_err-rest.field-0.0 _ _ _ (goes_on _ _ _ _ (goes_on _ _ _ _ (goes_on _ _ _ _ (entry_is last c.args.bytes.now) c.in_ok-key.ensures.read) c.in_ok-inner.ensures.read) c.in_ok-ttl.ensures.read) c.in_err-rest.ensures.read)

pub returns-clause-read : goal.returns-clause-read
returns-clause-read c = λ last.
    goes_on _ _ _ _ (goes_on _ _ _ _ (goes_on _ _ _ _ (goes_on _ _ _ _ (entry_is last c.args.bytes.now) c.in_ok-key.ensures.read) c.in_ok-inner.ensures.read) c.in_ok-ttl.ensures.read) c.in_ok-rest.ensures.read ∙ ap (λ (made : Generator). was_read c.in_ok-rest.rest.now (Calls (Entry made))) (sym c.in_ok-generator.ensures)

pub returns-clause-fewer : goal.returns-clause-fewer
returns-clause-fewer c = grind (arith, common_steps)

pub returns-clause-range : goal.returns-clause-range
returns-clause-range c = grind (arith, common_steps)
