use Rattle.std.proofs.Common.{[], arith}
use Rattle.std.proofs.lemmas.Grind.{common_steps}
use Rattle.std.proofs.lemmas.Int.{ints}
use Rattle.std.proofs.lemmas.Result.{err_from_is_err_and}
use Rattle.script_read.specs.Table.{step_by}
use Rattle.script_read.proofs.TableRows.{count_is, fails, goes_on, count_goes}
use Rattle.script_read.proofs.counters.count.Goals as goal

pub returns-in_err-key-clause-read : goal.returns-in_err-key-clause-read
returns-in_err-key-clause-read c = λ last.
    let p = err_from_is_err_and c.from_residual.result c.from_residual.ensures.1 in
    rw (p.1, p.2) (fails c.in_err-key.field-0.0 _ _ _ (count_is c.args.down last c.args.bytes.now) c.in_err-key.ensures.read)

pub returns-in_err-step-clause-read : goal.returns-in_err-step-clause-read
returns-in_err-step-clause-read c = λ last.
    let p = err_from_is_err_and c.from_residual-in_err-step.result c.from_residual-in_err-step.ensures.1 in
    rw (p.1, p.2) (fails c.in_err-step.field-0.0 _ _ _ (goes_on _ _ _ _ (count_is c.args.down last c.args.bytes.now) c.in_ok-key.ensures.read) c.in_err-step.ensures.read)

pub returns-in_err-ttl-clause-read : goal.returns-in_err-ttl-clause-read
returns-in_err-ttl-clause-read c = λ last.
    let p = err_from_is_err_and c.from_residual-in_err-ttl.result c.from_residual-in_err-ttl.ensures.1 in
    rw (p.1, p.2) (fails c.in_err-ttl.field-0.0 _ _ _ (goes_on _ _ _ _ (goes_on _ _ _ _ (count_is c.args.down last c.args.bytes.now) c.in_ok-key.ensures.read) c.in_ok-step.ensures.read) c.in_err-ttl.ensures.read)

pub returns-clause-read : goal.returns-clause-read
returns-clause-read c = λ last.
    count_goes _ c.bare.result c.in_ok-key.key (step_by c.args.down c.in_ok-step.step) _ c.in_ok-ttl.ttl c.in_ok-ttl.rest.now _ (goes_on _ _ _ _ (goes_on _ _ _ _ (goes_on _ _ _ _ (count_is c.args.down last c.args.bytes.now) c.in_ok-key.ensures.read) c.in_ok-step.ensures.read) c.in_ok-ttl.ensures.read) (c.bare.ensures.read []) (grind (arith, ints, common_steps))

pub returns-clause-fewer : goal.returns-clause-fewer
returns-clause-fewer c = grind (arith, common_steps)
