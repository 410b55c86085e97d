use Rattle.std.proofs.Common.{◌≡◌, w64, to_z, of_z, ap₂, ◌∙◌, arith}
use Rattle.std.specs.Prelude.{ℤ}
use Rattle.std.proofs.lemmas.Grind.{common_steps}
use Rattle.std.proofs.lemmas.Int.{ints}
use Rattle.std.proofs.lemmas.Result.{err_from_is_err_and}
use Rattle.script_read.specs.declared.call.Call.TheVariants.{Cas}
use Rattle.script_read.specs.declared.effect.Effect.TheVariants.{Calls}
use Rattle.script_read.proofs.TableRows.{cas_is, fails, goes_on, was_read}
use Rattle.script_read.proofs.counters.cas.Goals as goal

pub returns-in_err-key-clause-read : goal.returns-in_err-key-clause-read
returns-in_err-key-clause-read c = λ last.
    let p = err_from_is_err_and c.from_residual.result c.from_residual.ensures.1 in
    rw (p.1, p.2) (fails c.in_err-key.field-0.0 _ _ _ (cas_is last c.args.bytes.now) c.in_err-key.ensures.read)

pub returns-in_err-expect-clause-read : goal.returns-in_err-expect-clause-read
returns-in_err-expect-clause-read c = λ last.
    let p = err_from_is_err_and c.from_residual-in_err-expect.result c.from_residual-in_err-expect.ensures.1 in
    rw (p.1, p.2) (fails c.in_err-expect.field-0.0 _ _ _ (goes_on _ _ _ _ (cas_is last c.args.bytes.now) c.in_ok-key.ensures.read) c.in_err-expect.ensures.read)

pub returns-in_err-set-clause-read : goal.returns-in_err-set-clause-read
returns-in_err-set-clause-read c = λ last.
    let p = err_from_is_err_and c.from_residual-in_err-set.result c.from_residual-in_err-set.ensures.1 in
    rw (p.1, p.2) (fails c.in_err-set.field-0.0 _ _ _ (goes_on _ _ _ _ (goes_on _ _ _ _ (cas_is last c.args.bytes.now) c.in_ok-key.ensures.read) c.in_ok-expect.ensures.read) c.in_err-set.ensures.read)

pub returns-in_err-rest-clause-read : goal.returns-in_err-rest-clause-read
returns-in_err-rest-clause-read c = λ last.
    let p = err_from_is_err_and c.from_residual-in_err-rest.result c.from_residual-in_err-rest.ensures.1 in
    rw (p.1, p.2) (fails c.in_err-rest.field-0.0 _ _ _ (goes_on _ _ _ _ (goes_on _ _ _ _ (goes_on _ _ _ _ (cas_is last c.args.bytes.now) c.in_ok-key.ensures.read) c.in_ok-expect.ensures.read) c.in_ok-set.ensures.read) c.in_err-rest.ensures.read)

pub returns-clause-read : goal.returns-clause-read
returns-clause-read c = λ last.
    let expect : c.in_ok-expect.expect ≡ to_z w64 (of_z w64 c.in_ok-expect.expect) = grind (arith, ints, common_steps) in
    let set : c.in_ok-set.set ≡ to_z w64 (of_z w64 c.in_ok-set.set) = grind (arith, ints, common_steps) in
    goes_on _ _ _ _ (goes_on _ _ _ _ (goes_on _ _ _ _ (goes_on _ _ _ _ (cas_is last c.args.bytes.now) c.in_ok-key.ensures.read) c.in_ok-expect.ensures.read) c.in_ok-set.ensures.read) c.in_ok-rest.ensures.read ∙ ap₂ (λ (e : ℤ) (s : ℤ). was_read c.in_ok-rest.rest.now (Calls (Cas c.in_ok-key.key e s))) expect set

pub returns-clause-fewer : goal.returns-clause-fewer
returns-clause-fewer c = grind (arith, common_steps)
