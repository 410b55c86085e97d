use Rattle.std.proofs.Common.{ℕ, List, [], Ok, ap, ◌∙◌}
use Rattle.std.specs.Prelude.{Result}
use Rattle.std.proofs.lemmas.Result.{err_from_is_err_and}
use Rattle.notation.specs.declared.fault.Fault.{Fault}
use Rattle.script_read.specs.declared.choices.Stored.{Stored}
use Rattle.script_read.specs.declared.choices.Stored.TheVariants as stores
use Rattle.script_read.proofs.TableRows.{stored_at, stored_fails, moved}
use Rattle.script_read.proofs.stores.store.Goals as goal

abbrev was_read : List ℕ → Stored → Result (Stored × List ℕ) Fault
was_read rest s = Ok (s, rest)

pub returns-in_err-first-clause-read : goal.returns-in_err-first-clause-read
returns-in_err-first-clause-read c = λ last.
    let p = err_from_is_err_and c.from_residual.result c.from_residual.ensures.1 in
    rw (p.1, p.2) (stored_fails c.args.exclusive last c.args.bytes.now c.in_err-first.field-0.0 c.in_err-first.ensures.read)

pub returns-in-One-clause-read : goal.returns-in-One-clause-read
returns-in-One-clause-read c = λ last.
    let rest = c.in_ok-first.rest.now in
    moved _ c.store_one.result _ _ (stored_at c.args.exclusive last c.args.bytes.now (stores.One c.in-One.key) rest (c.in_ok-first.ensures.read ∙ ap (was_read rest) c.in-One.is)) (c.store_one.ensures.read [])

pub returns-in-Many-clause-read : goal.returns-in-Many-clause-read
returns-in-Many-clause-read c = λ last.
    let rest = c.in_ok-first.rest.now in
    moved _ c.store_many.result _ _ (stored_at c.args.exclusive last c.args.bytes.now (stores.Many c.in-Many.pairs) rest (c.in_ok-first.ensures.read ∙ ap (was_read rest) c.in-Many.is)) (c.store_many.ensures.read [])
