use Rattle.std.proofs.Common.{◌≡◌, length, arith, sym, ◌∙◌}
use Rattle.std.proofs.lemmas.List.Sums.{position_or_len_is}
use Rattle.notation.specs.Marks.{ends_number}
use Rattle.notation.proofs.tokens.run_len.Goals as goal

pub returns-then-ends_run-clause-length : goal.returns-then-ends_run-clause-length
returns-then-ends_run-clause-length c = sym (position_or_len_is ends_number c.args.bytes.now c.loop-i.i 0 (omega arith) c.loop-i.invariant (λ _. sym c.ends_run.ensures ∙ c.if-ends_run.true))

pub returns-clause-length : goal.returns-clause-length
returns-clause-length c =
    let end : c.loop-i.i ≡ length c.args.bytes.now = omega arith in
    rw (← end) (sym (position_or_len_is ends_number c.args.bytes.now c.loop-i.i 0 (omega arith) c.loop-i.invariant (λ h. absurd (omega arith))))
