use Rattle.std.proofs.Common.{◌≡◌, ℕ, List, Result, Ok, ap, ◌∙◌, arith}
use Rattle.std.proofs.lemmas.Grind.{common_steps}
use Rattle.notation.specs.declared.fault.Fault.{Fault}
use Rattle.notation.specs.Marks.{◌>>=◌}
use Rattle.script_read.specs.Arguments.{ttl_in}
use Rattle.script_read.specs.Reading.{choice_at, separator_at, limit_at}
use Rattle.script_read.proofs.generators.limit.Goals as goal

behind : ℕ × List ℕ → Result (ℕ × List ℕ) Fault
behind t = separator_at 41 t.1 >>= λ (after : List ℕ). Ok (t.0, after)

-- the limit of time and the parenthesis behind it
limit_read : (bytes argument : List ℕ) (n : ℕ) (then_left rest : List ℕ) → limit_at bytes ≡ (choice_at ttl_in argument >>= λ t. separator_at 41 t.1 >>= λ after. Ok (t.0, after))
    → choice_at ttl_in argument ≡ Ok (n, then_left) → separator_at 41 then_left ≡ Ok rest → limit_at bytes ≡ Ok (n, rest)
unfolding behind
limit_read bytes argument n then_left rest whole first second =
    whole
    ∙ (ap (λ (r : Result (ℕ × List ℕ) Fault). r >>= behind) first
    ∙ ap (λ (r : Result (List ℕ) Fault). r >>= λ (after : List ℕ). Ok (n, after)) second)

pub returns-in_err-ttl-in-32-clause-read : goal.returns-in_err-ttl-in-32-clause-read
unfolding limit_at
returns-in_err-ttl-in-32-clause-read c = grind (arith, common_steps)

pub returns-in_err-rest-in-32-clause-read : goal.returns-in_err-rest-in-32-clause-read
unfolding limit_at
returns-in_err-rest-in-32-clause-read c = grind (arith, common_steps)

pub returns-in-empty-clause-read : goal.returns-in-empty-clause-read
unfolding limit_at
returns-in-empty-clause-read c = grind (arith, common_steps)

pub returns-in-41-clause-read : goal.returns-in-41-clause-read
unfolding limit_at
returns-in-41-clause-read c = grind (arith, common_steps)

pub returns-in_ok-rest-in-32-clause-read : goal.returns-in_ok-rest-in-32-clause-read
unfolding limit_at
returns-in_ok-rest-in-32-clause-read c =
    limit_read c.args.bytes.now _ c.in_ok-ttl-in-32.ttl _ c.in_ok-rest-in-32.rest.now (grind (arith, common_steps)) c.in_ok-ttl-in-32.ensures.read c.in_ok-rest-in-32.ensures.read

pub returns-in-len1-up-clause-read : goal.returns-in-len1-up-clause-read
unfolding limit_at
returns-in-len1-up-clause-read c = grind (arith, common_steps)
