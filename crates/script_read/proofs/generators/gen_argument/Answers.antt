use Rattle.std.proofs.Common.{◌≡◌, ◌≤◌, ℕ, List, Ok, length, refl, subst, arith}
use Rattle.std.proofs.lemmas.Grind.{common_steps}
use Rattle.std.specs.Prelude.{Result, IfOk}
use Rattle.apcu_model.specs.Levels.{Generator}
use Rattle.script_read.specs.declared.fault.Stop.{Stop}
use Rattle.script_read.specs.Grammar.{inner_levels}
use Rattle.script_read.specs.Reading.{space_at, generator_at}
use Rattle.script_read.specs.Gives.{GivesItem}
use Rattle.script_read.proofs.generators.gen_argument.Goals as goal

-- what was read with this many levels, if as many are expected
gives_levels : {X : Type 0} (view : X → Generator × List ℕ) (r : Result X Stop) (n due : ℕ) (argument : List ℕ) → GivesItem view r (generator_at n argument) → n ≡ due → GivesItem view r (generator_at due argument)
gives_levels view r n due argument h same = subst (λ k. GivesItem view r (generator_at k argument)) same h

has_levels : {X : Type 0} (r : Result (Generator × X) Stop) (n due : ℕ) → IfOk r (λ x. length x.0.levels ≤ n) → n ≡ due → IfOk r (λ x. length x.0.levels ≤ due)
has_levels r n due h same = subst (λ k. IfOk r (λ x. length x.0.levels ≤ k)) same h

pub returns-in_err-argument-clause-read : goal.returns-in_err-argument-clause-read
returns-in_err-argument-clause-read c = grind (arith, common_steps)

pub returns-clause-read : goal.returns-clause-read
returns-clause-read c =
    let space : space_at c.args.bytes.now ≡ Ok c.in_ok-argument.argument.now = c.in_ok-argument.ensures.read in
    rw space (gives_levels _ c.generator.result _ inner_levels c.in_ok-argument.argument.now c.generator.ensures.read refl)

pub returns-clause-levels : goal.returns-clause-levels
returns-clause-levels c = has_levels c.generator.result _ inner_levels c.generator.ensures.levels refl

pub returns-clause-fewer : goal.returns-clause-fewer
returns-clause-fewer c = grind (arith, common_steps)
