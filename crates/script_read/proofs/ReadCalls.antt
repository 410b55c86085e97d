-- A call that was read is the one that its line says.
use Rattle.std.proofs.Common.{◌≡◌, ℕ, List, [], ap, ◌∙◌}
use Rattle.std.specs.Prelude.{Result}
use Rattle.notation.specs.declared.fault.Fault.{Fault}
use Rattle.script_read.specs.declared.call.Call.{Call}
use Rattle.script_read.specs.declared.effect.Effect.{Effect}
use Rattle.script_read.specs.declared.fault.Stop.{Stop}
use Rattle.script_read.specs.Table.{call_form}
use Rattle.script_read.specs.Reading.{rest_at}
use Rattle.script_read.specs.Gives.{GivesItem}
use Rattle.script_read.proofs.TableRows.{moved}

-- b is the call that the code makes, and a the one that is due
pub call_goes : {X : Type 0} (view : X → Effect × List ℕ) (r : Result X Stop) (a b : Call) (rest : List ℕ) (whole : Result (Effect × List ℕ) Fault)
    → whole ≡ rest_at (call_form a) [] rest → GivesItem view r (rest_at (call_form b) [] rest) → a ≡ b → GivesItem view r whole
call_goes view r a b rest whole is h same = moved view r whole (rest_at (call_form b) [] rest) (is ∙ ap (λ (call : Call). rest_at (call_form call) [] rest) same) h
