-- A text that is written part by part.
use Rattle.std.proofs.Common.{◌≡◌, ℕ, ◌+◌, Bool, true, false, List, ◌++◌, length, take, Option, Some, None, refl, sym, ap, subst, ◌∙◌, append_assoc, length-append, arith}
use Rattle.std.proofs.Math.Seq.{take-append-add}
use Rattle.std.proofs.lemmas.List.{take-append-le}
use Rattle.std.specs.Io.KnownBytes.{append_known}
use Rattle.io_edges.specs.Faults.{Rose}
use Rattle.apcu_play.specs.Run.{WasWritten, TellsMessage}

append_known-append : (held : Option (List ℕ)) (a b : List ℕ) → append_known (append_known held a) b ≡ append_known held (a ++ b)
append_known-append None a b = refl
append_known-append (Some bytes) a b = ap (λ (l : List ℕ). Some l) (append_assoc bytes a b)

-- the first part failed
pub failed_first : (a b : List ℕ) (before after : Option (List ℕ)) (faults_before faults_after : ℕ) → WasWritten false a before after faults_before faults_after → WasWritten false (a ++ b) before after faults_before faults_after
failed_first a b before after faults_before faults_after t =
    (t.0, omega (arith, t.1, length-append a b), t.2 ∙ ap (append_known before) (sym (take-append-le t.0 a b (omega (arith, t.1)))), t.3)

-- the first part was written whole, and the rest too
pub both_written : (a b : List ℕ) (before mid after : Option (List ℕ)) (faults_before faults_mid faults_after : ℕ) → WasWritten true a before mid faults_before faults_mid → WasWritten true b mid after faults_mid faults_after
    → WasWritten true (a ++ b) before after faults_before faults_after
both_written a b before mid after faults_before faults_mid faults_after whole t =
    (t.0 ∙ (ap (λ (h : Option (List ℕ)). append_known h b) whole.0 ∙ append_known-append before a b), t.1 ∙ whole.1)

-- the first part was written whole, and the rest failed
pub failed_then : (a b : List ℕ) (before mid after : Option (List ℕ)) (faults_before faults_mid faults_after : ℕ) → WasWritten true a before mid faults_before faults_mid → WasWritten false b mid after faults_mid faults_after
    → WasWritten false (a ++ b) before after faults_before faults_after
failed_then a b before mid after faults_before faults_mid faults_after whole t = (
  length a + t.0,
  omega (arith, t.1, length-append a b),
  t.2 ∙ (ap (λ (h : Option (List ℕ)). append_known h (take t.0 b)) whole.0 ∙ (append_known-append before a (take t.0 b) ∙ ap (append_known before) (sym (take-append-add a b t.0)))),
  subst (λ (n : ℕ). Rose n faults_after) whole.1 t.3,
)

-- the first part was written whole, and then the rest as it was
pub written_after : (all : Bool) (a b : List ℕ) (before mid after : Option (List ℕ)) (faults_before faults_mid faults_after : ℕ) → WasWritten true a before mid faults_before faults_mid → WasWritten all b mid after faults_mid faults_after
    → WasWritten all (a ++ b) before after faults_before faults_after
written_after true a b before mid after faults_before faults_mid faults_after whole t = both_written a b before mid after faults_before faults_mid faults_after whole t
written_after false a b before mid after faults_before faults_mid faults_after whole t = failed_then a b before mid after faults_before faults_mid faults_after whole t

-- a message whose first part failed
pub first_failed : (a b : List ℕ) (before after : Option (List ℕ)) (faults_before faults_after : ℕ) → WasWritten false a before after faults_before faults_after → TellsMessage (a ++ b) before after faults_before faults_after
first_failed a b before after faults_before faults_after t = record { all = false; written = failed_first a b before after faults_before faults_after t }

-- and one whose first part was written whole
pub then_written : (a b : List ℕ) (before mid after : Option (List ℕ)) (faults_before faults_mid faults_after : ℕ) → WasWritten true a before mid faults_before faults_mid → TellsMessage b mid after faults_mid faults_after
    → TellsMessage (a ++ b) before after faults_before faults_after
then_written a b before mid after faults_before faults_mid faults_after whole rest = record { all = rest.all; written = written_after rest.all a b before mid after faults_before faults_mid faults_after whole rest.written }

pub written_as : (all : Bool) (a b : List ℕ) (before after : Option (List ℕ)) (faults_before faults_after : ℕ) → a ≡ b → WasWritten all a before after faults_before faults_after → WasWritten all b before after faults_before faults_after
written_as all a b before after faults_before faults_after same t = subst (λ (l : List ℕ). WasWritten all l before after faults_before faults_after) same t
