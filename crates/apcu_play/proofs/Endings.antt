-- How a run has ended, by its status.
use Rattle.std.proofs.Common.{◌≡◌, ◌≢◌, ◌<◌, ℕ, List, length, Option, Some, None, inl, inr, refl, sym, subst}
use Rattle.std.specs.Prelude.{Bool, IfSome}
use Rattle.io_edges.specs.Reading.{HasTakenWithin}
use Rattle.conf_read.specs.declared.settings.Settings.{Settings}
use Rattle.conf_read.specs.declared.task.Task.{Task}
use Rattle.conf_read.specs.declared.task.Task.TheVariants.{Play, Generate, Verify}
use Rattle.notation.specs.declared.fault.Reason.{Reason}
use Rattle.apcu_model.specs.declared.limits.TheConstants.{LONGEST_INPUT}
use Rattle.apcu_play.specs.declared.ending.Ending.{Ending}
use Rattle.apcu_play.specs.declared.status.Status.{Status}
use Rattle.apcu_play.specs.declared.status.Status.TheVariants.{Done, Usage, Script, ReadFault, WriteFault, NoMemory, TooLong, TooMany, Pattern, Differs, Bundle}
use Rattle.apcu_play.specs.Ended.{Sourced, Sunk, sourced, sunk, IsUnwritten, IsEnding, RunHasEnded}
use Rattle.apcu_play.specs.Run.{IsUnlessMemory}
use Rattle.apcu_play.specs.Tasks.{LeavesInput}
use Rattle.apcu_play.proofs.TakenInput.{none_taken}
use Rattle.apcu_play.proofs.ExcludedCases.{unmet}

module _ (may_refuse : Bool → List ℕ → Type 0) (s : Settings) (input : Sourced) (out : Sunk) (place : ℕ) (reason : Reason) where
  unwritten_by : (status : Status) → IsEnding may_refuse s input out status place reason → status ≢ Done → status ≢ Differs → status ≢ WriteFault → IsUnwritten out
  unwritten_by Done e done differs write = absurd (done refl)
  unwritten_by Usage e done differs write = absurd e
  unwritten_by Script e done differs write = e.1
  unwritten_by ReadFault e done differs write = e.1
  unwritten_by WriteFault e done differs write = absurd (write refl)
  unwritten_by NoMemory e done differs write = e
  unwritten_by TooLong e done differs write = e.2
  unwritten_by TooMany e done differs write = e.1
  unwritten_by Pattern e done differs write = e.1
  unwritten_by Differs e done differs write = absurd (differs refl)
  unwritten_by Bundle e done differs write = e.1

  -- at this status it says what it says there
  at : (status expected : Status) → status ≡ expected → IsEnding may_refuse s input out status place reason → IsEnding may_refuse s input out expected place reason
  at status expected is e = subst (λ st. IsEnding may_refuse s input out st place reason) is e

  pub ended_by : (status : Status)
      → IsEnding may_refuse s input out status place reason
      → (status ≢ TooLong → HasTakenWithin input.before input.after LONGEST_INPUT)
      → LeavesInput s.task status input.before input.after input.reads_before input.reads_after
      → RunHasEnded may_refuse (Some s) input out (record { status = status; place = place; reason = reason })
  ended_by status e within unread = record {
    replayed = λ is. at status Done is e;
    differs = λ is. at status Differs is e;
    usage = λ is. absurd (at status Usage is e);
    faulty_words = λ none. absurd (some_is_not_none none);
    script = λ is. (at status Script is e).0;
    bundle = λ is. (at status Bundle is e).0;
    too_many = λ is. (at status TooMany is e).0;
    pattern = λ is. (at status Pattern is e).0;
    too_long = λ is. (at status TooLong is e).0;
    longer = λ is. (at status TooLong is e).1;
    within = within;
    read_fault = λ is. (at status ReadFault is e).0;
    unread = unread;
    write_fault = λ is. (at status WriteFault is e).1;
    cut = λ is. (at status WriteFault is e).0;
    unchanged = unwritten_by status e;
  }
    where
      some_is_not_none : Some s ≡ None → ⊥
      some_is_not_none e = cc

pub ended_for : (may_refuse : Bool → List ℕ → Type 0) (told : Option Settings) (s : Settings) (input : Sourced) (out : Sunk) (ending : Ending) → told ≡ Some s
    → IsEnding may_refuse s input out ending.status ending.place ending.reason
    → (ending.status ≢ TooLong → HasTakenWithin input.before input.after LONGEST_INPUT)
    → LeavesInput s.task ending.status input.before input.after input.reads_before input.reads_after
    → RunHasEnded may_refuse told input out ending
ended_for may_refuse told s input out ending is e within unread =
    subst (λ t. RunHasEnded may_refuse t input out ending) (sym is) (ended_by may_refuse s input out ending.place ending.reason ending.status e within unread)

-- where nothing was done for these words, or for want of memory, nothing was read or written
early : (may_refuse : Bool → List ℕ → Type 0) (told : Option Settings) (left held : Option (List ℕ)) (reads writes : ℕ) (ending : Ending) → ((x : Status) → x ≢ Usage → x ≢ NoMemory → ending.status ≢ x)
    → (ending.status ≡ Usage → told ≡ None) → (told ≡ None → IsUnlessMemory Usage ending.status) → RunHasEnded may_refuse told (sourced left left reads reads) (sunk held held writes writes) ending
early may_refuse told left held reads writes ending never usage faulty = record {
  replayed = unmet _ told (never Done (λ e. cc) (λ e. cc));
  differs = unmet _ told (never Differs (λ e. cc) (λ e. cc));
  usage = usage;
  faulty_words = faulty;
  script = unmet _ told (never Script (λ e. cc) (λ e. cc));
  bundle = unmet _ told (never Bundle (λ e. cc) (λ e. cc));
  too_many = unmet _ told (never TooMany (λ e. cc) (λ e. cc));
  pattern = unmet _ told (never Pattern (λ e. cc) (λ e. cc));
  too_long = λ is. absurd (never TooLong (λ e. cc) (λ e. cc) is);
  longer = λ is. absurd (never TooLong (λ e. cc) (λ e. cc) is);
  within = λ _. none_taken left LONGEST_INPUT;
  read_fault = λ is. absurd (never ReadFault (λ e. cc) (λ e. cc) is);
  unread = unread_by told;
  write_fault = λ is. absurd (never WriteFault (λ e. cc) (λ e. cc) is);
  cut = unmet _ told (never WriteFault (λ e. cc) (λ e. cc));
  unchanged = λ _ _ _. (refl, refl);
}
  where
    unread_for : (task : Task) → LeavesInput task ending.status left left reads reads
    unread_for (Play bundle map) = tt
    unread_for (Generate seed crew each) = record { left = refl; faults = refl; no_script = never Script (λ e. cc) (λ e. cc); no_read_fault = never ReadFault (λ e. cc) (λ e. cc); no_too_long = never TooLong (λ e. cc) (λ e. cc); no_pattern = never Pattern (λ e. cc) (λ e. cc) }
    unread_for (Verify len) = tt

    unread_by : (told : Option Settings) → IfSome told (λ s. LeavesInput s.task ending.status left left reads reads)
    unread_by None = tt
    unread_by (Some s) = unread_for s.task

pub ended_for_usage : (may_refuse : Bool → List ℕ → Type 0) (told : Option Settings) (left held : Option (List ℕ)) (reads writes : ℕ) (ending : Ending) → ending.status ≡ Usage → told ≡ None → RunHasEnded may_refuse told (sourced left left reads reads) (sunk held held writes writes) ending
ended_for_usage may_refuse told left held reads writes ending is none =
    early may_refuse told left held reads writes ending (λ x usage memory e. usage (cc (is, e))) (λ _. none) (λ _. inl is)

pub ended_for_memory : (may_refuse : Bool → List ℕ → Type 0) (told : Option Settings) (left held : Option (List ℕ)) (reads writes : ℕ) (ending : Ending) → ending.status ≡ NoMemory → RunHasEnded may_refuse told (sourced left left reads reads) (sunk held held writes writes) ending
ended_for_memory may_refuse told left held reads writes ending is =
    early may_refuse told left held reads writes ending (λ x usage memory e. memory (cc (is, e))) (λ usage. absurd (cc (is, usage))) (λ _. inr is)
