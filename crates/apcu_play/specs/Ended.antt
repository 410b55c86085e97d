-- How a run has ended, all of it: the promises of a run as one record.
use Rattle.std.specs.Prelude.{◌≡◌, ◌≢◌, ◌+◌, ◌<◌, Bool, ℕ, List, length, Option, None, IfSome}
use Rattle.io_edges.specs.Faults.{Rose}
use Rattle.io_edges.specs.Reading.{HasTaken, HasTakenWithin}
use Rattle.conf_read.specs.declared.settings.Settings.{Settings}
use Rattle.notation.specs.declared.fault.Reason.{Reason}
use Rattle.apcu_model.specs.declared.limits.TheConstants.{LONGEST_INPUT}
use Rattle.apcu_play.specs.declared.ending.Ending.{Ending}
use Rattle.apcu_play.specs.declared.status.Status.{Status}
use Rattle.apcu_play.specs.declared.status.Status.TheVariants.{Done, Usage, Script, ReadFault}
use Rattle.apcu_play.specs.declared.status.Status.TheVariants.{WriteFault, NoMemory, TooLong}
use Rattle.apcu_play.specs.declared.status.Status.TheVariants.{TooMany, Pattern, Differs, Bundle}
use Rattle.apcu_play.specs.Causes.{IsCause}
use Rattle.apcu_play.specs.Run.{IsUnlessMemory, Replays, ReplaysPart}
use Rattle.apcu_play.specs.Tasks.{IsRefusedAt, IsUnloadedAt, IsCrowdedTask}
use Rattle.apcu_play.specs.Tasks.{IsUnsearchable, LeavesInput}

-- a source before and after a run: what it has left, and its count of faults
pub record Sourced : Type 0 where
  pub before : Option (List ℕ)
  pub after : Option (List ℕ)
  pub reads_before : ℕ
  pub reads_after : ℕ

-- a sink before and after it: what it holds, and its count of faults
pub record Sunk : Type 0 where
  pub before : Option (List ℕ)
  pub after : Option (List ℕ)
  pub writes_before : ℕ
  pub writes_after : ℕ

abbrev pub sourced : Option (List ℕ) → Option (List ℕ) → ℕ → ℕ → Sourced
sourced before after faults_before faults_after = record {
  before = before;
  after = after;
  reads_before = faults_before;
  reads_after = faults_after;
}

abbrev pub sunk : Option (List ℕ) → Option (List ℕ) → ℕ → ℕ → Sunk
sunk before after faults_before faults_after = record {
  before = before;
  after = after;
  writes_before = faults_before;
  writes_after = faults_after;
}

-- nothing was written
abbrev pub IsUnwritten : Sunk → Type 0
IsUnwritten out = (out.after ≡ out.before) × (out.writes_after ≡ out.writes_before)

-- what each status says of a run that these settings ask for
abbrev pub IsEnding
    : (Bool → List ℕ → Type 0) → Settings → Sourced → Sunk → Status → ℕ → Reason → Type 0
IsEnding may_refuse s input out Done place reason =
    Replays s Done input.before input.after out.before out.after
IsEnding may_refuse s input out Differs place reason =
    Replays s Differs input.before input.after out.before out.after
IsEnding may_refuse s input out WriteFault place reason =
    ReplaysPart s input.before input.after out.before out.after
    × Rose out.writes_before out.writes_after
IsEnding may_refuse s input out Script place reason =
    IsRefusedAt s.task input.before input.after place reason × IsUnwritten out
IsEnding may_refuse s input out Bundle place reason =
    IsUnloadedAt s.task input.before input.after place reason × IsUnwritten out
IsEnding may_refuse s input out ReadFault place reason =
    Rose input.reads_before input.reads_after × IsUnwritten out
IsEnding may_refuse s input out NoMemory place reason = IsUnwritten out
IsEnding may_refuse s input out TooLong place reason =
    HasTaken input.before input.after (LONGEST_INPUT + 1)
    × IfSome input.before (λ left. LONGEST_INPUT < length left)
    × IsUnwritten out
IsEnding may_refuse s input out TooMany place reason =
    IsCrowdedTask s.conf s.task input.before input.after × IsUnwritten out
IsEnding may_refuse s input out Pattern place reason =
    IsUnsearchable may_refuse s.conf s.task input.before input.after × IsUnwritten out
IsEnding may_refuse s input out Usage place reason = ⊥

-- how a run has ended for these words, in order or not
pub record RunHasEnded (may_refuse : Bool → List ℕ → Type 0) (parsed : Option Settings)
    (input : Sourced) (out : Sunk) (ending : Ending) : Type 0 where
  pub replayed : IfSome parsed (λ s. ending.status ≡ Done
      → Replays s Done input.before input.after out.before out.after)
  pub differs : IfSome parsed (λ s. ending.status ≡ Differs
      → Replays s Differs input.before input.after out.before out.after)
  pub usage : ending.status ≡ Usage → parsed ≡ None
  pub faulty_words : parsed ≡ None → IsUnlessMemory Usage ending.status
  pub script : IfSome parsed (λ s. ending.status ≡ Script
      → IsRefusedAt s.task input.before input.after ending.place ending.reason)
  pub bundle : IfSome parsed (λ s. ending.status ≡ Bundle
      → IsUnloadedAt s.task input.before input.after ending.place ending.reason)
  pub too_many : IfSome parsed (λ s. ending.status ≡ TooMany
      → IsCrowdedTask s.conf s.task input.before input.after)
  pub pattern : IfSome parsed (λ s. ending.status ≡ Pattern
      → IsUnsearchable may_refuse s.conf s.task input.before input.after)
  pub too_long : ending.status ≡ TooLong
      → HasTaken input.before input.after (LONGEST_INPUT + 1)
  pub longer : ending.status ≡ TooLong
      → IfSome input.before (λ left. LONGEST_INPUT < length left)
  pub within : ending.status ≢ TooLong
      → HasTakenWithin input.before input.after LONGEST_INPUT
  pub read_fault : ending.status ≡ ReadFault → Rose input.reads_before input.reads_after
  pub unread : IfSome parsed (λ s. LeavesInput s.task ending.status
      input.before input.after input.reads_before input.reads_after)
  pub write_fault : ending.status ≡ WriteFault → Rose out.writes_before out.writes_after
  pub cut : IfSome parsed (λ s. ending.status ≡ WriteFault
      → ReplaysPart s input.before input.after out.before out.after)
  pub unchanged : ending.status ≢ Done → ending.status ≢ Differs
      → ending.status ≢ WriteFault → IsUnwritten out
