-- What a run promises. `left` is what a source has left, `held` what a sink holds, before and after
-- the run; a source or a sink may not report it.
use Rattle.std.specs.Prelude.{◌≡◌, ◌⊎◌, Bool, true, false, ℕ, ◌<◌, ◌≤◌, List, length, take, Option}
use Rattle.std.specs.Prelude.{Some}
use Rattle.std.specs.Io.KnownBytes.{append_known}
use Rattle.io_edges.specs.Faults.{Rose}
use Rattle.apcu_model.specs.declared.conf.Conf.{Conf}
use Rattle.apcu_model.specs.declared.limits.TheConstants.{LONGEST_INPUT}
use Rattle.conf_read.specs.declared.settings.Settings.{Settings}
use Rattle.conf_read.specs.declared.task.Task.{Task}
use Rattle.conf_read.specs.declared.task.Task.TheVariants.{Play, Generate, Verify}
use Rattle.script_read.specs.declared.script.Step.{Step}
use Rattle.apcu_play.specs.declared.status.Status.{Status}
use Rattle.apcu_play.specs.declared.status.Status.TheVariants.{Done, Script, NoMemory, TooLong}
use Rattle.apcu_play.specs.declared.status.Status.TheVariants.{TooMany, Differs, Bundle}
use Rattle.notation.specs.declared.fault.Reason.{Reason}
use Rattle.apcu_play.specs.Message.{script_message, bundle_message}
use Rattle.script_read.specs.Budgets.{most_events}
use Rattle.script_read.specs.Patterns.{SomeRefusable}
use Rattle.apcu_play.specs.Inputs.{AreTooMany, AreFew, Spells, SpellsNone, LacksBundle, bundle_of}
use Rattle.apcu_play.specs.Tasks.{AnswersTask, IsRefusedAt, IsUnloadedAt}
use Rattle.apcu_play.specs.Tasks.{generated_events}

-- ---- what is written

-- a text of this kind was written whole
pub record WritesAll
    (Answers : List ℕ → Type 0) (held_before held_after : Option (List ℕ)) : Type 0 where
  pub printed : List ℕ
  pub answer : Answers printed
  pub written : held_after ≡ append_known held_before printed

-- only the first part of such a text was written
pub record WritesPart
    (Answers : List ℕ → Type 0) (held_before held_after : Option (List ℕ)) : Type 0 where
  pub printed : List ℕ
  pub count : ℕ
  pub answer : Answers printed
  pub fewer : count < length printed
  pub written : held_after ≡ append_known held_before (take count printed)

-- all of what the settings ask for was written, and a run that has written it ends so
abbrev pub Replays : Settings → Status → Option (List ℕ) → Option (List ℕ) → Option (List ℕ)
    → Option (List ℕ) → Type 0
Replays s ends left_before left_after held_before held_after =
    WritesAll (AnswersTask s s.task ends left_before left_after) held_before held_after

-- what the settings ask for, however a run that has written it ends
abbrev pub AnswersSome
    : Settings → Option (List ℕ) → Option (List ℕ) → List ℕ → Type 0
AnswersSome s left_before left_after printed =
    (ends : Status) × AnswersTask s s.task ends left_before left_after printed

-- only the first part of it was written
abbrev pub ReplaysPart : Settings → Option (List ℕ) → Option (List ℕ) → Option (List ℕ)
    → Option (List ℕ) → Type 0
ReplaysPart s left_before left_after held_before held_after =
    WritesPart (AnswersSome s left_before left_after) held_before held_after

-- whether all of a text was written: it follows what was held, or only the first part of it does
-- and a write failed
abbrev pub WasWritten : Bool → List ℕ → Option (List ℕ) → Option (List ℕ) → ℕ → ℕ → Type 0
WasWritten true text held_before held_after faults_before faults_after =
    (held_after ≡ append_known held_before text) × (faults_after ≡ faults_before)
WasWritten false text held_before held_after faults_before faults_after =
    (count : ℕ)
    × (count < length text)
    × (held_after ≡ append_known held_before (take count text))
    × Rose faults_before faults_after

-- the message was printed, or the first part of it if a write failed
pub record TellsMessage
    (message : List ℕ) (held_before held_after : Option (List ℕ)) (faults_before faults_after : ℕ)
    : Type 0 where
  pub all : Bool
  pub written : WasWritten all message held_before held_after faults_before faults_after

-- a script's first fault was printed
pub record TellsRefusal (task : Task)
    (left_before left_after held_before held_after : Option (List ℕ))
    (faults_before faults_after : ℕ)
    : Type 0 where
  pub place : ℕ
  pub reason : Reason
  pub refused : IsRefusedAt task left_before left_after place reason
  pub written :
      TellsMessage (script_message place reason) held_before held_after faults_before faults_after

-- a bundle's first fault was printed
pub record TellsUnloaded (task : Task)
    (left_before left_after held_before held_after : Option (List ℕ))
    (faults_before faults_after : ℕ)
    : Type 0 where
  pub place : ℕ
  pub reason : Reason
  pub unloaded : IsUnloadedAt task left_before left_after place reason
  pub written :
      TellsMessage (bundle_message place reason) held_before held_after faults_before faults_after

-- this status, if memory was found
abbrev pub IsUnlessMemory : Status → Status → Type 0
IsUnlessMemory expected status = (status ≡ expected) ⊎ (status ≡ NoMemory)

-- a result was written whole, if memory was found: a verdict is that of an output, or of none
abbrev pub IsWrittenWhole : Task → Status → Type 0
IsWrittenWhole (Play bundle map) status = IsUnlessMemory Done status
IsWrittenWhole (Generate seed crew each) status = IsUnlessMemory Done status
IsWrittenWhole (Verify len) status = (status ≡ Differs) ⊎ IsUnlessMemory Done status

-- The status that a run that reads its input must have, if its source reports what it has left and
-- no fault was counted. It has a result only if no pattern of the scripts may be refused.
pub record CompletesInput
    (may_refuse : Bool → List ℕ → Type 0) (conf : Conf) (task : Task) (status : Status)
    (left_before : Option (List ℕ)) (reads_before reads_after writes_before writes_after : ℕ)
    : Type 0 where
  pub done : (input : List ℕ) (scripts : List (List Step))
      → left_before ≡ Some input → length input ≤ LONGEST_INPUT → Spells task input scripts
      → AreFew (bundle_of task) conf scripts → ¬ SomeRefusable may_refuse scripts
      → ¬ Rose reads_before reads_after → ¬ Rose writes_before writes_after
      → IsWrittenWhole task status
  pub too_many : (input : List ℕ) (scripts : List (List Step))
      → left_before ≡ Some input → length input ≤ LONGEST_INPUT → Spells task input scripts
      → AreTooMany (bundle_of task) conf scripts
      → ¬ Rose reads_before reads_after
      → IsUnlessMemory TooMany status
  pub refused : (input : List ℕ)
      → left_before ≡ Some input → length input ≤ LONGEST_INPUT → SpellsNone task input
      → ¬ Rose reads_before reads_after
      → IsUnlessMemory Script status
  pub unloaded : (input : List ℕ)
      → left_before ≡ Some input → length input ≤ LONGEST_INPUT → LacksBundle task input
      → ¬ Rose reads_before reads_after
      → IsUnlessMemory Bundle status
  pub too_long : (input : List ℕ)
      → left_before ≡ Some input → LONGEST_INPUT < length input
      → ¬ Rose reads_before reads_after
      → IsUnlessMemory TooLong status

-- The status that a generated run must have if no write failed.
pub record CompletesSeed
    (crew each : ℕ) (status : Status) (writes_before writes_after : ℕ) : Type 0 where
  pub done : generated_events crew each ≤ most_events → ¬ Rose writes_before writes_after
      → IsUnlessMemory Done status
  pub too_many : most_events < generated_events crew each → IsUnlessMemory TooMany status

-- the status that a run for this task must have
abbrev pub CompletesTask
    : (Bool → List ℕ → Type 0) → Conf → Task → Status → Option (List ℕ) → ℕ → ℕ → ℕ → ℕ → Type 0
CompletesTask may_refuse conf (Play bundle map) status left_before
    reads_before reads_after writes_before writes_after =
    CompletesInput may_refuse conf (Play bundle map) status left_before
    reads_before reads_after writes_before writes_after
CompletesTask may_refuse conf (Generate seed crew each) status left_before
    reads_before reads_after writes_before writes_after =
    CompletesSeed crew each status writes_before writes_after
CompletesTask may_refuse conf (Verify len) status left_before
    reads_before reads_after writes_before writes_after =
    CompletesInput may_refuse conf (Verify len) status left_before
    reads_before reads_after writes_before writes_after

-- the status that the settings ask for is reached
abbrev pub Completes
    : (Bool → List ℕ → Type 0) → Settings → Status → Option (List ℕ) → ℕ → ℕ → ℕ → ℕ → Type 0
Completes may_refuse s status = CompletesTask may_refuse s.conf s.task status
