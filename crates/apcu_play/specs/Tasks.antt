-- The result of each task of a run: what is printed for it, and what causes each other status.
-- `left` is what a source has left before and after the run; a source may not report it.
use Rattle.std.specs.Prelude.{◌≡◌, ◌≢◌, Bool, true, false, ℕ, ◌+◌, ◌-◌, ◌*◌, ◌<◌, ◌≤◌}
use Rattle.std.specs.Prelude.{List, [], ◌++◌, length, drop, codes, Option, Some, None}
use Rattle.std.specs.Fmt.{decimal}
use Rattle.std.specs.Io.KnownBytes.{prepend_known, IsAtEnd}
use Rattle.apcu_model.specs.declared.conf.Conf.{Conf}
use Rattle.apcu_model.specs.declared.journal.Mark.{Mark}
use Rattle.apcu_model.specs.declared.limits.TheConstants.{LONGEST_INPUT}
use Rattle.conf_read.specs.declared.settings.Settings.{Settings}
use Rattle.conf_read.specs.declared.task.Task.{Task}
use Rattle.conf_read.specs.declared.task.Task.TheVariants.{Play, Generate, Verify}
use Rattle.notation.specs.declared.fault.Reason.{Reason}
use Rattle.script_read.specs.declared.script.Step.{Step}
use Rattle.script_read.specs.Budgets.{most_events}
use Rattle.script_read.specs.Clock.{all_timed}
use Rattle.script_read.specs.Patterns.{SomeRefusable}
use Rattle.script_read.specs.Play.{Play as JournalPlay, played, IsLegal, IsCompletePlay}
use Rattle.reply_text.specs.Output.{output_of}
use Rattle.play_laws.specs.Summary.{Summary, summary_text}
use Rattle.run_verify.specs.declared.verifying.Verdict.{Verdict}
use Rattle.run_verify.specs.declared.verifying.Verdict.TheVariants.{Yes, NoJournal, Event, Byte}
use Rattle.run_verify.specs.Verdicts.{verdict_of}
use Rattle.script_search.specs.ReadPatterns.{AreReadable}
use Rattle.seg_report.specs.Lines.{map_text}
use Rattle.crew_play.specs.PlayedScripts.{ComeFirst}
use Rattle.crew_play.specs.GeneratedRuns.{IsWatched}
use Rattle.apcu_play.specs.declared.status.Status.{Status}
use Rattle.apcu_play.specs.declared.status.Status.TheVariants.{Done, Script, ReadFault, TooLong}
use Rattle.apcu_play.specs.declared.status.Status.TheVariants.{Pattern, Differs}
use Rattle.apcu_play.specs.Inputs.{AreCrew, AreInFront, AreTooMany, AreFew, Spells, SpellsNone}
use Rattle.apcu_play.specs.Inputs.{LacksBundle, IsFirstInputFault, IsFirstBundleFault, bundle_of}

-- ---- the input

-- the input was read to its end, and is not too long
pub record WasRead (left_before left_after : Option (List ℕ)) (input : List ℕ) : Type 0 where
  pub taken : left_before ≡ prepend_known input left_after
  pub whole : IsAtEnd left_after
  pub short : length input ≤ LONGEST_INPUT

-- nothing was read, and the status is none that only a read causes
pub record IsUnread (status : Status) (left_before left_after : Option (List ℕ))
    (faults_before faults_after : ℕ) : Type 0 where
  pub left : left_after ≡ left_before
  pub faults : faults_after ≡ faults_before
  pub no_script : status ≢ Script
  pub no_read_fault : status ≢ ReadFault
  pub no_too_long : status ≢ TooLong
  pub no_pattern : status ≢ Pattern

-- generated scripts need no input
abbrev pub LeavesInput : Task → Status → Option (List ℕ) → Option (List ℕ) → ℕ → ℕ → Type 0
LeavesInput (Play bundle map) status left_before left_after faults_before faults_after = Unit {0}
LeavesInput (Generate seed crew each) status left_before left_after faults_before faults_after =
    IsUnread status left_before left_after faults_before faults_after
LeavesInput (Verify len) status left_before left_after faults_before faults_after = Unit {0}

-- ---- what is printed

-- if a bundle is loaded, the first marks are all of its loader's, which is the last worker
abbrev pub LoadsFirst : Option ℕ → List (List Step) → List Mark → Type 0
LoadsFirst None crew journal = Unit {0}
LoadsFirst (Some len) crew journal = ComeFirst (length crew - 1) journal

-- the map of the cache after a journal that can be played
abbrev pub map_text_after : Option JournalPlay → List ℕ
map_text_after None = []
map_text_after (Some p) = map_text p.stage.cache

-- the output of a journal, followed by the map of the cache after it, if a map is wanted
abbrev pub played_text : Bool → Conf → List (List Step) → List Mark → List ℕ
played_text false conf crew journal = output_of conf crew journal
played_text true conf crew journal =
    output_of conf crew journal ++ map_text_after (played conf crew journal)

-- The whole input spells these scripts, and this is the output of a journal that is legal and
-- complete for them as the clock sees them: each event once, in its worker's order, with the reply
-- that the single-threaded cache gives there. If a bundle is in front of the scripts, its loader is
-- the last of them, and comes first in the journal. If a map is wanted, that of the cache after the
-- journal follows.
pub record AnswersInput (s : Settings) (bundle : Option ℕ) (map : Bool)
    (left_before left_after : Option (List ℕ)) (printed : List ℕ) : Type 0 where
  pub input : List ℕ
  pub scripts : List (List Step)
  pub journal : List Mark
  pub read : WasRead left_before left_after input
  pub spelled : AreCrew bundle input scripts
  pub few : AreFew bundle s.conf scripts
  pub legal : IsLegal s.conf (all_timed s.clock scripts) journal
  pub complete : IsCompletePlay s.conf (all_timed s.clock scripts) journal
  pub first : LoadsFirst bundle scripts journal
  pub text : printed ≡ played_text map s.conf (all_timed s.clock scripts) journal

-- how many events a generated run is counted as: a worker's calls and its end, and nine for the
-- observer
abbrev pub generated_events : ℕ → ℕ → ℕ
generated_events crew each = crew * (each + 1) + 9

-- This is the summary of a journal that is legal and complete for the generated scripts, with the
-- observer's looks last; and it is the one that every such journal has.
pub record AnswersSeed
    (conf : Conf) (seed crew each : ℕ) (printed : List ℕ) : Type 0 where
  pub summary : Summary
  pub few : generated_events crew each ≤ most_events
  pub watched : IsWatched conf seed crew each summary
  pub text : printed ≡ summary_text crew each summary

-- the line of a verdict
abbrev pub verdict_text : Verdict → List ℕ
verdict_text Yes = codes "yes\n"
verdict_text NoJournal = codes "no: journal\n"
verdict_text (Event k) = codes "no: event " ++ (decimal k ++ codes "\n")
verdict_text (Byte place) = codes "no: byte " ++ (decimal place ++ codes "\n")

-- the status of a run that has written it whole
abbrev pub ending_for : Verdict → Status
ending_for Yes = Done
ending_for NoJournal = Differs
ending_for (Event k) = Differs
ending_for (Byte place) = Differs

-- The first `len` bytes of the whole input spell these scripts, whose patterns are valid, and this
-- is the verdict on the rest as an output of theirs, as the clock sees them.
pub record AnswersOutput (s : Settings) (len : ℕ) (ends : Status)
    (left_before left_after : Option (List ℕ)) (printed : List ℕ) : Type 0 where
  pub input : List ℕ
  pub scripts : List (List Step)
  pub verdict : Verdict
  pub read : WasRead left_before left_after input
  pub spelled : AreInFront len input scripts
  pub few : AreFew None s.conf scripts
  pub readable : AreReadable scripts
  pub judged : verdict ≡ verdict_of s.conf (all_timed s.clock scripts) (drop len input)
  pub text : printed ≡ verdict_text verdict
  pub ended : ends ≡ ending_for verdict

-- what a run for this task prints, and how it ends if that was written whole
abbrev pub AnswersTask
    : Settings → Task → Status → Option (List ℕ) → Option (List ℕ) → List ℕ → Type 0
AnswersTask s (Play bundle map) ends left_before left_after printed =
    (ends ≡ Done) × AnswersInput s bundle map left_before left_after printed
AnswersTask s (Generate seed crew each) ends left_before left_after printed =
    (ends ≡ Done) × AnswersSeed s.conf seed crew each printed
AnswersTask s (Verify len) ends left_before left_after printed =
    AnswersOutput s len ends left_before left_after printed

-- ---- causes

-- The whole input spells no scripts for the task: its first fault, from left to right, is at this
-- place and of this reason.
pub record IsRefusedAt (task : Task)
    (left_before left_after : Option (List ℕ)) (place : ℕ) (reason : Reason) : Type 0 where
  pub input : List ℕ
  pub read : WasRead left_before left_after input
  pub nothing : SpellsNone task input
  pub first : IsFirstInputFault task input place reason

pub record IsRefused (task : Task) (left_before left_after : Option (List ℕ)) : Type 0 where
  pub place : ℕ
  pub reason : Reason
  pub at : IsRefusedAt task left_before left_after place reason

-- The whole input does not begin with a bundle, though the task asks for one: its first fault is at
-- this place and of this reason.
pub record IsUnloadedAt (task : Task)
    (left_before left_after : Option (List ℕ)) (place : ℕ) (reason : Reason) : Type 0 where
  pub input : List ℕ
  pub read : WasRead left_before left_after input
  pub nothing : LacksBundle task input
  pub first : IsFirstBundleFault task input place reason

pub record IsUnloaded (task : Task) (left_before left_after : Option (List ℕ)) : Type 0 where
  pub place : ℕ
  pub reason : Reason
  pub at : IsUnloadedAt task left_before left_after place reason

-- The whole input spells scripts that are too many for the task: their calls, with each worker's
-- end, may make too many events.
pub record IsCrowded (conf : Conf) (task : Task) (left_before left_after : Option (List ℕ))
    : Type 0 where
  pub input : List ℕ
  pub scripts : List (List Step)
  pub read : WasRead left_before left_after input
  pub spelled : Spells task input scripts
  pub many : AreTooMany (bundle_of task) conf scripts

-- too many events, as the task has them
abbrev pub IsCrowdedTask : Conf → Task → Option (List ℕ) → Option (List ℕ) → Type 0
IsCrowdedTask conf (Play bundle map) left_before left_after =
    IsCrowded conf (Play bundle map) left_before left_after
IsCrowdedTask conf (Generate seed crew each) left_before left_after =
    most_events < generated_events crew each
IsCrowdedTask conf (Verify len) left_before left_after =
    IsCrowded conf (Verify len) left_before left_after

-- The whole input spells scripts of few enough events, and the regex of a pattern in them may be
-- refused: the grammar does not parse it, or the maker may refuse it.
pub record IsUnsearchable (may_refuse : Bool → List ℕ → Type 0) (conf : Conf) (task : Task)
    (left_before left_after : Option (List ℕ)) : Type 0 where
  pub input : List ℕ
  pub scripts : List (List Step)
  pub read : WasRead left_before left_after input
  pub spelled : Spells task input scripts
  pub few : AreFew (bundle_of task) conf scripts
  pub refusable : SomeRefusable may_refuse scripts
