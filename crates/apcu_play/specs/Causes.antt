-- Why a run has no result, and how it ends for an input that was read.
use Rattle.std.specs.Prelude.{◌≡◌, Bool, ℕ, ◌+◌, ◌<◌, List, length, Option, IfSome}
use Rattle.io_edges.specs.Faults.{Rose}
use Rattle.io_edges.specs.Reading.{HasTaken, HasTakenWithin}
use Rattle.apcu_model.specs.declared.conf.Conf.{Conf}
use Rattle.apcu_model.specs.declared.limits.TheConstants.{LONGEST_INPUT}
use Rattle.conf_read.specs.declared.settings.Settings.{Settings}
use Rattle.conf_read.specs.declared.task.Task.{Task}
use Rattle.notation.specs.declared.fault.Reason.{Reason}
use Rattle.notation.specs.declared.fault.Reason.TheVariants.{End}
use Rattle.script_read.specs.declared.fault.ScriptFault.{ScriptFault}
use Rattle.script_read.specs.declared.fault.ScriptFault.TheVariants as faults
use Rattle.crew_play.specs.declared.play.CrewFault.{CrewFault}
use Rattle.crew_play.specs.declared.play.CrewFault.TheVariants as crew
use Rattle.apcu_play.specs.declared.ending.Ending.{Ending}
use Rattle.apcu_play.specs.declared.status.Status.{Status}
use Rattle.apcu_play.specs.declared.status.Status.TheVariants.{Done, Usage, Script, ReadFault}
use Rattle.apcu_play.specs.declared.status.Status.TheVariants.{WriteFault, NoMemory, TooLong}
use Rattle.apcu_play.specs.declared.status.Status.TheVariants.{TooMany, Pattern, Differs, Bundle}
use Rattle.apcu_play.specs.Tasks.{WasRead, AnswersTask, IsRefusedAt, IsUnloadedAt}
use Rattle.apcu_play.specs.Tasks.{IsCrowdedTask, IsUnsearchable}

-- the cause of each status with which a run may end before it has anything to print
abbrev pub IsCause : (Bool → List ℕ → Type 0) → Conf → Task → Option (List ℕ) → Option (List ℕ)
    → ℕ → ℕ → Status → ℕ → Reason → Type 0
IsCause may_refuse conf task before after faults_before faults_after Script place reason =
    IsRefusedAt task before after place reason
IsCause may_refuse conf task before after faults_before faults_after ReadFault place reason =
    HasTakenWithin before after LONGEST_INPUT × Rose faults_before faults_after
IsCause may_refuse conf task before after faults_before faults_after NoMemory place reason =
    HasTakenWithin before after LONGEST_INPUT
IsCause may_refuse conf task before after faults_before faults_after TooLong place reason =
    HasTaken before after (LONGEST_INPUT + 1)
    × IfSome before (λ left. LONGEST_INPUT < length left)
IsCause may_refuse conf task before after faults_before faults_after TooMany place reason =
    IsCrowdedTask conf task before after
IsCause may_refuse conf task before after faults_before faults_after Pattern place reason =
    IsUnsearchable may_refuse conf task before after
IsCause may_refuse conf task before after faults_before faults_after Bundle place reason =
    IsUnloadedAt task before after place reason
IsCause may_refuse conf task before after faults_before faults_after Done place reason = ⊥
IsCause may_refuse conf task before after faults_before faults_after Usage place reason = ⊥
IsCause may_refuse conf task before after faults_before faults_after WriteFault place reason = ⊥
IsCause may_refuse conf task before after faults_before faults_after Differs place reason = ⊥

-- it is the cause whenever these bytes are the whole input
abbrev pub IsCauseIn : (Bool → List ℕ → Type 0) → Conf → Task → List ℕ → Ending → Type 0
IsCauseIn may_refuse conf task bytes ending =
    (before after : Option (List ℕ)) (faults_before faults_after : ℕ) → WasRead before after bytes
    → IsCause may_refuse conf task before after faults_before faults_after
    ending.status ending.place ending.reason

-- a maker of regexes that refuses none: a cause with it is a cause with any other
abbrev pub refuses_none : Bool → List ℕ → Type 0
refuses_none fold text = ⊥

-- this is printed whenever these bytes are the whole input
abbrev pub AnswersBytes : Settings → Task → List ℕ → Status → List ℕ → Type 0
AnswersBytes s task bytes ends printed =
    (before after : Option (List ℕ)) → WasRead before after bytes
    → AnswersTask s task ends before after printed

-- the ending of a run for a fault of what follows this number of bytes
abbrev pub ending_by : Status → ℕ → ScriptFault → Ending
ending_by status ahead (faults.Bad place reason) =
    record { status = status; place = ahead + place; reason = reason }
ending_by status ahead faults.Memory = record { status = NoMemory; place = 0; reason = End }

-- the status of a run whose scripts were not all played
abbrev pub status_for : CrewFault → Status
status_for crew.Memory = NoMemory
status_for crew.TooMany = TooMany
status_for crew.Pattern = Pattern
