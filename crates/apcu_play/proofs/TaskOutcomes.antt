-- What a run must come to, by its task.
use Rattle.std.proofs.Common.{◌≡◌, ◌≢◌, ◌<◌, ◌≤◌, ℕ, List, length, Option, Some, None, inl, inr, refl, arith}
use Rattle.std.specs.Prelude.{Bool, IfSome}
use Rattle.io_edges.specs.Faults.{Rose}
use Rattle.apcu_model.specs.declared.conf.Conf.{Conf}
use Rattle.apcu_model.specs.declared.limits.TheConstants.{LONGEST_INPUT}
use Rattle.conf_read.specs.declared.settings.Settings.{Settings}
use Rattle.conf_read.specs.declared.task.Task.{Task}
use Rattle.conf_read.specs.declared.task.Task.TheVariants.{Play, Generate, Verify}
use Rattle.notation.specs.declared.fault.Reason.{Reason}
use Rattle.preload_set.specs.Ties.{BundlesAreOne}
use Rattle.script_read.specs.Budgets.{most_events}
use Rattle.script_read.specs.Ties.{ScriptsAreOne}
use Rattle.run_verify.specs.declared.verifying.Verdict.{Verdict}
use Rattle.run_verify.specs.declared.verifying.Verdict.TheVariants.{Yes, NoJournal, Event, Byte}
use Rattle.apcu_play.specs.declared.ending.Ending.{Ending}
use Rattle.apcu_play.specs.declared.status.Status.{Status}
use Rattle.apcu_play.specs.declared.status.Status.TheVariants.{Done, Usage, Script, ReadFault, WriteFault, NoMemory, TooLong, TooMany, Pattern, Differs, Bundle}
use Rattle.apcu_play.specs.Ended.{Sourced, Sunk, RunHasEnded}
use Rattle.apcu_play.specs.Inputs.{AreFew}
use Rattle.apcu_play.specs.Tasks.{AnswersInput, AnswersOutput, AnswersTask, AnswersSeed, IsRefused, IsRefusedAt, IsUnloaded, IsUnloadedAt, IsCrowdedTask, IsUnsearchable, IsUnread, LeavesInput, generated_events}
use Rattle.apcu_play.specs.Message.{script_message, bundle_message}
use Rattle.apcu_play.specs.Run.{WritesAll, WritesPart, IsUnlessMemory, CompletesSeed, CompletesTask, Completes, TellsMessage, TellsRefusal, TellsUnloaded}
use Rattle.apcu_play.proofs.InputOutcomes.{Spelled, completes}

-- a generated run whose status is not `TooMany` is done, unless a write failed
module _ (conf : Conf) (seed crew each : ℕ) (before after : Option (List ℕ)) (reads_before reads_after writes_before writes_after : ℕ) where
  pub record SeedEnded (status : Status) : Type 0 where
    pub few : status ≡ Done → generated_events crew each ≤ most_events
    pub cut : status ≡ WriteFault → generated_events crew each ≤ most_events
    pub usage : status ≢ Usage
    pub differs : status ≢ Differs
    pub bundle : status ≢ Bundle
    pub too_many : status ≡ TooMany → most_events < generated_events crew each
    pub unread : IsUnread status before after reads_before reads_after
    pub write_fault : status ≡ WriteFault → Rose writes_before writes_after

  done_by : (status : Status) → SeedEnded status → generated_events crew each ≤ most_events → ¬ Rose writes_before writes_after → IsUnlessMemory Done status
  done_by Done e few no_write = inl refl
  done_by Usage e few no_write = absurd (e.usage refl)
  done_by Script e few no_write = absurd (e.unread.no_script refl)
  done_by ReadFault e few no_write = absurd (e.unread.no_read_fault refl)
  done_by WriteFault e few no_write = absurd (no_write (e.write_fault refl))
  done_by NoMemory e few no_write = inr refl
  done_by TooLong e few no_write = absurd (e.unread.no_too_long refl)
  done_by TooMany e few no_write = let many = e.too_many refl in absurd (omega arith)
  done_by Pattern e few no_write = absurd (e.unread.no_pattern refl)
  done_by Differs e few no_write = absurd (e.differs refl)
  done_by Bundle e few no_write = absurd (e.bundle refl)

  too_many_by : (status : Status) → SeedEnded status → most_events < generated_events crew each → IsUnlessMemory TooMany status
  too_many_by Done e many = let few = e.few refl in absurd (omega arith)
  too_many_by Usage e many = absurd (e.usage refl)
  too_many_by Script e many = absurd (e.unread.no_script refl)
  too_many_by ReadFault e many = absurd (e.unread.no_read_fault refl)
  too_many_by WriteFault e many = let few = e.cut refl in absurd (omega arith)
  too_many_by NoMemory e many = inr refl
  too_many_by TooLong e many = absurd (e.unread.no_too_long refl)
  too_many_by TooMany e many = inl refl
  too_many_by Pattern e many = absurd (e.unread.no_pattern refl)
  too_many_by Differs e many = absurd (e.differs refl)
  too_many_by Bundle e many = absurd (e.bundle refl)

  pub seed_completes : (status : Status) → SeedEnded status → CompletesSeed crew each status writes_before writes_after
  seed_completes status e = record { done = done_by status e; too_many = too_many_by status e }

of_input : (s : Settings) (bundle : Option ℕ) (map : Bool) (before after : Option (List ℕ)) (printed : List ℕ) → AnswersInput s bundle map before after printed
    → Spelled (Play bundle map) before after (AreFew bundle s.conf)
of_input s bundle map before after printed a = record { input = a.input; scripts = a.scripts; read = a.read; spelled = a.spelled; has = a.few }

of_output : (s : Settings) (len : ℕ) (ends : Status) (before after : Option (List ℕ)) (printed : List ℕ) → AnswersOutput s len ends before after printed
    → Spelled (Verify len) before after (AreFew None s.conf)
of_output s len ends before after printed a = record { input = a.input; scripts = a.scripts; read = a.read; spelled = a.spelled; has = a.few }

never_differs : Differs ≡ Done → ⊥
never_differs e = cc

-- by the task
completes_for : (one : ScriptsAreOne) (bundles : BundlesAreOne) (may_refuse : Bool → List ℕ → Type 0) (s : Settings) (task : Task) (before after held_before held_after : Option (List ℕ)) (reads_before reads_after writes_before writes_after : ℕ) (status : Status)
    → (status ≡ Done → WritesAll (AnswersTask s task Done before after) held_before held_after)
    → (status ≡ Differs → WritesAll (AnswersTask s task Differs before after) held_before held_after)
    → status ≢ Usage
    → (status ≡ Script → IsRefused task before after)
    → (status ≡ Bundle → IsUnloaded task before after)
    → (status ≡ TooMany → IsCrowdedTask s.conf task before after)
    → (status ≡ Pattern → IsUnsearchable may_refuse s.conf task before after)
    → (status ≡ TooLong → IfSome before (λ left. LONGEST_INPUT < length left))
    → (status ≡ ReadFault → Rose reads_before reads_after)
    → LeavesInput task status before after reads_before reads_after
    → (status ≡ WriteFault → Rose writes_before writes_after)
    → (status ≡ WriteFault → WritesPart (λ printed. (ends : Status) × AnswersTask s task ends before after printed) held_before held_after)
    → CompletesTask may_refuse s.conf task status before reads_before reads_after writes_before writes_after
completes_for one bundles may_refuse s (Play bundle map) before after held_before held_after reads_before reads_after writes_before writes_after status replayed differs usage script unloaded too_many pattern longer read_fault unread write_fault cut =
    completes one bundles may_refuse s.conf (Play bundle map) before after reads_before reads_after writes_before writes_after status
    (record {
      done = λ is. let w = replayed is in of_input s bundle map before after w.printed w.answer.1;
      differs = λ is. absurd (never_differs (differs is).answer.0);
      cut = λ is. let w = cut is in of_input s bundle map before after w.printed w.answer.1.1;
      usage = usage;
      script = script;
      bundle = unloaded;
      too_many = too_many;
      pattern = pattern;
      longer = longer;
      read_fault = read_fault;
      write_fault = write_fault;
    })
completes_for one bundles may_refuse s (Generate seed crew each) before after held_before held_after reads_before reads_after writes_before writes_after status replayed differs usage script unloaded too_many pattern longer read_fault unread write_fault cut =
    seed_completes s.conf seed crew each before after reads_before reads_after writes_before writes_after status
    (record {
      few = λ is. (replayed is).answer.1.few;
      cut = λ is. (cut is).answer.1.1.few;
      usage = usage;
      differs = λ is. never_differs (differs is).answer.0;
      bundle = λ is. (unloaded is).at.nothing;
      too_many = too_many;
      unread = unread;
      write_fault = write_fault;
    })
completes_for one bundles may_refuse s (Verify len) before after held_before held_after reads_before reads_after writes_before writes_after status replayed differs usage script unloaded too_many pattern longer read_fault unread write_fault cut =
    completes one bundles may_refuse s.conf (Verify len) before after reads_before reads_after writes_before writes_after status
    (record {
      done = λ is. let w = replayed is in of_output s len Done before after w.printed w.answer;
      differs = λ is. let w = differs is in (of_output s len Differs before after w.printed w.answer, inl refl);
      cut = λ is. let w = cut is in of_output s len w.answer.0 before after w.printed w.answer.1;
      usage = usage;
      script = script;
      bundle = unloaded;
      too_many = too_many;
      pattern = pattern;
      longer = longer;
      read_fault = read_fault;
      write_fault = write_fault;
    })

refused_of : (s : Settings) (input : Sourced) (ending : Ending) → (ending.status ≡ Script → IsRefusedAt s.task input.before input.after ending.place ending.reason) → ending.status ≡ Script → IsRefused s.task input.before input.after
refused_of s input ending at is = record { place = ending.place; reason = ending.reason; at = at is }

unloaded_of : (s : Settings) (input : Sourced) (ending : Ending) → (ending.status ≡ Bundle → IsUnloadedAt s.task input.before input.after ending.place ending.reason) → ending.status ≡ Bundle → IsUnloaded s.task input.before input.after
unloaded_of s input ending at is = record { place = ending.place; reason = ending.reason; at = at is }

-- what the words ask for, if they are in order
pub completes_if : (one : ScriptsAreOne) (bundles : BundlesAreOne) (may_refuse : Bool → List ℕ → Type 0) (told : Option Settings) (input : Sourced) (out : Sunk) (ending : Ending) → RunHasEnded may_refuse told input out ending
    → IfSome told (λ s. Completes may_refuse s ending.status input.before input.reads_before input.reads_after out.writes_before out.writes_after)
completes_if one bundles may_refuse None input out ending e = tt
completes_if one bundles may_refuse (Some s) input out ending e =
    completes_for one bundles may_refuse s s.task input.before input.after out.before out.after input.reads_before input.reads_after out.writes_before out.writes_after ending.status
    e.replayed e.differs (λ is. absurd (some_is_not_none (e.usage is))) (refused_of s input ending e.script) (unloaded_of s input ending e.bundle) e.too_many e.pattern e.longer e.read_fault e.unread e.write_fault e.cut
  where
    some_is_not_none : Some s ≡ None → ⊥
    some_is_not_none e = cc

-- what is printed of a fault of the scripts, if the words ask for any
pub refused_if : (told : Option Settings) (input : Sourced) (ending : Ending) → IfSome told (λ s. ending.status ≡ Script → IsRefusedAt s.task input.before input.after ending.place ending.reason)
    → IfSome told (λ s. ending.status ≡ Script → IsRefused s.task input.before input.after)
refused_if None input ending at = tt
refused_if (Some s) input ending at = refused_of s input ending at

pub unloaded_if : (told : Option Settings) (input : Sourced) (ending : Ending) → IfSome told (λ s. ending.status ≡ Bundle → IsUnloadedAt s.task input.before input.after ending.place ending.reason)
    → IfSome told (λ s. ending.status ≡ Bundle → IsUnloaded s.task input.before input.after)
unloaded_if None input ending at = tt
unloaded_if (Some s) input ending at = unloaded_of s input ending at

pub told_refusal : (told : Option Settings) (input : Sourced) (ending : Ending) (held_before held_after : Option (List ℕ)) (faults_before faults_after : ℕ) → IfSome told (λ s. ending.status ≡ Script → IsRefusedAt s.task input.before input.after ending.place ending.reason)
    → (ending.status ≡ Script → TellsMessage (script_message ending.place ending.reason) held_before held_after faults_before faults_after)
    → IfSome told (λ s. ending.status ≡ Script → TellsRefusal s.task input.before input.after held_before held_after faults_before faults_after)
told_refusal None input ending held_before held_after faults_before faults_after at told = tt
told_refusal (Some s) input ending held_before held_after faults_before faults_after at told = λ is. record { place = ending.place; reason = ending.reason; refused = at is; written = told is }

pub told_unloaded : (told : Option Settings) (input : Sourced) (ending : Ending) (held_before held_after : Option (List ℕ)) (faults_before faults_after : ℕ) → IfSome told (λ s. ending.status ≡ Bundle → IsUnloadedAt s.task input.before input.after ending.place ending.reason)
    → (ending.status ≡ Bundle → TellsMessage (bundle_message ending.place ending.reason) held_before held_after faults_before faults_after)
    → IfSome told (λ s. ending.status ≡ Bundle → TellsUnloaded s.task input.before input.after held_before held_after faults_before faults_after)
told_unloaded None input ending held_before held_after faults_before faults_after at told = tt
told_unloaded (Some s) input ending held_before held_after faults_before faults_after at told = λ is. record { place = ending.place; reason = ending.reason; unloaded = at is; written = told is }
