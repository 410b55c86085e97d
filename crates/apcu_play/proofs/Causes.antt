-- Why a run came to no answer, and what it then leaves.
use Rattle.std.proofs.Common.{◌≡◌, ◌≢◌, ◌<◌, ◌≤◌, ◌+◌, ℕ, List, length, take, drop, Option, Some, None, Result, Ok, Err, inl, inr, refl, sym, subst, ⊎_elim, arith, ◌∙◌}
use Rattle.std.specs.Prelude.{Bool, IfErr, IfSome, ◌⊎◌}
use Rattle.io_edges.specs.Faults.{Rose}
use Rattle.io_edges.specs.Reading.{HasTakenWithin}
use Rattle.apcu_model.specs.declared.conf.Conf.{Conf}
use Rattle.apcu_model.specs.declared.limits.TheConstants.{LONGEST_INPUT}
use Rattle.conf_read.specs.declared.settings.Settings.{Settings}
use Rattle.conf_read.specs.declared.task.Task.{Task}
use Rattle.conf_read.specs.declared.task.Task.TheVariants.{Play, Generate, Verify}
use Rattle.notation.specs.declared.fault.Reason.{Reason}
use Rattle.script_read.specs.declared.fault.ScriptFault.{ScriptFault}
use Rattle.script_read.specs.declared.fault.ScriptFault.TheVariants as faults
use Rattle.script_read.specs.declared.script.Step.{Step}
use Rattle.script_read.specs.Gives.{ReadsScripts}
use Rattle.script_read.specs.Grammar.{AreScripts}
use Rattle.script_read.specs.Budgets.{all_events, most_events}
use Rattle.script_read.specs.Patterns.{SomeRefusable}
use Rattle.crew_play.specs.declared.play.CrewFault.{CrewFault}
use Rattle.crew_play.specs.declared.play.CrewFault.TheVariants as crew
use Rattle.apcu_play.specs.declared.ending.Ending.{Ending}
use Rattle.apcu_play.specs.declared.status.Status.{Status}
use Rattle.apcu_play.specs.declared.status.Status.TheVariants.{Done, Usage, Script, ReadFault, WriteFault, NoMemory, TooLong, TooMany, Pattern, Differs, Bundle}
use Rattle.apcu_play.specs.Causes.{IsCause, IsCauseIn, ending_by, refuses_none, status_for}
use Rattle.apcu_play.specs.Ended.{Sourced, Sunk, IsUnwritten, IsEnding}
use Rattle.apcu_play.specs.Inputs.{AreTooMany, AreFew, Spells, SpellsNone, LacksBundle, IsFirstInputFault, IsFirstBundleFault, bundle_of}
use Rattle.apcu_play.specs.Tasks.{WasRead, IsCrowded, IsCrowdedTask, LeavesInput, generated_events}
use Rattle.apcu_play.proofs.InputFaults.{whole_fault}
use Rattle.apcu_play.proofs.TakenInput.{was_taken, none_taken}

-- nothing is taken from an input that is left
left_taken : (before after : Option (List ℕ)) (most : ℕ) → after ≡ before → HasTakenWithin before after most
left_taken before after most same = subst (λ a. HasTakenWithin before a most) (sym same) (none_taken before most)

crowded_taken : (conf : Conf) (task : Task) (before after : Option (List ℕ)) (status : Status) (reads_before reads_after : ℕ) → IsCrowdedTask conf task before after → LeavesInput task status before after reads_before reads_after → HasTakenWithin before after LONGEST_INPUT
crowded_taken conf (Play bundle map) before after status reads_before reads_after c unread = was_taken before after c.input c.read
crowded_taken conf (Generate seed crew each) before after status reads_before reads_after c unread = left_taken before after LONGEST_INPUT unread.left
crowded_taken conf (Verify len) before after status reads_before reads_after c unread = was_taken before after c.input c.read

-- what was taken at most, by the cause
pub cause_within : (may_refuse : Bool → List ℕ → Type 0) (conf : Conf) (task : Task) (before after : Option (List ℕ)) (reads_before reads_after : ℕ) (status : Status) (place : ℕ) (reason : Reason)
    → IsCause may_refuse conf task before after reads_before reads_after status place reason → LeavesInput task status before after reads_before reads_after → status ≢ TooLong → HasTakenWithin before after LONGEST_INPUT
cause_within may_refuse conf task before after reads_before reads_after Done place reason c unread other = absurd c
cause_within may_refuse conf task before after reads_before reads_after Usage place reason c unread other = absurd c
cause_within may_refuse conf task before after reads_before reads_after Script place reason c unread other = was_taken before after c.input c.read
cause_within may_refuse conf task before after reads_before reads_after ReadFault place reason c unread other = c.0
cause_within may_refuse conf task before after reads_before reads_after WriteFault place reason c unread other = absurd c
cause_within may_refuse conf task before after reads_before reads_after NoMemory place reason c unread other = c
cause_within may_refuse conf task before after reads_before reads_after TooLong place reason c unread other = absurd (other refl)
cause_within may_refuse conf task before after reads_before reads_after TooMany place reason c unread other = crowded_taken conf task before after TooMany reads_before reads_after c unread
cause_within may_refuse conf task before after reads_before reads_after Pattern place reason c unread other = was_taken before after c.input c.read
cause_within may_refuse conf task before after reads_before reads_after Differs place reason c unread other = absurd c
cause_within may_refuse conf task before after reads_before reads_after Bundle place reason c unread other = was_taken before after c.input c.read

-- a run that writes nothing ends by its cause
pub cause_ends : (may_refuse : Bool → List ℕ → Type 0) (s : Settings) (input : Sourced) (out : Sunk) (status : Status) (place : ℕ) (reason : Reason)
    → IsCause may_refuse s.conf s.task input.before input.after input.reads_before input.reads_after status place reason → IsUnwritten out → IsEnding may_refuse s input out status place reason
cause_ends may_refuse s input out Done place reason c same = absurd c
cause_ends may_refuse s input out Usage place reason c same = absurd c
cause_ends may_refuse s input out Script place reason c same = (c, same)
cause_ends may_refuse s input out ReadFault place reason c same = (c.1, same)
cause_ends may_refuse s input out WriteFault place reason c same = absurd c
cause_ends may_refuse s input out NoMemory place reason c same = same
cause_ends may_refuse s input out TooLong place reason c same = (c.0, c.1, same)
cause_ends may_refuse s input out TooMany place reason c same = (c, same)
cause_ends may_refuse s input out Pattern place reason c same = (c, same)
cause_ends may_refuse s input out Differs place reason c same = absurd c
cause_ends may_refuse s input out Bundle place reason c same = (c, same)

-- a cause that does not depend on the maker of regexes is one with any
refusable_for : (may_refuse : Bool → List ℕ → Type 0) (scripts : List (List Step)) → SomeRefusable refuses_none scripts → SomeRefusable may_refuse scripts
refusable_for may_refuse scripts r = record {
  script = r.script;
  among = r.among;
  has = record {
    step = r.has.step;
    pattern = r.has.pattern;
    there = r.has.there;
    has = r.has.has;
    refusable = ⊎_elim (λ none. inl none) (λ never. absurd never) r.has.refusable;
  };
}

pub cause_for : (may_refuse : Bool → List ℕ → Type 0) (conf : Conf) (task : Task) (before after : Option (List ℕ)) (reads_before reads_after : ℕ) (status : Status) (place : ℕ) (reason : Reason)
    → IsCause refuses_none conf task before after reads_before reads_after status place reason → IsCause may_refuse conf task before after reads_before reads_after status place reason
cause_for may_refuse conf task before after reads_before reads_after Done place reason c = c
cause_for may_refuse conf task before after reads_before reads_after Usage place reason c = c
cause_for may_refuse conf task before after reads_before reads_after Script place reason c = c
cause_for may_refuse conf task before after reads_before reads_after ReadFault place reason c = c
cause_for may_refuse conf task before after reads_before reads_after WriteFault place reason c = c
cause_for may_refuse conf task before after reads_before reads_after NoMemory place reason c = c
cause_for may_refuse conf task before after reads_before reads_after TooLong place reason c = c
cause_for may_refuse conf task before after reads_before reads_after TooMany place reason c = c
cause_for may_refuse conf task before after reads_before reads_after Pattern place reason c =
    record { input = c.input; scripts = c.scripts; read = c.read; spelled = c.spelled; few = c.few; refusable = refusable_for may_refuse c.scripts c.refusable }
cause_for may_refuse conf task before after reads_before reads_after Differs place reason c = c
cause_for may_refuse conf task before after reads_before reads_after Bundle place reason c = c

pub cause_in_for : (may_refuse : Bool → List ℕ → Type 0) (conf : Conf) (task : Task) (bytes : List ℕ) (ending : Ending) → IsCauseIn refuses_none conf task bytes ending → IsCauseIn may_refuse conf task bytes ending
cause_in_for may_refuse conf task bytes ending c before after reads_before reads_after read =
    cause_for may_refuse conf task before after reads_before reads_after ending.status ending.place ending.reason (c before after reads_before reads_after read)

-- ---- of the bytes that were read

module _ (may_refuse : Bool → List ℕ → Type 0) (conf : Conf) (task : Task) (bytes : List ℕ) where
  pub memory_cause : (ending : Ending) → ending.status ≡ NoMemory → IsCauseIn may_refuse conf task bytes ending
  memory_cause ending is before after reads_before reads_after read =
      subst (λ st. IsCause may_refuse conf task before after reads_before reads_after st ending.place ending.reason) (sym is) (was_taken before after bytes read)

  -- a fault of the scripts
  pub script_cause : (ahead : ℕ) (fault : ScriptFault) (ending : Ending) → ending ≡ ending_by Script ahead fault
      → ((place : ℕ) (reason : Reason) → fault ≡ faults.Bad place reason → SpellsNone task bytes × IsFirstInputFault task bytes (ahead + place) reason)
      → IsCauseIn may_refuse conf task bytes ending
  script_cause ahead (faults.Bad place reason) ending is known =
      subst (IsCauseIn may_refuse conf task bytes) (sym is)
      (λ before after reads_before reads_after read. record { input = bytes; read = read; nothing = (known place reason refl).0; first = (known place reason refl).1 })
  script_cause ahead faults.Memory ending is known =
      subst (IsCauseIn may_refuse conf task bytes) (sym is) (λ before after reads_before reads_after read. was_taken before after bytes read)

  -- a fault of the bundle
  pub bundle_cause : (ahead : ℕ) (fault : ScriptFault) (ending : Ending) → ending ≡ ending_by Bundle ahead fault
      → ((place : ℕ) (reason : Reason) → fault ≡ faults.Bad place reason → LacksBundle task bytes × IsFirstBundleFault task bytes (ahead + place) reason)
      → IsCauseIn may_refuse conf task bytes ending
  bundle_cause ahead (faults.Bad place reason) ending is known =
      subst (IsCauseIn may_refuse conf task bytes) (sym is)
      (λ before after reads_before reads_after read. record { input = bytes; read = read; nothing = (known place reason refl).0; first = (known place reason refl).1 })
  bundle_cause ahead faults.Memory ending is known =
      subst (IsCauseIn may_refuse conf task bytes) (sym is) (λ before after reads_before reads_after read. was_taken before after bytes read)

  -- too many scripts, or too many events of theirs
  pub crowded_cause : (scripts : List (List Step)) (ending : Ending) → ending.status ≡ TooMany → Spells task bytes scripts → AreTooMany (bundle_of task) conf scripts
      → ((before after : Option (List ℕ)) → IsCrowded conf task before after → IsCrowdedTask conf task before after)
      → IsCauseIn may_refuse conf task bytes ending
  crowded_cause scripts ending is are many so before after reads_before reads_after read =
      subst (λ st. IsCause may_refuse conf task before after reads_before reads_after st ending.place ending.reason) (sym is)
      (so before after (record { input = bytes; scripts = scripts; read = read; spelled = are; many = many }))

  -- scripts that were not all played, or judged by
  pub crew_cause : (fault : CrewFault) (scripts : List (List Step)) (ending : Ending) → ending.status ≡ status_for fault → Spells task bytes scripts
      → (fault ≡ crew.TooMany → AreTooMany (bundle_of task) conf scripts)
      → (fault ≡ crew.Pattern → AreFew (bundle_of task) conf scripts × SomeRefusable may_refuse scripts)
      → ((before after : Option (List ℕ)) → IsCrowded conf task before after → IsCrowdedTask conf task before after)
      → IsCauseIn may_refuse conf task bytes ending
  crew_cause crew.Memory scripts ending is are many pattern so = memory_cause ending is
  crew_cause crew.TooMany scripts ending is are many pattern so = crowded_cause scripts ending is are (many refl) so
  crew_cause crew.Pattern scripts ending is are many pattern so = λ before after reads_before reads_after read.
      let p = pattern refl in
      subst (λ st. IsCause may_refuse conf task before after reads_before reads_after st ending.place ending.reason) (sym is)
      (record { input = bytes; scripts = scripts; read = read; spelled = are; few = p.0; refusable = p.1 })

pub many_of : (bundle : Option ℕ) (conf : Conf) (scripts : List (List Step)) → most_events < all_events conf.slots scripts → AreTooMany bundle conf scripts
many_of None conf scripts many = many
many_of (Some len) conf scripts many = inl many

pub few_of : (bundle : Option ℕ) (conf : Conf) (scripts : List (List Step)) → all_events conf.slots scripts ≤ most_events → length scripts ≤ 64 → AreFew bundle conf scripts
few_of None conf scripts few most = few
few_of (Some len) conf scripts few most = (few, most)

-- a generated run that came to no answer
pub seed_cause : {A : Type 0} (may_refuse : Bool → List ℕ → Type 0) (conf : Conf) (task : Task) (seed crew each : ℕ) (left : Option (List ℕ)) (reads : ℕ) (r : Result A Ending) → task ≡ Generate seed crew each
    → IfErr r (λ e. e.status ≡ TooMany → most_events < generated_events crew each) → IfErr r (λ e. (e.status ≡ TooMany) ⊎ (e.status ≡ NoMemory))
    → IfErr r (λ e. IsCause may_refuse conf task left left reads reads e.status e.place e.reason)
seed_cause may_refuse conf task seed crew each left reads (Ok x) is many others = tt
seed_cause may_refuse conf task seed crew each left reads (Err e) is many others =
    ⊎_elim
    (λ m. subst (λ st. IsCause may_refuse conf task left left reads reads st e.place e.reason) (sym m) (subst (λ t. IsCrowdedTask conf t left left) (sym is) (many m)))
    (λ n. subst (λ st. IsCause may_refuse conf task left left reads reads st e.place e.reason) (sym n) (none_taken left LONGEST_INPUT))
    others

-- a fault of scripts without a bundle
pub alone_cause : (conf : Conf) (bundle : Option ℕ) (map : Bool) (bytes : List ℕ) (fault : ScriptFault) (ending : Ending) → bundle ≡ None → ending ≡ ending_by Script 0 fault
    → ReadsScripts bytes (Err fault) → ((scripts : List (List Step)) → AreScripts bytes scripts → fault ≡ faults.Memory)
    → IsCauseIn refuses_none conf (Play bundle map) bytes ending
alone_cause conf bundle map bytes fault ending none is read only =
    subst (λ b. IsCauseIn refuses_none conf (Play b map) bytes ending) (sym none)
    (script_cause refuses_none conf (Play None map) bytes 0 fault ending is (whole_fault map bytes fault read only))
