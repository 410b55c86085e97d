-- What a run that reads its input must come to: what was read of a source that tells.
use Rattle.std.proofs.Common.{◌≡◌, ◌≢◌, ◌<◌, ◌≤◌, ℕ, List, ◌++◌, length, Option, Some, None, inl, inr, refl, sym, ap, subst, arith, ◌∙◌}
use Rattle.std.specs.Prelude.{Bool, IfSome}
use Rattle.std.proofs.lemmas.List.{append-nil}
use Rattle.std.specs.Io.KnownBytes.{prepend_known, IsAtEnd}
use Rattle.io_edges.specs.Faults.{Rose}
use Rattle.apcu_model.specs.declared.conf.Conf.{Conf}
use Rattle.apcu_model.specs.declared.limits.TheConstants.{LONGEST_INPUT}
use Rattle.conf_read.specs.declared.task.Task.{Task}
use Rattle.conf_read.specs.declared.task.Task.TheVariants.{Play, Generate, Verify}
use Rattle.script_read.specs.declared.script.Step.{Step}
use Rattle.script_read.specs.Ties.{ScriptsAreOne}
use Rattle.script_read.specs.Patterns.{SomeRefusable}
use Rattle.preload_set.specs.Ties.{BundlesAreOne}
use Rattle.apcu_play.specs.declared.status.Status.{Status}
use Rattle.apcu_play.specs.declared.status.Status.TheVariants.{Done, Usage, Script, ReadFault, WriteFault, NoMemory, TooLong, TooMany, Pattern, Differs, Bundle}
use Rattle.apcu_play.specs.Inputs.{AreTooMany, AreFew, Spells, SpellsNone, LacksBundle, bundle_of}
use Rattle.apcu_play.specs.Tasks.{WasRead, IsRefused, IsUnloaded, IsCrowded, IsUnsearchable}
use Rattle.apcu_play.specs.Run.{IsUnlessMemory, IsWrittenWhole, CompletesInput}
use Rattle.apcu_play.proofs.SpelledInputs.{one_spelled, none_spelled, loaded_spelled, loaded_none, few_many}

all_read : (left input : List ℕ) (after : Option (List ℕ)) → Some left ≡ prepend_known input after → IsAtEnd after → left ≡ input
all_read left input None taken end = absurd cc
all_read left input (Some rest) taken end =
    let e : left ≡ input ++ rest = cc in
    e ∙ (ap (λ (r : List ℕ). input ++ r) end ∙ append-nil input)

-- it is all that was left
pub was_read : (left input : List ℕ) (before after : Option (List ℕ)) → before ≡ Some left → WasRead before after input → left ≡ input
was_read left input before after told read = all_read left input after (sym told ∙ read.taken) read.whole

longer_is : (left : List ℕ) (before : Option (List ℕ)) → before ≡ Some left → IfSome before (λ l. LONGEST_INPUT < length l) → LONGEST_INPUT < length left
longer_is left before told longer = subst (λ (o : Option (List ℕ)). IfSome o (λ l. LONGEST_INPUT < length l)) told longer

-- an answer that was written whole, and none for want of memory
answered_done : (task : Task) → IsWrittenWhole task Done
answered_done (Play bundle map) = inl refl
answered_done (Generate seed crew each) = inl refl
answered_done (Verify len) = inr (inl refl)

answered_memory : (task : Task) → IsWrittenWhole task NoMemory
answered_memory (Play bundle map) = inr refl
answered_memory (Generate seed crew each) = inr refl
answered_memory (Verify len) = inr (inr refl)

-- the input was read, and spells scripts of which this is known
pub record Spelled (task : Task) (before after : Option (List ℕ)) (P : List (List Step) → Type 0) : Type 0 where
  pub input : List ℕ
  pub scripts : List (List Step)
  pub read : WasRead before after input
  pub spelled : Spells task input scripts
  pub has : P scripts

module _ (one : ScriptsAreOne) (bundles : BundlesAreOne) (may_refuse : Bool → List ℕ → Type 0) (conf : Conf) (task : Task) (before after : Option (List ℕ)) (reads_before reads_after writes_before writes_after : ℕ) where
  -- what is known of how a run ended
  pub record Ended (status : Status) : Type 0 where
    pub done : status ≡ Done → Spelled task before after (AreFew (bundle_of task) conf)
    pub differs : status ≡ Differs → Spelled task before after (AreFew (bundle_of task) conf) × IsWrittenWhole task Differs
    pub cut : status ≡ WriteFault → Spelled task before after (AreFew (bundle_of task) conf)
    pub usage : status ≢ Usage
    pub script : status ≡ Script → IsRefused task before after
    pub bundle : status ≡ Bundle → IsUnloaded task before after
    pub too_many : status ≡ TooMany → IsCrowded conf task before after
    pub pattern : status ≡ Pattern → IsUnsearchable may_refuse conf task before after
    pub longer : status ≡ TooLong → IfSome before (λ left. LONGEST_INPUT < length left)
    pub read_fault : status ≡ ReadFault → Rose reads_before reads_after
    pub write_fault : status ≡ WriteFault → Rose writes_before writes_after

  -- what was known of the scripts that were read is known of those that the input spells
  of_them : (P : List (List Step) → Type 0) (input : List ℕ) (scripts : List (List Step)) → before ≡ Some input → Spells task input scripts → Spelled task before after P → P scripts
  of_them P input scripts told are s =
      let same = was_read input s.input before after told s.read in
      let other = one_spelled one bundles task input s.scripts scripts (subst (λ (i : List ℕ). Spells task i s.scripts) (sym same) s.spelled) are in
      subst P other s.has

  -- it is short, and it spells some
  some_of : (P : List (List Step) → Type 0) (input : List ℕ) → before ≡ Some input → Spelled task before after P → (length input ≤ LONGEST_INPUT) × ((scripts : List (List Step)) × Spells task input scripts)
  some_of P input told s =
      let same = was_read input s.input before after told s.read in
      (subst (λ (i : List ℕ). length i ≤ LONGEST_INPUT) (sym same) s.read.short, (s.scripts, subst (λ (i : List ℕ). Spells task i s.scripts) (sym same) s.spelled))

  of_crowded : IsCrowded conf task before after → Spelled task before after (AreTooMany (bundle_of task) conf)
  of_crowded c = record { input = c.input; scripts = c.scripts; read = c.read; spelled = c.spelled; has = c.many }

  abbrev FewRefusable : List (List Step) → Type 0
  FewRefusable scripts = AreFew (bundle_of task) conf scripts × SomeRefusable may_refuse scripts

  of_unsearchable : IsUnsearchable may_refuse conf task before after → Spelled task before after FewRefusable
  of_unsearchable u = record { input = u.input; scripts = u.scripts; read = u.read; spelled = u.spelled; has = (u.few, u.refusable) }

  refused_is : (input : List ℕ) → before ≡ Some input → IsRefused task before after → (length input ≤ LONGEST_INPUT) × SpellsNone task input
  refused_is input told r =
      let same = was_read input r.at.input before after told r.at.read in
      (subst (λ (i : List ℕ). length i ≤ LONGEST_INPUT) (sym same) r.at.read.short, subst (SpellsNone task) (sym same) r.at.nothing)

  unloaded_is : (input : List ℕ) → before ≡ Some input → IsUnloaded task before after → (length input ≤ LONGEST_INPUT) × LacksBundle task input
  unloaded_is input told r =
      let same = was_read input r.at.input before after told r.at.read in
      (subst (λ (i : List ℕ). length i ≤ LONGEST_INPUT) (sym same) r.at.read.short, subst (LacksBundle task) (sym same) r.at.nothing)

  done_by : (status : Status) → Ended status → (input : List ℕ) (scripts : List (List Step)) → before ≡ Some input → length input ≤ LONGEST_INPUT → Spells task input scripts
      → AreFew (bundle_of task) conf scripts → ¬ SomeRefusable may_refuse scripts → ¬ Rose reads_before reads_after → ¬ Rose writes_before writes_after → IsWrittenWhole task status
  done_by Done e input scripts told short are few plain no_read no_write = answered_done task
  done_by Usage e input scripts told short are few plain no_read no_write = absurd (e.usage refl)
  done_by Script e input scripts told short are few plain no_read no_write = absurd (none_spelled task input scripts are (refused_is input told (e.script refl)).1)
  done_by ReadFault e input scripts told short are few plain no_read no_write = absurd (no_read (e.read_fault refl))
  done_by WriteFault e input scripts told short are few plain no_read no_write = absurd (no_write (e.write_fault refl))
  done_by NoMemory e input scripts told short are few plain no_read no_write = answered_memory task
  done_by TooLong e input scripts told short are few plain no_read no_write = let more = longer_is input before told (e.longer refl) in absurd (omega arith)
  done_by TooMany e input scripts told short are few plain no_read no_write = absurd (few_many (bundle_of task) conf scripts few (of_them (AreTooMany (bundle_of task) conf) input scripts told are (of_crowded (e.too_many refl))))
  done_by Pattern e input scripts told short are few plain no_read no_write = absurd (plain (of_them FewRefusable input scripts told are (of_unsearchable (e.pattern refl))).1)
  done_by Differs e input scripts told short are few plain no_read no_write = (e.differs refl).1
  done_by Bundle e input scripts told short are few plain no_read no_write = absurd (loaded_spelled task input scripts are (unloaded_is input told (e.bundle refl)).1)

  too_many_by : (status : Status) → Ended status → (input : List ℕ) (scripts : List (List Step)) → before ≡ Some input → length input ≤ LONGEST_INPUT → Spells task input scripts
      → AreTooMany (bundle_of task) conf scripts → ¬ Rose reads_before reads_after → IsUnlessMemory TooMany status
  too_many_by Done e input scripts told short are many no_read = absurd (few_many (bundle_of task) conf scripts (of_them (AreFew (bundle_of task) conf) input scripts told are (e.done refl)) many)
  too_many_by Usage e input scripts told short are many no_read = absurd (e.usage refl)
  too_many_by Script e input scripts told short are many no_read = absurd (none_spelled task input scripts are (refused_is input told (e.script refl)).1)
  too_many_by ReadFault e input scripts told short are many no_read = absurd (no_read (e.read_fault refl))
  too_many_by WriteFault e input scripts told short are many no_read = absurd (few_many (bundle_of task) conf scripts (of_them (AreFew (bundle_of task) conf) input scripts told are (e.cut refl)) many)
  too_many_by NoMemory e input scripts told short are many no_read = inr refl
  too_many_by TooLong e input scripts told short are many no_read = let more = longer_is input before told (e.longer refl) in absurd (omega arith)
  too_many_by TooMany e input scripts told short are many no_read = inl refl
  too_many_by Pattern e input scripts told short are many no_read = absurd (few_many (bundle_of task) conf scripts (of_them FewRefusable input scripts told are (of_unsearchable (e.pattern refl))).0 many)
  too_many_by Differs e input scripts told short are many no_read = absurd (few_many (bundle_of task) conf scripts (of_them (AreFew (bundle_of task) conf) input scripts told are (e.differs refl).0) many)
  too_many_by Bundle e input scripts told short are many no_read = absurd (loaded_spelled task input scripts are (unloaded_is input told (e.bundle refl)).1)

  refused_by : (status : Status) → Ended status → (input : List ℕ) → before ≡ Some input → length input ≤ LONGEST_INPUT → SpellsNone task input → ¬ Rose reads_before reads_after → IsUnlessMemory Script status
  refused_by Done e input told short none no_read = let s = some_of (AreFew (bundle_of task) conf) input told (e.done refl) in absurd (none_spelled task input s.1.0 s.1.1 none)
  refused_by Usage e input told short none no_read = absurd (e.usage refl)
  refused_by Script e input told short none no_read = inl refl
  refused_by ReadFault e input told short none no_read = absurd (no_read (e.read_fault refl))
  refused_by WriteFault e input told short none no_read = let s = some_of (AreFew (bundle_of task) conf) input told (e.cut refl) in absurd (none_spelled task input s.1.0 s.1.1 none)
  refused_by NoMemory e input told short none no_read = inr refl
  refused_by TooLong e input told short none no_read = let more = longer_is input before told (e.longer refl) in absurd (omega arith)
  refused_by TooMany e input told short none no_read = let s = some_of (AreTooMany (bundle_of task) conf) input told (of_crowded (e.too_many refl)) in absurd (none_spelled task input s.1.0 s.1.1 none)
  refused_by Pattern e input told short none no_read = let s = some_of (FewRefusable) input told (of_unsearchable (e.pattern refl)) in absurd (none_spelled task input s.1.0 s.1.1 none)
  refused_by Differs e input told short none no_read = let s = some_of (AreFew (bundle_of task) conf) input told (e.differs refl).0 in absurd (none_spelled task input s.1.0 s.1.1 none)
  refused_by Bundle e input told short none no_read = absurd (loaded_none task input none (unloaded_is input told (e.bundle refl)).1)

  unloaded_by : (status : Status) → Ended status → (input : List ℕ) → before ≡ Some input → length input ≤ LONGEST_INPUT → LacksBundle task input → ¬ Rose reads_before reads_after → IsUnlessMemory Bundle status
  unloaded_by Done e input told short none no_read = let s = some_of (AreFew (bundle_of task) conf) input told (e.done refl) in absurd (loaded_spelled task input s.1.0 s.1.1 none)
  unloaded_by Usage e input told short none no_read = absurd (e.usage refl)
  unloaded_by Script e input told short none no_read = absurd (loaded_none task input (refused_is input told (e.script refl)).1 none)
  unloaded_by ReadFault e input told short none no_read = absurd (no_read (e.read_fault refl))
  unloaded_by WriteFault e input told short none no_read = let s = some_of (AreFew (bundle_of task) conf) input told (e.cut refl) in absurd (loaded_spelled task input s.1.0 s.1.1 none)
  unloaded_by NoMemory e input told short none no_read = inr refl
  unloaded_by TooLong e input told short none no_read = let more = longer_is input before told (e.longer refl) in absurd (omega arith)
  unloaded_by TooMany e input told short none no_read = let s = some_of (AreTooMany (bundle_of task) conf) input told (of_crowded (e.too_many refl)) in absurd (loaded_spelled task input s.1.0 s.1.1 none)
  unloaded_by Pattern e input told short none no_read = let s = some_of (FewRefusable) input told (of_unsearchable (e.pattern refl)) in absurd (loaded_spelled task input s.1.0 s.1.1 none)
  unloaded_by Differs e input told short none no_read = let s = some_of (AreFew (bundle_of task) conf) input told (e.differs refl).0 in absurd (loaded_spelled task input s.1.0 s.1.1 none)
  unloaded_by Bundle e input told short none no_read = inl refl

  too_long_by : (status : Status) → Ended status → (input : List ℕ) → before ≡ Some input → LONGEST_INPUT < length input → ¬ Rose reads_before reads_after → IsUnlessMemory TooLong status
  too_long_by Done e input told long no_read = let s = (some_of (AreFew (bundle_of task) conf) input told (e.done refl)).0 in absurd (omega arith)
  too_long_by Usage e input told long no_read = absurd (e.usage refl)
  too_long_by Script e input told long no_read = let s = (refused_is input told (e.script refl)).0 in absurd (omega arith)
  too_long_by ReadFault e input told long no_read = absurd (no_read (e.read_fault refl))
  too_long_by WriteFault e input told long no_read = let s = (some_of (AreFew (bundle_of task) conf) input told (e.cut refl)).0 in absurd (omega arith)
  too_long_by NoMemory e input told long no_read = inr refl
  too_long_by TooLong e input told long no_read = inl refl
  too_long_by TooMany e input told long no_read = let s = (some_of (AreTooMany (bundle_of task) conf) input told (of_crowded (e.too_many refl))).0 in absurd (omega arith)
  too_long_by Pattern e input told long no_read = let s = (some_of FewRefusable input told (of_unsearchable (e.pattern refl))).0 in absurd (omega arith)
  too_long_by Differs e input told long no_read = let s = (some_of (AreFew (bundle_of task) conf) input told (e.differs refl).0).0 in absurd (omega arith)
  too_long_by Bundle e input told long no_read = let s = (unloaded_is input told (e.bundle refl)).0 in absurd (omega arith)

  -- and so what it must come to
  pub completes : (status : Status) → Ended status → CompletesInput may_refuse conf task status before reads_before reads_after writes_before writes_after
  completes status e = record { done = done_by status e; too_many = too_many_by status e; refused = refused_by status e; unloaded = unloaded_by status e; too_long = too_long_by status e }
