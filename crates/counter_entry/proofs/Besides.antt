-- What is kept besides the words if no block is probed.
use Rattle.std.proofs.Common.{◌≡◌, Option, Some, None, refl, ◌∙◌}
use Rattle.std.specs.Prelude.{IfSome, IfNone}
use Rattle.seg_words.specs.declared.segment.WordsIn.{Ghosts}
use Rattle.seg_words.specs.Kept.{Kept, KeptBeside}
use Rattle.apcu_model.specs.declared.request.StoreAnswer.{StoreAnswer}
use Rattle.counter_entry.specs.declared.answer.Fate.TheVariants.{Found}
use Rattle.counter_entry.specs.Generating.{fate_of}

pub if_none : {A : Type 0} (P : Type 0) (o : Option A) → o ≡ None → IfSome o (λ _. P)
if_none P None h = tt
if_none P (Some a) h = absurd (cc h)

pub if_some : {A : Type 0} {P : Type 0} (o : Option A) → P → IfSome o (λ _. P)
if_some None p = tt
if_some (Some a) p = p

pub beside_kept : {X R : Type 0} {g : Ghosts X R} {old new : X} → Kept g old new → KeptBeside g old new
beside_kept kept = record { aside = kept.aside; rest = kept.rest }

-- one after the other
pub both_beside : {X R : Type 0} {g : Ghosts X R} {old middle new : X} → KeptBeside g old middle → KeptBeside g middle new → KeptBeside g old new
both_beside one then = record { aside = then.aside ∙ one.aside; rest = then.rest ∙ one.rest }

pub none_kept : {A : Type 0} {P : Type 0} (o : Option A) → o ≡ None → IfNone o P → P
none_kept None h p = p
none_kept (Some a) h p = absurd (cc h)

-- a value that was found was not stored
pub found_none : (o : Option StoreAnswer) → fate_of o ≡ Found → o ≡ None
found_none None h = refl
found_none (Some answer) h = absurd (cc h)
