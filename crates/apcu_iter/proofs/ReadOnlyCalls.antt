-- What stands, and what stays, after calls that only read.
use Rattle.std.proofs.Common.{◌∙◌, List, ℕ, sym, subst}
use Rattle.seg_words.specs.declared.segment.WordsIn.{Ghosts}
use Rattle.seg_words.specs.Kept.{Kept}
use Rattle.seg_words.specs.Windows.{Aside}
use Rattle.entry_slots.specs.declared.slots.EntrySlots.{EntrySlots}
use Rattle.entry_slots.specs.Standing.{Stand, Stands, entries}

pub stand_kept : {X R : Type 0} {gh : Ghosts X R} {old new : X} (e : EntrySlots) → Kept gh old new
    → Stand gh e old → Stand gh e new
stand_kept {gh = gh} {old} {new} e kept stand =
    subst (λ (words : List ℕ). Stands e words (gh.aside new) (entries e)) (sym kept.words)
    (subst (λ (aside : Aside). Stands e (gh.words old) aside (entries e)) (sym kept.aside) stand)

-- one call after the other
pub kept_on : {X R : Type 0} {gh : Ghosts X R} {old mid new : X} → Kept gh mid new → Kept gh old mid
    → Kept gh old new
kept_on then one = record {
  words = then.words ∙ one.words;
  aside = then.aside ∙ one.aside;
  rest = then.rest ∙ one.rest;
}
