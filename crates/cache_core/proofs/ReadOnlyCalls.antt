-- Words that stand for entries still do so after a call that only reads.
use Rattle.std.proofs.Common.{sym, subst}
use Rattle.seg_words.specs.Windows.{Aside}
use Rattle.seg_words.specs.Kept.{Kept}
use Rattle.seg_words.specs.declared.segment.WordsIn.{Ghosts}
use Rattle.entry_slots.specs.declared.slots.EntrySlots.{EntrySlots}
use Rattle.entry_slots.specs.Standing.{Stands, Stand, entries}

pub stand_kept : {X R : Type 0} {gh : Ghosts X R} {old new : X} (e : EntrySlots) → Kept gh old new → Stand gh e old → Stand gh e new
stand_kept {gh = gh} {old} {new} e kept st =
    subst (λ ws. Stands e ws (gh.aside new) (entries e)) (sym kept.words) (subst (λ (a : Aside). Stands e (gh.words old) a (entries e)) (sym kept.aside) st)
