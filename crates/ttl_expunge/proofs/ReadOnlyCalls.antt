-- What stands after a call that only reads.
use Rattle.std.proofs.Common.{◌≡◌, inl, inr, ℕ, ◌==◌, sym, ◌∙◌, subst}
use Rattle.std.proofs.lemmas.Bool.{eqb-true, eq-eqb, cases_Bool, false≢true, false_from_ne_true}
use Rattle.seg_words.specs.Windows.{Aside}
use Rattle.seg_words.specs.declared.segment.WordsIn.{Ghosts}
use Rattle.seg_words.specs.Kept.{Kept}
use Rattle.entry_slots.specs.declared.slots.EntrySlots.{EntrySlots}
use Rattle.entry_slots.specs.Standing.{Stands, Stand, entries}

pub flip : (a b : ℕ) → (a == b) ≡ (b == a)
flip a b = elim (cases_Bool (a == b)) [
  | inl t ↦ t ∙ sym (eq-eqb b a (sym (eqb-true a b t)))
  | inr f ↦ f ∙ sym (false_from_ne_true (b == a) (λ t. false≢true (sym f ∙ eq-eqb a b (sym (eqb-true b a t)))))
]

-- what stands does so after a call that only reads
pub stand_kept : {X R : Type 0} {gh : Ghosts X R} {old new : X} (e : EntrySlots) → Kept gh old new → Stand gh e old → Stand gh e new
stand_kept {gh = gh} {old} {new} e kept st =
    subst (λ ws. Stands e ws (gh.aside new) (entries e)) (sym kept.words) (subst (λ (a : Aside). Stands e (gh.words old) a (entries e)) (sym kept.aside) st)
