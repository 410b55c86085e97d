-- What both answers of a probe leave.
use Rattle.std.proofs.Common.{◌≡◌, inl, inr, ℕ, Bool, true, false, not, refl, sym, ap, ◌∙◌, subst}
use Rattle.std.proofs.lemmas.Bool.{or_left, or_right, or_cases, eqb-true, eq-eqb}
use Rattle.std.specs.Prelude.{◌==◌}
use Rattle.seg_words.specs.Windows.{Aside, has, is_named, held_blocks, Frees, Refuses}
use Rattle.seg_words.specs.Probing.{Met}
use Rattle.seg_words.proofs.HeldBlocks.{named_closed, held_freed, held_refused}

met_free : (old new : Aside) (at : ℕ) → Frees old new at → Met old new at
met_free old new at frees =
    let same = held_freed old new at frees in
    record {
      goes = record {
        closes = λ b n. named_closed at b old.windows (subst (λ ws. is_named ws b ≡ true) frees.windows n);
        holds = λ b h. ap (has b) same ∙ h;
      };
      decided = frees.unnamed ∙ sym (ap (has at) same ∙ frees.not_held);
      refused = λ b r. inr (subst (λ l. has b l ≡ true) frees.refused r);
    }

refused_held : (old new : Aside) (at : ℕ) → Refuses old new at → has at (held_blocks new) ≡ true
refused_held old new at refuses = held_refused old new at at refuses ∙ or_left (at == at) (has at (held_blocks old)) (eq-eqb at at refl)

met_held : (old new : Aside) (at : ℕ) → Refuses old new at → Met old new at
met_held old new at refuses =
    let here = refused_held old new at refuses in
    record {
      goes = record {
        closes = λ b n. subst (λ ws. is_named ws b ≡ true) refuses.windows n;
        holds = λ b h. held_refused old new at b refuses ∙ or_right (b == at) (has b (held_blocks old)) h;
      };
      decided = (ap (λ ws. is_named ws at) refuses.windows ∙ refuses.named) ∙ sym here;
      refused = λ b r. elim (or_cases (b == at) (has b old.refused) (subst (λ l. has b l ≡ true) refuses.refused r)) [
        | inl same ↦ inl (eqb-true b at same, here)
        | inr before ↦ inr before
      ];
    }

pub met_both : (old new : Aside) (at : ℕ) (free : Bool) → (free ≡ true → Frees old new at) → (free ≡ false → Refuses old new at) → Met old new at
met_both old new at true frees refuses = met_free old new at (frees refl)
met_both old new at false frees refuses = met_held old new at (refuses refl)

pub answer_both : (old new : Aside) (at : ℕ) (free : Bool) → (free ≡ true → Frees old new at) → (free ≡ false → Refuses old new at) → free ≡ not (has at (held_blocks new))
answer_both old new at true frees refuses = sym (ap not (ap (has at) (held_freed old new at (frees refl)) ∙ (frees refl).not_held))
answer_both old new at false frees refuses = sym (ap not (refused_held old new at (refuses refl)))
