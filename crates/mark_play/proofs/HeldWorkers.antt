-- One worker after the other is held for.
use Rattle.std.proofs.Common.{◌≡◌, ◌≢◌, inl, inr, ℕ, zero, suc, [], ◌∷◌, ◌+◌, ◌<◌, ◌/◌, ◌^◌, List, Option, None, length, get_or, bit_and, refl, ap, sym, ◌∙◌, subst, arith, get_or-set_same, get_or-set_other}
use Rattle.std.specs.Prelude.{slice_index, slice_index_or, slice_set}
use Rattle.std.specs.Int.{bit_at}
use Rattle.std.proofs.lemmas.Nat.Bits.{shr_and_one}
use Rattle.std.proofs.lemmas.Bool.{cases_eq}
use Rattle.apcu_model.specs.Cache.{Row}
use Rattle.mark_play.specs.declared.answering.Window.{Window}
use Rattle.mark_play.specs.HeldPlaces.{IsHeldFor}

abbrev pub HoldsBelow : List Row → List (Option Window) → ℕ → ℕ → List ℕ → Type 0
HoldsBelow rows windows mask n held = (v : ℕ) → v < n → bit_at mask v ≡ 1 → IsHeldFor rows (slice_index_or windows v None) (slice_index held v)

-- of the next worker that is met
pub held_next : (rows : List Row) (windows : List (Option Window)) (mask n at : ℕ) (held : List ℕ) → n < length held → IsHeldFor rows (slice_index_or windows n None) at
    → HoldsBelow rows windows mask n held → HoldsBelow rows windows mask (n + 1) (slice_set held n at)
held_next rows windows mask n at held low here below v less bit = elim (cases_eq v n) [
  | inl e ↦ subst (λ k. IsHeldFor rows (slice_index_or windows k None) (slice_index (slice_set held n at) k)) (sym e)
      (subst (IsHeldFor rows (slice_index_or windows n None)) (sym (get_or-set_same held n at 0 low)) here)
  | inr ne ↦ subst (IsHeldFor rows (slice_index_or windows v None)) (sym (get_or-set_other held n v at 0 ne)) (below v (omega (arith, less, ne)) bit)
]

-- and of one that is not
pub held_skip : (rows : List Row) (windows : List (Option Window)) (mask n : ℕ) (held : List ℕ) → bit_and (mask / 2 ^ n) 1 ≢ 1
    → HoldsBelow rows windows mask n held → HoldsBelow rows windows mask (n + 1) held
held_skip rows windows mask n held not_met below v less bit = elim (cases_eq v n) [
  | inl e ↦ absurd (not_met (shr_and_one mask n ∙ (ap (bit_at mask) (sym e) ∙ bit)))
  | inr ne ↦ below v (omega (arith, less, ne)) bit
]

pub same_default : {A : Type 0} (l : List A) (i : ℕ) (d e : A) → i < length l → get_or l i d ≡ get_or l i e
same_default [] i d e low = absurd (omega (arith, low))
same_default (x ∷ xs) zero d e low = refl
same_default (x ∷ xs) (suc i) d e low = same_default xs i d e (omega (arith, low))
