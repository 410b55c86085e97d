-- Masks that are legal by the windows that are kept besides the words.
use Rattle.std.proofs.Common.{◌≡◌, ℕ, zero, suc, ◌+◌, inl, inr, ◌^◌, ◌<◌, ◌≤◌, ◌==◌, ◌&&◌, ◌||◌, Bool, true, false, not, List, Option, Some, None, refl, ap, sym, ◌∙◌, arith}
use Rattle.std.specs.Prelude.{nat_lt, is_some, slice_index_or}
use Rattle.std.specs.List.{list_all, range_with_len}
use Rattle.std.proofs.lemmas.Bool.{and_from, lt-ltb, cases_eq}
use Rattle.apcu_model.specs.History.{Stage, is_in_mask, is_legal_mask, window_of}
use Rattle.mark_play.specs.declared.answering.Window.{Window}
use Rattle.mark_play.specs.Legal.{may_meet, is_legal_by}
use Rattle.mark_play.specs.ReplayStages.{window_number}

pub all_pass : (p : ℕ → Bool) (a n : ℕ) → ((k : ℕ) → a ≤ k → k < a + n → p k ≡ true) → list_all p (range_with_len a n) ≡ true
all_pass p a zero h = refl
all_pass p a (suc n) h = and_from (p a) (list_all p (range_with_len (a + 1) n)) (h a (omega arith) (omega arith)) (all_pass p (a + 1) n (λ k low less. h k (omega (arith, low)) (omega (arith, less))))

and_no : (a b : Bool) → b ≡ false → (a && b) ≡ false
and_no true b r = r
and_no false b r = refl

pub one_fails : (p : ℕ → Bool) (a n k : ℕ) → a ≤ k → k < a + n → p k ≡ false → list_all p (range_with_len a n) ≡ false
one_fails p a zero k low less h = absurd (omega (arith, low, less))
one_fails p a (suc n) k low less h = elim (cases_eq a k) [
  | inl e ↦ ap (λ b. b && list_all p (range_with_len (a + 1) n)) (ap p e ∙ h)
  | inr ne ↦ and_no (p a) (list_all p (range_with_len (a + 1) n)) (one_fails p (a + 1) n k (omega (arith, low, ne)) (omega (arith, less)) h)
]

pub alike_all : (p q : ℕ → Bool) (a n : ℕ) → ((k : ℕ) → a ≤ k → k < a + n → p k ≡ q k) → list_all p (range_with_len a n) ≡ list_all q (range_with_len a n)
alike_all p q a zero h = refl
alike_all p q a (suc n) h =
    ap (λ b. b && list_all p (range_with_len (a + 1) n)) (h a (omega arith) (omega arith))
    ∙ ap (λ b. q a && b) (alike_all p q (a + 1) n (λ k low less. h k (omega (arith, low)) (omega (arith, less))))

same_some : (o : Option Window) → is_some o ≡ is_some (window_number o)
same_some None = refl
same_some (Some w) = refl

-- the windows that are kept besides the words are those of the history
pub legal_alike : (m : Stage) (windows : List (Option Window)) (workers worker mask : ℕ) → mask < 2 ^ 64 → ((v : ℕ) → v < 64 → window_number (slice_index_or windows v None) ≡ window_of m v)
    → is_legal_by windows workers worker mask ≡ is_legal_mask workers worker m mask
legal_alike m windows workers worker mask small numbers =
    alike_all (λ v. may_meet workers worker mask v (slice_index_or windows v None)) (λ v. not (is_in_mask mask v) || (not (v == worker) && nat_lt v workers && is_some (window_of m v))) 0 64 (λ k low less.
    ap (λ b. not (is_in_mask mask k) || (not (k == worker) && nat_lt k workers && b)) (same_some (slice_index_or windows k None) ∙ ap is_some (numbers k (omega (arith, less)))))
    ∙ sym (ap (λ b. b && list_all (λ v. not (is_in_mask mask v) || (not (v == worker) && nat_lt v workers && is_some (window_of m v))) (range_with_len 0 64)) (lt-ltb mask (2 ^ 64) small))
