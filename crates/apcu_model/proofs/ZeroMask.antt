-- What holds if no worker copies a value meanwhile: under the mask 0, and so for the only worker.
use Rattle.std.proofs.Common.{◌≡◌, ℕ, ◌<◌, ◌^◌, Bool, true, false, not, ◌&&◌, ◌||◌, ◌==◌, nat_lt, cond, List, [], ◌∷◌, ◌++◌, get_or, map, filter, refl, sym, ap, ◌∙◌, subst, inl, inr, arith}
use Rattle.std.specs.Int.{bit_at}
use Rattle.std.specs.List.{list_any, list_all, range_with_len}
use Rattle.std.specs.Prelude.{is_some}
use Rattle.std.proofs.lemmas.Bool.{and_parts, or_cases, not-true, ltb-true, eqb-false}
use Rattle.std.proofs.lemmas.List.FromFn.{get_or-range_with_len, length-range_with_len}
use Rattle.std.proofs.lemmas.List.Recursion.{and_at}
use Rattle.std.proofs.lemmas.Nat.Bits.{bit_at-zero, bit_at-lt, same_from_bits_below}
use Rattle.apcu_model.specs.Cache.{Row}
use Rattle.apcu_model.specs.History.{Stage, window_of, is_in_mask, is_copied, held_places, is_legal_mask}

-- the mask 0 names no worker
pub none_in_mask : (worker : ℕ) → is_in_mask 0 worker ≡ false
none_in_mask worker = ap (λ b. b == 1) (bit_at-zero worker)

none_copies : (number : ℕ) (windows : List (ℕ × ℕ)) → list_any (λ w. is_in_mask 0 w.0 && w.1 == number) windows ≡ false
none_copies number [] = refl
none_copies number (w ∷ windows) =
    ap (λ b. (b && w.1 == number) || list_any (λ v. is_in_mask 0 v.0 && v.1 == number) windows) (none_in_mask w.0) ∙ none_copies number windows

none_kept : (p : Row → Bool) → ((row : Row) → p row ≡ false) → (rows : List Row) → filter p rows ≡ []
none_kept p fails [] = refl
none_kept p fails (row ∷ rows) = ap (λ b. cond b (row ∷ filter p rows) (filter p rows)) (fails row) ∙ none_kept p fails rows

all_pass : (p : ℕ → Bool) → ((n : ℕ) → p n ≡ true) → (ns : List ℕ) → list_all p ns ≡ true
all_pass p passes [] = refl
all_pass p passes (n ∷ ns) = ap (λ b. b && list_all p ns) (passes n) ∙ all_pass p passes ns

-- under the mask 0 no block is held
pub held_places-none : (m : Stage) → held_places m 0 ≡ []
held_places-none m =
    ap (map {A = Row} {B = ℕ} (λ row. row.place)) (none_kept (λ row. is_copied 0 m row.number) (λ row. none_copies row.number m.windows) (m.cache.rows ++ m.cache.removed))

-- the mask 0 is legal in every event
pub is_legal_mask-none : (workers worker : ℕ) (m : Stage) → is_legal_mask workers worker m 0 ≡ true
is_legal_mask-none workers worker m =
    all_pass
    (λ v. not (is_in_mask 0 v) || (not (v == worker) && nat_lt v workers && is_some (window_of m v)))
    (λ v. ap (λ b. not b || (not (v == worker) && nat_lt v workers && is_some (window_of m v))) (none_in_mask v))
    (range_with_len 0 64)

passes_at : (p : ℕ → Bool) (n i : ℕ) → i < n → list_all p (range_with_len 0 n) ≡ true → p i ≡ true
passes_at p n i l h =
    let at : get_or (range_with_len 0 n) i 0 ≡ i = omega (arith, get_or-range_with_len 0 n i 0 l) in
    subst (λ k. p k ≡ true) at (and_at (list_all p) p refl (λ _ _. refl) (range_with_len 0 n) i 0 (omega (arith, length-range_with_len 0 n)) h)

-- a worker of the mask would have to be another one than the only one
not_copying : (mask v : ℕ) (opened : Bool) → (not (is_in_mask mask v) || (not (v == 0) && nat_lt v 1 && opened)) ≡ true → bit_at mask v ≡ 0
not_copying mask v opened h =
    elim (or_cases (not (is_in_mask mask v)) (not (v == 0) && nat_lt v 1 && opened) h) [
      | inl out ↦ let other = eqb-false (bit_at mask v) 1 (not-true (is_in_mask mask v) out) in
          let few = bit_at-lt mask v in
          omega (arith, other, few)
      | inr in' ↦ let both = and_parts (not (v == 0)) (nat_lt v 1) (and_parts (not (v == 0) && nat_lt v 1) opened in').0 in
          let other = eqb-false v 0 (not-true (v == 0) both.0) in
          let first = ltb-true v 1 both.1 in
          absurd (omega (arith, other, first))
    ]

-- and the only one for the only worker
pub is_legal_mask-alone : (m : Stage) (mask : ℕ) → is_legal_mask 1 0 m mask ≡ true → mask ≡ 0
is_legal_mask-alone m mask h =
    let named : ℕ → Bool = λ v. not (is_in_mask mask v) || (not (v == 0) && nat_lt v 1 && is_some (window_of m v)) in
    let parts = and_parts (nat_lt mask (2 ^ 64)) (list_all named (range_with_len 0 64)) h in
    same_from_bits_below 64 mask 0 (ltb-true mask (2 ^ 64) parts.0) (omega arith) (λ v l. not_copying mask v (is_some (window_of m v)) (passes_at named 64 v l parts.1) ∙ sym (bit_at-zero v))
