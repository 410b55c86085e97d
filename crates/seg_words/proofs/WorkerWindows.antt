-- Windows that are opened for the workers of a mask.
use Rattle.std.proofs.Common.{◌≡◌, ℕ, suc, ◌+◌, ◌*◌, ◌/◌, ◌%◌, ◌<◌, ◌≤◌, Bool, true, false, cond, eqb, List, [], ◌∷◌, ◌++◌, length, take, drop, set, get_or, bit_or, refl, sym, ap, ◌∙◌, arith}
use Rattle.std.specs.Int.Bits.{or_zero_r}
use Rattle.std.proofs.Math.Seq.{take-suc-set, drop-cons}
use Rattle.std.proofs.lemmas.Bool.{eqb-true}
use Rattle.std.proofs.lemmas.List.{append_assoc}
use Rattle.seg_words.specs.Windows.{holders}
use Rattle.seg_words.specs.EventWindows.{opened_for, AreMet}
use Rattle.seg_words.proofs.HeldBlocks.{bit_or-low, bit_or-half}

-- one worker more
pub opened_next : (mask left i n : ℕ) (held windows : List ℕ) → n ≡ suc i → i < length held → i < length windows
    → opened_for mask held ≡ take i windows ++ opened_for left (drop i held)
    → (v : ℕ) → v ≡ cond (eqb (left % 2) 1) (get_or held i 0) 0
    → opened_for mask held ≡ take n (set windows i v) ++ opened_for (left / 2) (drop n held)
opened_next mask left i n held windows one low room so_far v is =
    let later = opened_for (left / 2) (drop (suc i) held) in
    so_far
    ∙ ap (λ xs. take i windows ++ opened_for left xs) (drop-cons held i 0 low)
    ∙ ap (λ x. take i windows ++ (x ∷ later)) (sym is)
    ∙ sym (append_assoc (take i windows) (v ∷ []) later)
    ∙ sym (ap (λ xs. xs ++ later) (take-suc-set windows i v room))
    ∙ ap (λ k. take k (set windows i v) ++ opened_for (left / 2) (drop k held)) (sym one)

-- each worker with a window is one of the mask
pub opened_met : (held : List ℕ) (mask : ℕ) → AreMet mask (opened_for mask held)
opened_met [] mask = λ at some. or_none mask
  where
    or_none : (n : ℕ) → bit_or n 0 ≡ n
    or_none n = or_zero_r n
opened_met (h ∷ hs) mask = λ at some. go (eqb (mask % 2) 1) refl at some (opened_met hs (mask / 2) at some)
  where
    joined : (c k : ℕ) → c ≤ mask % 2 → c ≤ 1 → bit_or (mask / 2) k ≡ mask / 2 → bit_or mask (c + 2 * k) ≡ mask
    joined c k le one rest =
        let odd : (c + 2 * k) % 2 ≡ c = omega arith in
        let half : (c + 2 * k) / 2 ≡ k = omega arith in
        let low : bit_or mask (c + 2 * k) % 2 ≡ mask % 2 = bit_or-low mask (c + 2 * k) ∙ omega (arith, odd, le) in
        let high : bit_or mask (c + 2 * k) / 2 ≡ mask / 2 = bit_or-half mask (c + 2 * k) ∙ ap (λ x. bit_or (mask / 2) x) half ∙ rest in
        omega (arith, low, high)

    go : (b : Bool) → eqb (mask % 2) 1 ≡ b → (at : ℕ) → 0 < at → bit_or (mask / 2) (holders (opened_for (mask / 2) hs) at) ≡ mask / 2
        → bit_or mask (cond (eqb (cond b h 0) at) 1 0 + 2 * holders (opened_for (mask / 2) hs) at) ≡ mask
    go true e at some rest = each (eqb h at)
      where
        each : (t : Bool) → bit_or mask (cond t 1 0 + 2 * holders (opened_for (mask / 2) hs) at) ≡ mask
        each true = joined 1 (holders (opened_for (mask / 2) hs) at) (omega (arith, eqb-true (mask % 2) 1 e)) (omega arith) rest
        each false = joined 0 (holders (opened_for (mask / 2) hs) at) (omega arith) (omega arith) rest
    go false e at some rest = each (eqb 0 at) refl
      where
        each : (t : Bool) → eqb 0 at ≡ t → bit_or mask (cond t 1 0 + 2 * holders (opened_for (mask / 2) hs) at) ≡ mask
        each true q = absurd (omega (arith, eqb-true 0 at q))
        each false q = joined 0 (holders (opened_for (mask / 2) hs) at) (omega arith) (omega arith) rest
