-- The words after one was stored.
use Rattle.std.proofs.Common.{◌≡◌, ◌∙◌, ℕ, suc, ◌+◌, ◌-◌, ◌<◌, ◌≤◌, List, [], ◌∷◌, ◌++◌, length, replicate, slice_set, sym, ap, arith}
use Rattle.std.proofs.lemmas.List.{append_assoc, length-append, length-replicate, set-append_right, replicate-append-replicate}
use Rattle.std.proofs.Math.Seq.{set-append_seam}
use Rattle.late_words.specs.Zeros.{with_zeros}

-- a zero among zeros
zeros_cut : (n k : ℕ) → k < n → replicate n 0 ≡ replicate {A = ℕ} k 0 ++ 0 ∷ replicate (n - (k + 1)) 0
zeros_cut n k low =
    ap (λ m. replicate m 0) (omega (arith, low)) ∙ sym (replicate-append-replicate k (suc (n - (k + 1))) 0)

zero_set : (n k w : ℕ) → k < n
    → slice_set (replicate n 0) k w ≡ replicate {A = ℕ} k 0 ++ w ∷ replicate (n - (k + 1)) 0
zero_set n k w low =
    let front = replicate {A = ℕ} k 0 in
    let back = replicate {A = ℕ} (n - (k + 1)) 0 in
    ap (λ l. slice_set l k w) (zeros_cut n k low)
    ∙ ap (λ m. slice_set (front ++ 0 ∷ back) m w) (sym (length-replicate k 0))
    ∙ set-append_seam front 0 back w

-- behind them
pub stored_behind : (xs : List ℕ) (n len at w : ℕ) → length xs ≡ n → n ≤ at → at < len
    → with_zeros ((xs ++ replicate (at - n) 0) ++ w ∷ []) len ≡ slice_set (with_zeros xs len) at w
stored_behind xs n len at w is past low =
    let gap = replicate {A = ℕ} (at - n) 0 in
    let count : length ((xs ++ gap) ++ w ∷ []) ≡ at + 1 =
    omega (arith, is, past, length-append (xs ++ gap) (w ∷ []), length-append xs gap, length-replicate {A = ℕ} (at - n) 0) in
    let left : len - length ((xs ++ gap) ++ w ∷ []) ≡ (len - n) - ((at - n) + 1) = omega (arith, count, past, low) in
    let back = replicate {A = ℕ} ((len - n) - ((at - n) + 1)) 0 in
    ap (λ k. ((xs ++ gap) ++ w ∷ []) ++ replicate k 0) left
    ∙ append_assoc (xs ++ gap) (w ∷ []) back
    ∙ append_assoc xs gap (w ∷ back)
    ∙ ap (λ l. xs ++ l) (sym (zero_set (len - n) (at - n) w (omega (arith, past, low))))
    ∙ sym (set-append_right xs (replicate (len - n) 0) n at w is past)
    ∙ ap (λ k. slice_set (xs ++ replicate (len - k) 0) at w) (sym is)
