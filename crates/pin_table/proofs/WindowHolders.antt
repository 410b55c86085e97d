-- The workers of a window, as a number.
use Rattle.std.proofs.Common.{◌≡◌, ℕ, zero, suc, ◌+◌, ◌*◌, ◌^◌, ◌<◌, ◌≤◌, ◌==◌, Bool, true, false, cond, List, [], ◌∷◌, length, drop, get_or, refl, arith}
use Rattle.std.proofs.Math.Nat.{pow-suc, pow-le-pow_right}
use Rattle.std.proofs.Common.{length-drop}
use Rattle.seg_words.specs.Windows.{holders}

pub holders_fit : (ws : List ℕ) (at : ℕ) → holders ws at + 1 ≤ 2 ^ length ws
holders_fit [] at = omega arith
holders_fit (y ∷ ys) at = go (y == at) (holders_fit ys at)
  where
    go : (b : Bool) → holders ys at + 1 ≤ 2 ^ length ys → cond b 1 0 + 2 * holders ys at + 1 ≤ 2 ^ suc (length ys)
    go true ih = let p : 2 ^ suc (length ys) ≡ 2 ^ length ys * 2 = pow-suc 2 (length ys) in omega (arith, p, ih)
    go false ih = let p : 2 ^ suc (length ys) ≡ 2 ^ length ys * 2 = pow-suc 2 (length ys) in omega (arith, p, ih)

pub holders_drop : (ws : List ℕ) (v at : ℕ) → v < length ws → holders (drop v ws) at ≡ cond (get_or ws v 0 == at) 1 0 + 2 * holders (drop (suc v) ws) at
holders_drop [] v at h = absurd (omega arith)
holders_drop (y ∷ ys) zero at h = refl
holders_drop (y ∷ ys) (suc v) at h = holders_drop ys v at (omega arith)

pub holders_room : (ws : List ℕ) (v at m : ℕ) → length ws ≤ 64 → 0 < v → m ≡ holders (drop v ws) at → m < 2 ^ 63
holders_room ws v at m few pos e =
    let f = holders_fit (drop v ws) at in
    let n : length (drop v ws) ≤ 63 = omega (arith, length-drop v ws) in
    let p : 2 ^ length (drop v ws) ≤ 2 ^ 63 = pow-le-pow_right {n = 2} (omega arith) n in
    omega (arith, f, p, e)
