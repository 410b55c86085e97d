-- A block that the window of a worker names that was met is held.
use Rattle.std.proofs.Common.{◌≡◌, ℕ, zero, suc, ◌/◌, ◌%◌, ◌<◌, ◌&&◌, Bool, true, false, cond, ltb, eqb, List, [], ◌∷◌, sym, ◌∙◌, arith}
use Rattle.std.proofs.lemmas.Bool.{and_from, or_left, or_right, lt-ltb, eq-eqb}
use Rattle.std.specs.Int.{bit_at}
use Rattle.std.proofs.lemmas.Nat.Bits.{bit_at_lowest, bit_at-suc}
use mathlib.Core.Option.{some, some-injective, some-ne-none}
use lib.ListN.{get_elem?}
use Rattle.seg_words.specs.Windows.{has, held_by}

pub bit_held : (m : ℕ) (ws : List ℕ) (v x : ℕ) → bit_at m v ≡ 1 → get_elem? ws v ≡ some x → 0 < x → has x (held_by m ws) ≡ true
bit_held m [] v x bit h pos = absurd (some-ne-none x (sym h))
bit_held m (w ∷ ws) zero x bit h pos =
    let same : w ≡ x = some-injective w x h in
    let met : (eqb (m % 2) 1 && ltb 0 w) ≡ true = and_from (eqb (m % 2) 1) (ltb 0 w) (eq-eqb (m % 2) 1 (sym (bit_at_lowest m) ∙ bit)) (lt-ltb 0 w (omega arith)) in
    rw met (or_left (eqb x w) (has x (held_by (m / 2) ws)) (eq-eqb x w (sym same)))
bit_held m (w ∷ ws) (suc v) x bit h pos = go (eqb (m % 2) 1 && ltb 0 w) (bit_held (m / 2) ws v x (sym (bit_at-suc m v) ∙ bit) h pos)
  where
    go : (b : Bool) → has x (held_by (m / 2) ws) ≡ true → has x (cond b (w ∷ held_by (m / 2) ws) (held_by (m / 2) ws)) ≡ true
    go true r = or_right (eqb x w) (has x (held_by (m / 2) ws)) r
    go false r = r
