-- The printed workers of a mask, one after the other.
use Rattle.std.proofs.Common.{◌≡◌, ◌≢◌, ℕ, zero, suc, ◌+◌, ◌<◌, ◌≤◌, ◌/◌, ◌%◌, ◌^◌, Bool, true, false, cond, List, [], ◌∷◌, ◌++◌, length, refl, ap, sym, ◌∙◌, subst, append_assoc, arith}
use native.Mathlib.Nat.{zero-div}
use Rattle.std.specs.Prelude.{◌==◌, codes, filter}
use Rattle.std.specs.Fmt.{decimal}
use Rattle.std.specs.List.{flat_map, range_with_len}
use Rattle.std.proofs.lemmas.Bool.{eq-eqb, ne_eqb}
use Rattle.std.proofs.lemmas.List.{append-nil}
use Rattle.apcu_model.specs.History.{is_in_mask}
use Rattle.reply_text.specs.Output.{mask_text}
use Rattle.run_verify.specs.TextPieces.{HasPiece, DiffersAt}
use Rattle.run_verify.proofs.FirstDifferences.{joined, later, sooner}

-- each after a space
abbrev pub texts : List ℕ → List ℕ
texts ws = flat_map (λ w. codes " " ++ decimal w) ws

-- the workers of a mask among n of them, from worker w on
abbrev pub picked : ℕ → ℕ → ℕ → List ℕ
picked mask w n = filter (is_in_mask mask) (range_with_len w n)

-- The workers below this one are there, up to `at`; n others are left.
pub record StandsUpto (line : List ℕ) (from mask at w : ℕ) : Type 0 where
  pub done : List ℕ
  pub n : ℕ
  pub all : w + n ≡ 64
  pub has : HasPiece line from done at
  pub whole : mask_text mask 64 ≡ done ++ texts (picked mask w n)

pub none_yet : (line : List ℕ) (from mask : ℕ) → from ≤ length line → StandsUpto line from mask from 0
unfolding mask_text
none_yet line from mask within = record {
  done = [];
  n = 64;
  all = refl;
  has = record { end = omega arith; within = within; stands = refl };
  whole = refl;
}

in_bit : (mask w : ℕ) → mask / 2 ^ w % 2 ≡ 1 → is_in_mask mask w ≡ true
in_bit mask w bit = eq-eqb (mask / 2 ^ w % 2) 1 bit

out_bit : (mask w : ℕ) → mask / 2 ^ w % 2 ≢ 1 → is_in_mask mask w ≡ false
out_bit mask w bit = ne_eqb (mask / 2 ^ w % 2) 1 bit

with_one : (mask w n : ℕ) → is_in_mask mask w ≡ true → texts (picked mask w (suc n)) ≡ (codes " " ++ decimal w) ++ texts (picked mask (w + 1) n)
with_one mask w n is = ap (λ (b : Bool). texts (cond b (w ∷ picked mask (w + 1) n) (picked mask (w + 1) n))) is

without : (mask w n : ℕ) → is_in_mask mask w ≡ false → texts (picked mask w (suc n)) ≡ texts (picked mask (w + 1) n)
without mask w n is = ap (λ (b : Bool). texts (cond b (w ∷ picked mask (w + 1) n) (picked mask (w + 1) n))) is

-- a worker of the mask is there too
pub one_stands : (line : List ℕ) (from mask at to w : ℕ) → w < 64 → mask / 2 ^ w % 2 ≡ 1 → StandsUpto line from mask at w → HasPiece line at (codes " " ++ decimal w) to
    → StandsUpto line from mask to (w + 1)
one_stands line from mask at to w low bit s has = go s.n refl
  where
    go : (k : ℕ) → s.n ≡ k → StandsUpto line from mask to (w + 1)
    go zero is = absurd (omega (arith, low, is, s.all))
    go (suc k) is = record {
      done = s.done ++ (codes " " ++ decimal w);
      n = k;
      all = omega (arith, is, s.all);
      has = joined line from at to s.done (codes " " ++ decimal w) s.has has;
      whole = s.whole
          ∙ (ap (λ (m : ℕ). s.done ++ texts (picked mask w m)) is
          ∙ (ap (λ (l : List ℕ). s.done ++ l) (with_one mask w k (in_bit mask w bit)) ∙ sym (append_assoc s.done (codes " " ++ decimal w) (texts (picked mask (w + 1) k)))));
    }

-- a worker that is not of the mask needs nothing
pub none_needed : (line : List ℕ) (from mask at w : ℕ) → w < 64 → mask / 2 ^ w % 2 ≢ 1 → StandsUpto line from mask at w → StandsUpto line from mask at (w + 1)
none_needed line from mask at w low bit s = go s.n refl
  where
    go : (k : ℕ) → s.n ≡ k → StandsUpto line from mask at (w + 1)
    go zero is = absurd (omega (arith, low, is, s.all))
    go (suc k) is = record {
      done = s.done;
      n = k;
      all = omega (arith, is, s.all);
      has = s.has;
      whole = s.whole ∙ (ap (λ (m : ℕ). s.done ++ texts (picked mask w m)) is ∙ ap (λ (l : List ℕ). s.done ++ l) (without mask w k (out_bit mask w bit)));
    }

-- a worker of the mask is not there
pub one_differs : (line : List ℕ) (from mask at place w : ℕ) → w < 64 → mask / 2 ^ w % 2 ≡ 1 → StandsUpto line from mask at w → DiffersAt line at (codes " " ++ decimal w) place
    → DiffersAt line from (mask_text mask 64) place
one_differs line from mask at place w low bit s d = go s.n refl
  where
    go : (k : ℕ) → s.n ≡ k → DiffersAt line from (mask_text mask 64) place
    go zero is = absurd (omega (arith, low, is, s.all))
    go (suc k) is =
        let rest : List ℕ = texts (picked mask (w + 1) k) in
        let whole : mask_text mask 64 ≡ (s.done ++ (codes " " ++ decimal w)) ++ rest =
        s.whole
        ∙ (ap (λ (m : ℕ). s.done ++ texts (picked mask w m)) is
        ∙ (ap (λ (l : List ℕ). s.done ++ l) (with_one mask w k (in_bit mask w bit)) ∙ sym (append_assoc s.done (codes " " ++ decimal w) rest))) in
        subst (λ (l : List ℕ). DiffersAt line from l place) (sym whole)
        (sooner line from place (s.done ++ (codes " " ++ decimal w)) rest (later line from at place s.done (codes " " ++ decimal w) s.has d))

-- all are there
pub all_stand : (line : List ℕ) (from mask at w : ℕ) → 64 ≤ w → StandsUpto line from mask at w → HasPiece line from (mask_text mask 64) at
all_stand line from mask at w over s = go s.n refl
  where
    go : (k : ℕ) → s.n ≡ k → HasPiece line from (mask_text mask 64) at
    go (suc k) is = absurd (omega (arith, over, is, s.all))
    go zero is =
        subst (λ (l : List ℕ). HasPiece line from l at)
        (sym (s.whole ∙ (ap (λ (m : ℕ). s.done ++ texts (picked mask w m)) is ∙ append-nil s.done))) s.has

none_picked : (w n : ℕ) → picked 0 w n ≡ []
none_picked w zero = refl
none_picked w (suc n) =
    ap (λ (b : Bool). cond b (w ∷ picked 0 (w + 1) n) (picked 0 (w + 1) n)) (ap (λ (k : ℕ). k % 2 == 1) (zero-div (2 ^ w))) ∙ none_picked (w + 1) n

-- no worker is in the mask 0
pub mask_zero : (mask : ℕ) → mask ≡ 0 → mask_text mask 64 ≡ []
unfolding mask_text
mask_zero mask z = ap (λ (m : ℕ). texts (picked m 0 64)) z ∙ ap texts (none_picked 0 64)

pub nothing_stands : (line : List ℕ) (from mask : ℕ) → from ≤ length line → mask ≡ 0 → HasPiece line from (mask_text mask 64) from
nothing_stands line from mask within z =
    subst (λ (l : List ℕ). HasPiece line from l from) (sym (mask_zero mask z)) (record { end = omega arith; within = within; stands = refl })
