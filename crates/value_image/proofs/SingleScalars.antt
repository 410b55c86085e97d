-- The graphs whose only place is null, a truth value or an integer.
use Rattle.std.proofs.Common.{◌≡◌, ℕ, zero, suc, ◌+◌, ◌*◌, ℤ, Bool, if◌then◌else◌, List, [], ◌∷◌, Some, FitsSigned, refl, ap, ◌∙◌, arith}
use Rattle.std.specs.Int.{w64, cast_unsigned}
use Rattle.php_graph.specs.declared.kind.Kind.TheVariants as kinds
use Rattle.php_graph.specs.Graph.{IsGraph, kind_at, end_of, child_end}
use Rattle.value_image.specs.Rows.{written}
use Rattle.value_image.specs.Image.{image_of}

null_target : (p x : ℕ) → kind_at (kinds.Null ∷ []) p ≡ Some (kinds.Same x) → ⊥
null_target zero x k = cc
null_target (suc zero) x k = cc
null_target (suc (suc p)) x k = cc

pub null_graph : IsGraph (kinds.Null ∷ [])
unfolding end_of child_end
null_graph = record {
  sealed = refl;
  targets = λ p x k. absurd (null_target p x k);
  well_formed = (refl, tt);
  fits = (tt, tt);
  count = omega arith;
}

bool_target : (b : Bool) (p x : ℕ) → kind_at (kinds.Bool b ∷ []) p ≡ Some (kinds.Same x) → ⊥
bool_target b zero x k = cc
bool_target b (suc zero) x k = cc
bool_target b (suc (suc p)) x k = cc

pub bool_graph : (b : Bool) → IsGraph (kinds.Bool b ∷ [])
unfolding end_of child_end
bool_graph b = record {
  sealed = refl;
  targets = λ p x k. absurd (bool_target b p x k);
  well_formed = (refl, tt);
  fits = (tt, tt);
  count = omega arith;
}

int_target : (n : ℤ) (p x : ℕ) → kind_at (kinds.Int n ∷ []) p ≡ Some (kinds.Same x) → ⊥
int_target n zero x k = cc
int_target n (suc zero) x k = cc
int_target n (suc (suc p)) x k = cc

pub int_graph : (n : ℤ) → FitsSigned w64 n → IsGraph (kinds.Int n ∷ [])
unfolding end_of child_end
int_graph n fits = record {
  sealed = refl;
  targets = λ p x k. absurd (int_target n p x k);
  well_formed = (refl, tt);
  fits = (fits, tt);
  count = omega arith;
}

-- ---- their images, where the words were written

pub null_written : (row new : List ℕ) (at : ℕ) → new ≡ written row at (0 ∷ []) → new ≡ written row at (image_of (kinds.Null ∷ []))
unfolding image_of
null_written row new at words = words

pub bool_written : (row new : List ℕ) (at n : ℕ) (b : Bool) → new ≡ written row at ((1 + 8 * n) ∷ []) → n ≡ (if b then 1 else 0) → new ≡ written row at (image_of (kinds.Bool b ∷ []))
unfolding image_of
bool_written row new at n b words is = words ∙ ap (λ (w : ℕ). written row at ((1 + 8 * w) ∷ [])) is

pub int_written : (row new : List ℕ) (at n : ℕ) (number : ℤ) → new ≡ written row at (2 ∷ n ∷ []) → n ≡ cast_unsigned w64 number → new ≡ written row at (image_of (kinds.Int number ∷ []))
unfolding image_of
int_written row new at n number words is = words ∙ ap (λ (w : ℕ). written row at (2 ∷ w ∷ [])) is
