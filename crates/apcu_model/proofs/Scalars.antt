-- The graph of an integer alone, and rows whose integer was set.
use Rattle.std.proofs.Common.{◌≡◌, ℕ, zero, suc, true, false, cond, List, [], ◌∷◌, Some, refl, sym, subst, arith}
use Rattle.std.specs.Prelude.{ℤ, FitsSigned}
use Rattle.std.specs.Int.{w64}
use Rattle.php_graph.specs.declared.kind.Kind.TheVariants as kinds
use Rattle.php_graph.specs.declared.places.Place.{Place}
use Rattle.php_graph.specs.Graph.{IsGraph, kind_at, end_of, child_end}
use Rattle.php_graph.specs.PlaceOffsets.{IsKept, kinds_at, offsets_at}
use Rattle.apcu_model.specs.Cache.{Row, has_key}
use Rattle.apcu_model.specs.Counters.{with_integer, with_integer_at}

no_target : (n : ℤ) (p x : ℕ) → kind_at (kinds.Int n ∷ []) p ≡ Some (kinds.Same x) → ⊥
no_target n zero x k = cc
no_target n (suc zero) x k = cc
no_target n (suc (suc p)) x k = cc

int_graph : (n : ℤ) → FitsSigned w64 n → IsGraph (kinds.Int n ∷ [])
unfolding end_of child_end
int_graph n fits = record {
  sealed = refl;
  targets = λ p x k. absurd (no_target n p x k);
  well_formed = (refl, tt);
  fits = (fits, tt);
  count = omega arith;
}

int_kept : (n : ℤ) → FitsSigned w64 n → IsKept (kinds.Int n ∷ []) (0 ∷ []) 2
int_kept n fits = record { graph = int_graph n fits; offsets_are = refl; few = omega arith; words_are = refl; small = omega arith }

-- with no further places
pub int_alone : (n m : ℤ) → FitsSigned w64 n → m ≡ n → (others : List Place) → others ≡ [] → IsKept (kinds.Int m ∷ kinds_at others) (0 ∷ offsets_at others) 2
int_alone n m fits is others none =
    subst (λ (l : List Place). IsKept (kinds.Int m ∷ kinds_at l) (0 ∷ offsets_at l) 2) (sym none)
    (subst (λ z. IsKept (kinds.Int z ∷ []) (0 ∷ []) 2) (sym is) (int_kept n fits))

pub set_key : (key : List ℕ) (n : ℤ) (t : ℕ) (row : Row) → (with_integer_at key n t row).key ≡ row.key
set_key key n t row = elim (has_key key row) as (λ v. (cond v (with_integer n t row) row).key ≡ row.key) [ true ↦ refl | false ↦ refl ]
