-- Lists that are read by place.
use Rattle.std.proofs.lemmas.Bool.{false≢true, or_cases, or_left, or_right}
use Rattle.std.proofs.Common.{◌==◌, true, inl, inr, ◌≡◌, ℕ, zero, suc, List, [], ◌∷◌, ◌++◌, length, slice_get, Some, refl, ap}
use mathlib.Core.Option.{some}
use lib.ListN.{get_elem?}
use Rattle.atomic_table.specs.Seated.{TableId}
use Rattle.pin_table.specs.declared.views.Known.{Known}
use Rattle.pin_table.specs.Values.{PassView}
use Rattle.pin_table.specs.Views.{has_worker}
use Rattle.pin_table.specs.Lists.{known_list, AllOf}

pub get_front : {A : Type 0} (xs ys : List A) (k : ℕ) (x : A) → slice_get xs k ≡ Some x → slice_get (xs ++ ys) k ≡ Some x
get_front [] ys k x h = absurd cc
get_front (y ∷ xs) ys zero x h = h
get_front (y ∷ xs) ys (suc k) x h = get_front xs ys k x h

pub get_last : {A : Type 0} (xs : List A) (x : A) → slice_get (xs ++ x ∷ []) (length xs) ≡ Some x
get_last [] x = refl
get_last (y ∷ xs) x = get_last xs x

pub get_known : (bs : List PassView) (k : ℕ) (b : PassView) → slice_get bs k ≡ Some b → get_elem? (known_list bs) k ≡ some b.known
get_known [] k b h = absurd cc
get_known (c ∷ bs) zero b h = let e : c ≡ b = cc (h) in ap (λ (x : PassView). some x.known) e
get_known (c ∷ bs) (suc k) b h = get_known bs k b h

pub known_snoc : (bs : List PassView) (b : PassView) (ks : List Known) → known_list (bs ++ b ∷ []) ++ ks ≡ known_list bs ++ b.known ∷ ks
known_snoc [] b ks = refl
known_snoc (c ∷ bs) b ks = ap (λ t. c.known ∷ t) (known_snoc bs b ks)

pub all_front : (t : TableId) (xs : List PassView) (x : PassView) → AllOf t (xs ++ x ∷ []) → AllOf t xs × (x.table ≡ t)
all_front t xs x all = ((λ k b h. all k b (get_front xs (x ∷ []) k b h)), all (length xs) x (get_last xs x))

pub known_of_list : (bs : List PassView) (k : ℕ) (p : Known) → slice_get (known_list bs) k ≡ Some p → (b : PassView) × (slice_get bs k ≡ Some b) × (b.known ≡ p)
known_of_list [] k p h = absurd cc
known_of_list (b ∷ bs) zero p h = (b, refl, cc (h))
known_of_list (b ∷ bs) (suc k) p h = known_of_list bs k p h

pub among_front : (ps qs : List Known) (w : ℕ) → has_worker w ps ≡ true → has_worker w (ps ++ qs) ≡ true
among_front [] qs w h = absurd (false≢true h)
among_front (p ∷ ps) qs w h = elim (or_cases (p.worker == w) (has_worker w ps) h) [
  | inl e ↦ or_left (p.worker == w) (has_worker w (ps ++ qs)) e
  | inr r ↦ or_right (p.worker == w) (has_worker w (ps ++ qs)) (among_front ps qs w r)
]
