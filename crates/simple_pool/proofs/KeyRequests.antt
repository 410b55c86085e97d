-- What is asked for one key of several.
use Rattle.std.proofs.Common.{◌≡◌, ℕ, zero, suc, ◌<◌, Bool, true, List, [], ◌∷◌, length, map, slice_get, Some, IsSome, option_map, refl, sym, ap, ◌∙◌, arith}
use Rattle.std.specs.List.{list_all}
use Rattle.std.proofs.lemmas.Bool.{and_parts, false≢true}
use Rattle.std.proofs.lemmas.Option.{none-some, same_Some}

pub within_map : {A B : Type 0} (f : A → B) (xs : List A) (i : ℕ) → IsSome (slice_get (map f xs) i) → i < length xs
within_map f [] i h = absurd (false≢true h)
within_map f (x ∷ xs) zero h = omega arith
within_map f (x ∷ xs) (suc i) h = omega (arith, within_map f xs i h)

pub get_map : {A B : Type 0} (f : A → B) (xs : List A) (i : ℕ) (x : A) → slice_get xs i ≡ Some x → slice_get (map f xs) i ≡ Some (f x)
get_map f [] i x e = absurd (none-some x e)
get_map f (y ∷ ys) zero x e = ap (λ y. Some (f y)) (same_Some y x e)
get_map f (y ∷ ys) (suc i) x e = get_map f ys i x e

pub all_at : {A : Type 0} (p : A → Bool) (xs : List A) (i : ℕ) (x : A) → list_all p xs ≡ true → slice_get xs i ≡ Some x → p x ≡ true
all_at p [] i x all e = absurd (none-some x e)
all_at p (y ∷ ys) zero x all e = ap p (sym (same_Some y x e)) ∙ (and_parts (p y) (list_all p ys) all).0
all_at p (y ∷ ys) (suc i) x all e = all_at p ys i x (and_parts (p y) (list_all p ys) all).1 e

-- what is made of the key there
pub made_map : {A B C : Type 0} (f : B → C) (g : A → B) (xs : List A) (i : ℕ) (y : B) → option_map g (slice_get xs i) ≡ Some y → slice_get (map (λ x. f (g x)) xs) i ≡ Some (f y)
made_map f g [] i y e = absurd (none-some y e)
made_map f g (x ∷ xs) zero y e = ap (λ z. Some (f z)) (same_Some (g x) y e)
made_map f g (x ∷ xs) (suc i) y e = made_map f g xs i y e

-- a thing of one is the first
pub first_of_one : {A : Type 0} (x : A) (i : ℕ) → IsSome (slice_get (x ∷ []) i) → slice_get (x ∷ []) i ≡ Some x
first_of_one x zero h = refl
first_of_one x (suc i) h = absurd (false≢true h)
