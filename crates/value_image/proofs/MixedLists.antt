-- A list that is changed item by item.
use Rattle.std.proofs.Common.{◌≡◌, ℕ, zero, suc, ◌+◌, ◌<◌, ◌≤◌, List, [], ◌∷◌, ◌++◌, length, map, take, drop, get_or, slice_get, slice_set, Some, refl, sym, ap, ap₂, ◌∙◌, arith, add-one}
use Rattle.std.proofs.lemmas.List.{append-nil, take_all, drop_all}

-- the first i items are changed
abbrev pub mixed : {A : Type 0} → (A → A) → ℕ → List A → List A
mixed f i xs = map f (take i xs) ++ drop i xs

pub length-mixed : {A : Type 0} (f : A → A) (i : ℕ) (xs : List A) → length (mixed f i xs) ≡ length xs
length-mixed f zero xs = refl
length-mixed f (suc i) [] = refl
length-mixed f (suc i) (x ∷ xs) = ap suc (length-mixed f i xs)

pub get-mixed : {A : Type 0} (f : A → A) (i : ℕ) (xs : List A) → slice_get (mixed f i xs) i ≡ slice_get xs i
get-mixed f zero xs = refl
get-mixed f (suc i) [] = refl
get-mixed f (suc i) (x ∷ xs) = get-mixed f i xs

set-mixed-suc : {A : Type 0} (f : A → A) (i : ℕ) (xs : List A) (x : A) → slice_get xs i ≡ Some x → slice_set (mixed f i xs) i (f x) ≡ mixed f (suc i) xs
set-mixed-suc f zero [] x h = cc
set-mixed-suc f zero (y ∷ ys) x h = let e : x ≡ y = cc in ap (λ z. f z ∷ ys) e
set-mixed-suc f (suc i) [] x h = cc
set-mixed-suc f (suc i) (y ∷ ys) x h = ap (λ zs. f y ∷ zs) (set-mixed-suc f i ys x h)

-- one item more is changed
pub set-mixed : {A : Type 0} (f : A → A) (i : ℕ) (xs : List A) (x : A) → slice_get xs i ≡ Some x → slice_set (mixed f i xs) i (f x) ≡ mixed f (i + 1) xs
set-mixed f i xs x h = set-mixed-suc f i xs x h ∙ ap (λ (k : ℕ). mixed f k xs) (sym (add-one i))

-- all items are changed
pub mixed-all : {A : Type 0} (f : A → A) (i : ℕ) (xs : List A) → length xs ≤ i → mixed f i xs ≡ map f xs
mixed-all f i xs le = ap₂ (λ (a b : List _). map f a ++ b) (take_all i xs le) (drop_all i xs le) ∙ append-nil (map f xs)

-- what was read at a place is the item there
pub get-read : {A : Type 0} (xs : List A) (i : ℕ) (x : A) → i < length xs → x ≡ get_or xs i x → slice_get xs i ≡ Some x
get-read [] i x lt h = absurd (omega arith)
get-read (y ∷ ys) zero x lt h = ap (λ z. Some z) (sym h)
get-read (y ∷ ys) (suc i) x lt h = get-read ys i x (omega arith) h
