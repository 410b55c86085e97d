-- Items of a list, each as a run of words.
use Rattle.std.proofs.Common.{◌≡◌, ℕ, zero, suc, ◌+◌, ◌<◌, ◌≤◌, List, [], ◌∷◌, ◌++◌, length, take, drop, subst, Some, slice_get, sum_by, refl, ap, ap₂, sym, ◌∙◌, arith, add-one, length-append}
use Rattle.std.specs.List.{flat_map, AllByRecursion}
use Rattle.std.proofs.lemmas.Grind.{flat_map-append}
use Rattle.std.proofs.lemmas.List.{append-nil, take-append-drop}
use Rattle.std.proofs.lemmas.List.Sums.{sum_by-cons, sum_by_push, sum_by-take-le}
use Rattle.seg_words.specs.Windows.{Aside}
use Rattle.value_image.specs.Rows.{written, MayWrite, IsToldAt}
use Rattle.value_image.proofs.Runs.{may_write-along, written-along, told-front, told-back}

take-suc-get : {X : Type 0} (xs : List X) (i : ℕ) (x : X) → slice_get xs i ≡ Some x → take (suc i) xs ≡ take i xs ++ x ∷ []
take-suc-get [] i x h = cc
take-suc-get (y ∷ ys) zero x h = let e : y ≡ x = cc in ap (λ z. z ∷ []) e
take-suc-get (y ∷ ys) (suc i) x h = ap (λ zs. y ∷ zs) (take-suc-get ys i x h)

pub take_more-get : {X : Type 0} (xs : List X) (i : ℕ) (x : X) → slice_get xs i ≡ Some x → take (i + 1) xs ≡ take i xs ++ x ∷ []
take_more-get xs i x h = ap (λ (k : ℕ). take k xs) (add-one i) ∙ take-suc-get xs i x h

pub length-items : {X : Type 0} (f : X → List ℕ) (cells : X → ℕ) → ((x : X) → length (f x) ≡ cells x) → (xs : List X) → length (flat_map f xs) ≡ sum_by cells xs
length-items f cells len [] = refl
length-items f cells len (x ∷ xs) =
    length-append (f x) (flat_map f xs) ∙ (ap₂ (λ (a b : ℕ). a + b) (len x) (length-items f cells len xs) ∙ sym (sum_by-cons cells x xs))

pub flat_map-more : {X : Type 0} (f : X → List ℕ) (xs : List X) (i : ℕ) (x : X) → slice_get xs i ≡ Some x → flat_map f (take (i + 1) xs) ≡ flat_map f (take i xs) ++ f x
flat_map-more f xs i x h =
    ap (flat_map f) (take_more-get xs i x h)
    ∙ (flat_map-append f (take i xs) (x ∷ []) ∙ ap (λ (r : List ℕ). flat_map f (take i xs) ++ r) (append-nil (f x)))

-- the cells so far, with one item more
pub cells-more : {X : Type 0} (cells : X → ℕ) (xs : List X) (i : ℕ) (x : X) → slice_get xs i ≡ Some x → sum_by cells (take (i + 1) xs) ≡ sum_by cells (take i xs) + cells x
cells-more cells xs i x h = ap (sum_by cells) (take_more-get xs i x h) ∙ sum_by_push cells (take i xs) x

pub cells-within : {X : Type 0} (cells : X → ℕ) (xs : List X) (i : ℕ) (x : X) → slice_get xs i ≡ Some x → sum_by cells (take i xs) + cells x ≤ sum_by cells xs
cells-within cells xs i x h = omega (arith, cells-more cells xs i x h, sum_by-take-le cells xs (i + 1))

-- the next item may be written
pub item_may_write : {X : Type 0} (f : X → List ℕ) (cells : X → ℕ) → ((x : X) → length (f x) ≡ cells x)
    → (row : List ℕ) (old : Aside) (at : ℕ) (xs : List X) (i : ℕ) (x : X) (row' : List ℕ) (new : Aside) (b : ℕ)
    → MayWrite row old.windows at (sum_by cells xs) → slice_get xs i ≡ Some x
    → row' ≡ written row at (flat_map f (take i xs)) → new ≡ old → b ≡ at + sum_by cells (take i xs) → MayWrite row' new.windows b (cells x)
item_may_write f cells len row old at xs i x row' new b h get ew ea eb =
    let long = length-items f cells len (take i xs) in
    may_write-along row old at (sum_by cells xs) (flat_map f (take i xs)) row' new b (cells x) h ew ea (omega arith) (omega (arith, cells-within cells xs i x get))

-- the row with the next item
pub item_written : {X : Type 0} (f : X → List ℕ) (cells : X → ℕ) → ((x : X) → length (f x) ≡ cells x)
    → (row : List ℕ) (at : ℕ) (xs : List X) (i : ℕ) (x : X) (row' row'' : List ℕ) (b : ℕ) → slice_get xs i ≡ Some x
    → row' ≡ written row at (flat_map f (take i xs)) → row'' ≡ written row' b (f x) → b ≡ at + sum_by cells (take i xs) → row'' ≡ written row at (flat_map f (take (i + 1) xs))
item_written f cells len row at xs i x row' row'' b get e f' eb =
    let long = length-items f cells len (take i xs) in
    written-along row at (flat_map f (take i xs)) (f x) row' row'' b e f' (omega arith)
    ∙ ap (λ (r : List ℕ). written row at r) (sym (flat_map-more f xs i x get))

-- ---- items that stand in a row

pub get-some : {X : Type 0} (xs : List X) (i : ℕ) → i < length xs → (x : X) × (slice_get xs i ≡ Some x)
get-some [] i lt = absurd (omega arith)
get-some (x ∷ xs) zero lt = (x, refl)
get-some (x ∷ xs) (suc i) lt = get-some xs i (omega arith)

pub all-get : {X : Type 0} (P : X → Type 0) (xs : List X) (i : ℕ) (x : X) → AllByRecursion P xs → slice_get xs i ≡ Some x → P x
all-get P [] i x all h = cc
all-get P (y ∷ ys) zero x all h = let e : y ≡ x = cc in subst P e all.0
all-get P (y ∷ ys) (suc i) x all h = all-get P ys i x all.1 h

-- the item i is told
pub told-item : {X : Type 0} (f : X → List ℕ) (cells : X → ℕ) → ((x : X) → length (f x) ≡ cells x)
    → (row windows : List ℕ) (at : ℕ) (xs : List X) (i : ℕ) (x : X) → IsToldAt row windows at (flat_map f xs) → slice_get xs i ≡ Some x → IsToldAt row windows (at + sum_by cells (take i xs)) (f x)
told-item f cells len row windows at xs i x h get =
    let cut : flat_map f xs ≡ (flat_map f (take i xs) ++ f x) ++ flat_map f (drop (i + 1) xs) =
    ap (flat_map f) (sym (take-append-drop (i + 1) xs))
    ∙ (flat_map-append f (take (i + 1) xs) (drop (i + 1) xs) ∙ ap (λ (r : List ℕ). r ++ flat_map f (drop (i + 1) xs)) (flat_map-more f xs i x get)) in
    let all : IsToldAt row windows at ((flat_map f (take i xs) ++ f x) ++ flat_map f (drop (i + 1) xs)) = subst (IsToldAt row windows at) cut h in
    let long = length-items f cells len (take i xs) in
    told-back row windows at (flat_map f (take i xs)) (f x) (at + sum_by cells (take i xs)) (told-front row windows at (flat_map f (take i xs) ++ f x) (flat_map f (drop (i + 1) xs)) all) (omega arith)
