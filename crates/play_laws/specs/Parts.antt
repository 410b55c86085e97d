-- Events and lists in parts: facts that proofs of this crate and of those above cite.
use Rattle.std.proofs.Common.{◌≡◌, ℕ, zero, suc, ◌+◌, Bool, true, false, cond, List, [], ◌∷◌, ◌++◌}
use Rattle.std.proofs.Common.{map, take, drop, slice_get, length, Some, ◌⊎◌, inl, inr}
use Rattle.std.proofs.Common.{refl, sym, ap, ◌∙◌, arith}
use Rattle.std.specs.Prelude.{◌==◌}
use Rattle.std.proofs.lemmas.List.{drop_more}
use Rattle.std.proofs.lemmas.Option.{slice_get_within, get_or_from_slice_get}
use Rattle.apcu_model.specs.declared.request.Event.{Event}
use Rattle.pin_table.specs.Events.{events_of}

-- a worker's events in a longer history
pub events-append : (w : ℕ) (es more : List Event)
    → events_of w (es ++ more) ≡ events_of w es ++ events_of w more
events-append w [] more = refl
events-append w (e ∷ es) more = go (e.worker == w) (events-append w es more)
  where
    go : (b : Bool) → events_of w (es ++ more) ≡ events_of w es ++ events_of w more
        → cond b (e ∷ events_of w (es ++ more)) (events_of w (es ++ more))
        ≡ cond b (e ∷ events_of w es) (events_of w es) ++ events_of w more
    go true h = ap (λ (l : List Event). e ∷ l) h
    go false h = h

-- the item at a place, and what comes after it
pub drop_item : {A : Type 0} (xs : List A) (i : ℕ) (x : A) → slice_get xs i ≡ Some x
    → drop i xs ≡ x ∷ drop (i + 1) xs
drop_item xs i x is =
    drop_more xs i x (slice_get_within xs i x is)
    ∙ ap (λ y. y ∷ drop (i + 1) xs) (get_or_from_slice_get xs i x x is)

-- the item after a first part
pub get_behind : {A : Type 0} (xs : List A) (y : A) (ys : List A)
    → slice_get (xs ++ y ∷ ys) (length xs) ≡ Some y
get_behind [] y ys = refl
get_behind (x ∷ xs) y ys = get_behind xs y ys

-- an item of two lists is one of the first, or of the second
pub get_joined : {A : Type 0} (xs ys : List A) (k : ℕ) (y : A)
    → slice_get (xs ++ ys) k ≡ Some y
    → (slice_get xs k ≡ Some y) ⊎ ((j : ℕ) × (k ≡ length xs + j) × (slice_get ys j ≡ Some y))
get_joined [] ys k y is = inr (k, omega arith, is)
get_joined (x ∷ xs) ys zero y is = inl is
get_joined (x ∷ xs) ys (suc k) y is = elim (get_joined xs ys k y is) [
  | inl there ↦ inl there
  | inr (j, at, behind) ↦ inr (j, omega (arith, at), behind)
]

-- the first part and some of the second
pub take_joined : {A : Type 0} (xs ys : List A) (j : ℕ)
    → take (length xs + j) (xs ++ ys) ≡ xs ++ take j ys
take_joined [] ys j = let count : 0 + j ≡ j = omega arith in ap (λ k. take k ys) count
take_joined (x ∷ xs) ys j =
    let count : length (x ∷ xs) + j ≡ suc (length xs + j) = omega arith in
    ap (λ k. take k (x ∷ (xs ++ ys))) count ∙ ap (λ l. x ∷ l) (take_joined xs ys j)
