-- What is found, and what is counted, in lists that a test filters or a change maps.
use Rattle.std.proofs.Common.{◌≡◌, inl, inr, Bool, true, false, cond, List, [], ◌∷◌, ◌++◌, map, filter, Some, None, option_map, refl, sym, ap, ◌∙◌, subst}
use Rattle.std.specs.Prelude.{find, Contains}
use Rattle.std.specs.List.{list_all, list_any}
use Rattle.std.proofs.lemmas.Bool.{and_parts, and_from, or_parts, cases_Bool, false≢true, false_from_ne_true}
use Rattle.seg_words.specs.Members.{Contains-cases, Contains-first, Contains-later, none_in_nil}

-- ---- found

-- what is found passes
pub found_passes : {X : Type 0} (p : X → Bool) (xs : List X) (x : X) → find p xs ≡ Some x → Contains xs x × (p x ≡ true)
found_passes p [] x h = absurd (cc h)
found_passes p (y ∷ ys) x h = go (p y) refl (found_passes p ys x) h
  where
    go : (b : Bool) → p y ≡ b → (find p ys ≡ Some x → Contains ys x × (p x ≡ true)) → cond b (Some y) (find p ys) ≡ Some x → Contains (y ∷ ys) x × (p x ≡ true)
    go true is later q = let e : y ≡ x = cc q in (subst (λ z. Contains (y ∷ ys) z) e (Contains-first y ys), ap p (sym e) ∙ is)
    go false is later q = let k = later q in (Contains-later y ys x k.0, k.1)

-- a test under which nothing of what is looked for falls away
pub find-kept : {X : Type 0} (p q : X → Bool) (xs : List X) → ((x : X) → Contains xs x → p x ≡ true → q x ≡ true) → find p (filter q xs) ≡ find p xs
find-kept p q [] h = refl
find-kept p q (x ∷ xs) h =
    let rest = find-kept p q xs (λ y c. h y (Contains-later x xs y c)) in
    elim (cases_Bool (q x)) [
      | inl stay ↦ rw stay (ap (λ o. cond (p x) (Some x) o) rest)
      | inr lost ↦
          let other : p x ≡ false = false_from_ne_true (p x) (λ t. false≢true (sym lost ∙ h x (Contains-first x xs) t)) in
          rw (lost, other) rest
    ]

pub find-filter : {X : Type 0} (p q : X → Bool) (xs : List X) → ((x : X) → p x ≡ true → q x ≡ true) → find p (filter q xs) ≡ find p xs
find-filter p q xs h = find-kept p q xs (λ x c. h x)

-- a test under which all of it does
pub find-gone : {X : Type 0} (p q : X → Bool) (xs : List X) → ((x : X) → p x ≡ true → q x ≡ false) → find p (filter q xs) ≡ None
find-gone p q [] h = refl
find-gone p q (x ∷ xs) h = elim (cases_Bool (q x)) [
  | inl stay ↦
      let other : p x ≡ false = false_from_ne_true (p x) (λ t. false≢true (sym (h x t) ∙ stay)) in
      rw (stay, other) (find-gone p q xs h)
  | inr lost ↦ rw lost (find-gone p q xs h)
]

pub find_none : {X : Type 0} (p : X → Bool) (xs : List X) → ((x : X) → Contains xs x → p x ≡ false) → find p xs ≡ None
find_none p [] h = refl
find_none p (x ∷ xs) h = rw (h x (Contains-first x xs)) (find_none p xs (λ y c. h y (Contains-later x xs y c)))

pub find_alike : {X : Type 0} (p q : X → Bool) (xs : List X) → ((x : X) → p x ≡ q x) → find p xs ≡ find q xs
find_alike p q [] h = refl
find_alike p q (x ∷ xs) h = rw (h x, find_alike p q xs h) refl

-- a change that keeps what is looked at
pub find-map : {X Y : Type 0} (p : X → Bool) (view : X → Y) (f : X → X) (xs : List X) → ((x : X) → p (f x) ≡ p x) → ((x : X) → p x ≡ true → view (f x) ≡ view x)
    → option_map view (find p (map f xs)) ≡ option_map view (find p xs)
find-map p view f [] keeps same = refl
find-map p view f (x ∷ xs) keeps same = elim (cases_Bool (p x)) [
  | inl stay ↦ rw (keeps x, stay) (ap Some (same x stay))
  | inr lost ↦ rw (keeps x, lost) (find-map p view f xs keeps same)
]

-- ---- all

pub all-filter : {X : Type 0} (p q : X → Bool) (xs : List X) → list_all p xs ≡ true → list_all p (filter q xs) ≡ true
all-filter p q [] h = refl
all-filter p q (x ∷ xs) h =
    let parts = and_parts (p x) (list_all p xs) h in
    elim (cases_Bool (q x)) [
      | inl stay ↦ rw stay (and_from (p x) (list_all p (filter q xs)) parts.0 (all-filter p q xs parts.1))
      | inr lost ↦ rw lost (all-filter p q xs parts.1)
    ]

pub all-map : {X Y : Type 0} (p : Y → Bool) (q : X → Bool) (f : X → Y) (xs : List X) → ((x : X) → q x ≡ true → p (f x) ≡ true) → list_all q xs ≡ true → list_all p (map f xs) ≡ true
all-map p q f [] h all = refl
all-map p q f (x ∷ xs) h all =
    let parts = and_parts (q x) (list_all q xs) all in
    and_from (p (f x)) (list_all p (map f xs)) (h x parts.0) (all-map p q f xs h parts.1)

pub all-push : {X : Type 0} (p : X → Bool) (xs : List X) (y : X) → list_all p xs ≡ true → p y ≡ true → list_all p (xs ++ y ∷ []) ≡ true
all-push p [] y all h = and_from (p y) true h refl
all-push p (x ∷ xs) y all h =
    let parts = and_parts (p x) (list_all p xs) all in
    and_from (p x) (list_all p (xs ++ y ∷ [])) parts.0 (all-push p xs y parts.1 h)

pub all_there : {X : Type 0} (p : X → Bool) (xs : List X) (x : X) → list_all p xs ≡ true → Contains xs x → p x ≡ true
all_there p [] x all c = absurd (none_in_nil x c)
all_there p (y ∷ ys) x all c =
    let parts = and_parts (p y) (list_all p ys) all in
    elim (Contains-cases y ys x c) [
      | inl same ↦ ap p (sym same) ∙ parts.0
      | inr later ↦ all_there p ys x parts.1 later
    ]

-- none of some passes a test
pub none_there : {X : Type 0} (p : X → Bool) (xs : List X) (x : X) → list_any p xs ≡ false → Contains xs x → p x ≡ false
none_there p [] x none c = absurd (none_in_nil x c)
none_there p (y ∷ ys) x none c =
    let parts = or_parts (p y) (list_any p ys) none in
    elim (Contains-cases y ys x c) [ inl same ↦ ap p (sym same) ∙ parts.0 | inr later ↦ none_there p ys x parts.1 later ]
