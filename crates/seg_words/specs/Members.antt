-- What a list has, how often, and what a test keeps of it: facts that proofs of the crates above
-- cite.
use Rattle.std.proofs.Common.{◌≡◌, ◌⊎◌, inl, inr, ℕ, zero, suc, ◌+◌, ◌≤◌, ◌==◌, ◌&&◌, ◌||◌}
use Rattle.std.proofs.Common.{Bool, true, false, cond, List, [], ◌∷◌, ◌++◌, map}
use Rattle.std.proofs.Common.{refl, sym, ap, ◌∙◌, subst, arith}
use Rattle.std.proofs.lemmas.Bool.{or_left, or_right, or_cases, cases_Bool, false≢true}
use Rattle.std.proofs.lemmas.Bool.{eqb-true, eq-eqb, false_from_ne_true}
use Rattle.std.specs.List.{Contains, count_by, filter, flat_map, list_any}
use Rattle.std.proofs.lemmas.List.Elements.{Contains-append_right, Contains-append_cases}
use Rattle.std.proofs.lemmas.List.Sums.{sum_by-cons, sum_by-append}
use Rattle.seg_words.specs.Windows.{has}

pub none_in_nil : {X : Type 0} (x : X) → Contains [] x → ⊥
none_in_nil x c = omega (arith, c.1)

-- a member is the first one, or a later one
pub Contains-cases : {X : Type 0} (y : X) (ys : List X) (x : X) → Contains (y ∷ ys) x
    → (y ≡ x) ⊎ Contains ys x
Contains-cases y ys x (zero, h, e) = inl e
Contains-cases y ys x (suc k, h, e) = inr (k, omega arith, e)

pub Contains-first : {X : Type 0} (y : X) (ys : List X) → Contains (y ∷ ys) y
Contains-first y ys = (0, omega arith, refl)

pub Contains-later : {X : Type 0} (y : X) (ys : List X) (x : X) → Contains ys x
    → Contains (y ∷ ys) x
Contains-later y ys x c = Contains-append_right (y ∷ []) ys x c

-- how often
pub count-cons : {X : Type 0} (p : X → Bool) (x : X) (xs : List X)
    → count_by p (x ∷ xs) ≡ cond (p x) 1 0 + count_by p xs
count-cons p x xs = sum_by-cons (λ y. cond (p y) 1 0) x xs

pub count-append : {X : Type 0} (p : X → Bool) (xs ys : List X)
    → count_by p (xs ++ ys) ≡ count_by p xs + count_by p ys
count-append p xs ys = sum_by-append (λ y. cond (p y) 1 0) xs ys

-- what passes is counted
pub counted_some : {X : Type 0} (p : X → Bool) (xs : List X) (x : X) → Contains xs x → p x ≡ true
    → 1 ≤ count_by p xs
counted_some p [] x c h = absurd (none_in_nil x c)
counted_some p (y ∷ ys) x c h = elim (Contains-cases y ys x c) [
  | inl same ↦
      let one : cond {A = ℕ} (p y) 1 0 ≡ 1 = ap (λ b. cond {A = ℕ} b 1 0) (ap p same ∙ h) in
      omega (arith, count-cons p y ys)
  | inr later ↦ omega (arith, count-cons p y ys, counted_some p ys x later h)
]

-- and what is counted is a member
pub counted_there : {X : Type 0} (p : X → Bool) (xs : List X) → 1 ≤ count_by p xs
    → (x : X) × Contains xs x × (p x ≡ true)
counted_there p [] h = absurd (omega arith)
counted_there p (y ∷ ys) h = elim (cases_Bool (p y)) [
  | inl t ↦ (y, Contains-first y ys, t)
  | inr f ↦
      let none : cond {A = ℕ} (p y) 1 0 ≡ 0 = ap (λ b. cond {A = ℕ} b 1 0) f in
      let r = counted_there p ys (omega (arith, count-cons p y ys)) in
      (r.0, Contains-later y ys r.0 r.1, r.2)
]

-- the image of a member under a map, and where a member of the image comes from
pub Contains-map : {X Y : Type 0} (f : X → Y) (xs : List X) (x : X) → Contains xs x
    → Contains (map f xs) (f x)
Contains-map f [] x c = absurd (none_in_nil x c)
Contains-map f (y ∷ ys) x c = elim (Contains-cases y ys x c) [
  | inl same ↦
      subst (λ z. Contains (f y ∷ map f ys) (f z)) same (Contains-first (f y) (map f ys))
  | inr later ↦ Contains-later (f y) (map f ys) (f x) (Contains-map f ys x later)
]

pub map_there : {X Y : Type 0} (f : X → Y) (xs : List X) (y : Y) → Contains (map f xs) y
    → (x : X) × Contains xs x × (f x ≡ y)
map_there f [] y c = absurd (none_in_nil y c)
map_there f (x ∷ xs) y c = elim (Contains-cases (f x) (map f xs) y c) [
  | inl same ↦ (x, Contains-first x xs, same)
  | inr later ↦ let r = map_there f xs y later in (r.0, Contains-later x xs r.0 r.1, r.2)
]

pub flat_there : {X Y : Type 0} (f : X → List Y) (xs : List X) (y : Y)
    → Contains (flat_map f xs) y → (x : X) × Contains (f x) y
flat_there f [] y c = absurd (none_in_nil y c)
flat_there f (x ∷ xs) y c = elim (Contains-append_cases (f x) (flat_map f xs) y c) [
  | inl here ↦ (x, here)
  | inr later ↦ flat_there f xs y later
]

-- a member of what a test keeps passes it, and the converse
pub Contains-filter : {X : Type 0} (p : X → Bool) (xs : List X) (x : X)
    → Contains (filter p xs) x → Contains xs x × (p x ≡ true)
Contains-filter p [] x c = absurd (none_in_nil x c)
Contains-filter p (y ∷ ys) x c =
    elim (cases_Bool (p y)) [
      | inl t ↦ elim (Contains-cases y (filter p ys) x (subst left t c)) [
        | inl same ↦
            (subst (λ z. Contains (y ∷ ys) z) same (Contains-first y ys), ap p (sym same) ∙ t)
        | inr later ↦ let r = Contains-filter p ys x later in (Contains-later y ys x r.0, r.1)
      ]
      | inr f ↦
          let r = Contains-filter p ys x (subst left f c) in (Contains-later y ys x r.0, r.1)
    ]
  where
    left : Bool → Type 0
    left b = Contains (cond b (y ∷ filter p ys) (filter p ys)) x

pub Contains-kept : {X : Type 0} (p : X → Bool) (xs : List X) (x : X) → Contains xs x
    → p x ≡ true → Contains (filter p xs) x
Contains-kept p [] x c h = absurd (none_in_nil x c)
Contains-kept p (y ∷ ys) x c h = elim (cases_Bool (p y)) [
  | inl t ↦ rw t (elim (Contains-cases y ys x c) [
    | inl same ↦ subst (λ z. Contains (y ∷ filter p ys) z) same (Contains-first y (filter p ys))
    | inr later ↦ Contains-later y (filter p ys) x (Contains-kept p ys x later h)
  ])
  | inr f ↦ rw f (elim (Contains-cases y ys x c) [
    | inl same ↦ absurd (false≢true (sym f ∙ (ap p same ∙ h)))
    | inr later ↦ Contains-kept p ys x later h
  ])
]

-- some member passes
pub any_there : {X : Type 0} (p : X → Bool) (xs : List X) → list_any p xs ≡ true
    → (x : X) × Contains xs x × (p x ≡ true)
any_there p [] h = absurd (false≢true h)
any_there p (y ∷ ys) h = elim (cases_Bool (p y)) [
  | inl t ↦ (y, Contains-first y ys, t)
  | inr f ↦
      let later : list_any p ys ≡ true = elim (or_cases (p y) (list_any p ys) h) [
        | inl t ↦ absurd (false≢true (sym f ∙ t))
        | inr later ↦ later
      ] in
      let r = any_there p ys later in
      (r.0, Contains-later y ys r.0 r.1, r.2)
]

pub any_from : {X : Type 0} (p : X → Bool) (xs : List X) (x : X) → Contains xs x → p x ≡ true
    → list_any p xs ≡ true
any_from p [] x c h = absurd (none_in_nil x c)
any_from p (y ∷ ys) x c h = elim (Contains-cases y ys x c) [
  | inl same ↦ or_left (p y) (list_any p ys) (ap p same ∙ h)
  | inr later ↦ or_right (p y) (list_any p ys) (any_from p ys x later h)
]

-- what is not counted is no member
pub none_counted : {X : Type 0} (p : X → Bool) (xs : List X) → count_by p xs ≤ 0
    → list_any p xs ≡ false
none_counted p xs h =
    false_from_ne_true (list_any p xs) (λ t.
    let r = any_there p xs t in omega (arith, h, counted_some p xs r.0 r.1 r.2))

-- two tests that agree on the members keep the same ones
pub filter_alike : {X : Type 0} (p q : X → Bool) (xs : List X)
    → ((x : X) → Contains xs x → p x ≡ q x) → filter p xs ≡ filter q xs
filter_alike p q [] h = refl
filter_alike p q (x ∷ xs) h =
    ap (λ b. cond b (x ∷ filter p xs) (filter p xs)) (h x (Contains-first x xs))
    ∙ ap (λ l. cond (q x) (x ∷ l) l) (filter_alike p q xs (λ y c. h y (Contains-later x xs y c)))

pub filter_all : {X : Type 0} (p : X → Bool) (xs : List X)
    → ((x : X) → Contains xs x → p x ≡ true) → filter p xs ≡ xs
filter_all p [] h = refl
filter_all p (x ∷ xs) h =
    ap (λ b. cond b (x ∷ filter p xs) (filter p xs)) (h x (Contains-first x xs))
    ∙ ap (λ l. x ∷ l) (filter_all p xs (λ y c. h y (Contains-later x xs y c)))

pub filter_none : {X : Type 0} (p : X → Bool) (xs : List X)
    → ((x : X) → Contains xs x → p x ≡ false) → filter p xs ≡ []
filter_none p [] h = refl
filter_none p (x ∷ xs) h =
    ap (λ b. cond b (x ∷ filter p xs) (filter p xs)) (h x (Contains-first x xs))
    ∙ filter_none p xs (λ y c. h y (Contains-later x xs y c))

-- one test after another
pub filter_then : {X : Type 0} (p q : X → Bool) (xs : List X)
    → filter q (filter p xs) ≡ filter (λ x. p x && q x) xs
filter_then p q [] = refl
filter_then p q (x ∷ xs) = go (p x) (filter_then p q xs)
  where
    go : (b : Bool) → filter q (filter p xs) ≡ filter (λ x. p x && q x) xs
        → filter q (cond b (x ∷ filter p xs) (filter p xs))
        ≡ cond (b && q x) (x ∷ filter (λ x. p x && q x) xs) (filter (λ x. p x && q x) xs)
    go true e = ap (λ l. cond (q x) (x ∷ l) l) e
    go false e = e

-- whether a place is in a list, by std's search
flip : (a b : ℕ) → (a == b) ≡ (b == a)
flip a b = elim (cases_Bool (a == b)) [
  | inl t ↦ t ∙ sym (eq-eqb b a (sym (eqb-true a b t)))
  | inr f ↦
      f ∙ sym (false_from_ne_true (b == a) (λ t.
      false≢true (sym f ∙ eq-eqb a b (sym (eqb-true b a t)))))
]

pub any_has : (x : ℕ) (l : List ℕ) → list_any (λ p. p == x) l ≡ has x l
any_has x [] = refl
any_has x (y ∷ ys) =
    ap (λ b. b || list_any (λ p. p == x) ys) (flip y x) ∙ ap (λ b. (x == y) || b) (any_has x ys)
