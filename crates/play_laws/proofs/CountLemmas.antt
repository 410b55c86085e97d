-- How many there can be: of things that each have another name of a list, and of counts in parts.
use Rattle.std.proofs.Common.{◌≡◌, inl, inr, ℕ, ◌+◌, ◌<◌, ◌≤◌, ◌||◌, Bool, true, false, not, cond, List, [], ◌∷◌, length, map, filter, refl, sym, ap, ◌∙◌, arith}
use Rattle.std.specs.List.{Contains, count_by}
use Rattle.std.proofs.lemmas.Bool.{cases_Bool, false≢true}
use Rattle.std.proofs.lemmas.List.Folds.{fold-map}
use Rattle.seg_words.specs.Members.{Contains-cases, Contains-first, Contains-later, Contains-filter, none_in_nil, count-cons}

pub at_most : (b : Bool) → cond {A = ℕ} b 1 0 ≤ 1
at_most true = omega arith
at_most false = omega arith

pub count-map : {X Y : Type 0} (p : Y → Bool) (f : X → Y) (xs : List X) → count_by p (map f xs) ≡ count_by (λ x. p (f x)) xs
count-map p f xs = fold-map (λ (n : ℕ) y. n + cond (p y) 1 0) f 0 xs

pub count_alike : {X : Type 0} (p q : X → Bool) (xs : List X) → ((x : X) → p x ≡ q x) → count_by p xs ≡ count_by q xs
count_alike p q [] same = refl
count_alike p q (x ∷ xs) same =
    let one : cond {A = ℕ} (p x) 1 0 ≡ cond {A = ℕ} (q x) 1 0 = ap (λ b. cond {A = ℕ} b 1 0) (same x) in
    omega (arith, count-cons p x xs, count-cons q x xs, one, count_alike p q xs same)

pub count_none : {X : Type 0} (p : X → Bool) (xs : List X) → ((x : X) → Contains xs x → p x ≡ false) → count_by p xs ≡ 0
count_none p [] none = refl
count_none p (x ∷ xs) none =
    let one : cond {A = ℕ} (p x) 1 0 ≡ 0 = ap (λ b. cond {A = ℕ} b 1 0) (none x (Contains-first x xs)) in
    omega (arith, count-cons p x xs, one, count_none p xs (λ y c. none y (Contains-later x xs y c)))

-- where each that is counted first is counted in one of two other ways
pub count_or : {X : Type 0} (p q r : X → Bool) (xs : List X) → ((x : X) → p x ≡ (q x || r x)) → count_by p xs ≤ count_by q xs + count_by r xs
count_or p q r [] same = omega arith
count_or p q r (x ∷ xs) same =
    let one : cond {A = ℕ} (p x) 1 0 ≡ cond {A = ℕ} (q x || r x) 1 0 = ap (λ b. cond {A = ℕ} b 1 0) (same x) in
    omega (arith, count-cons p x xs, count-cons q x xs, count-cons r x xs, one, either (q x) (r x), count_or p q r xs same)
  where
    either : (a b : Bool) → cond {A = ℕ} (a || b) 1 0 ≤ cond {A = ℕ} a 1 0 + cond {A = ℕ} b 1 0
    either true b = omega arith
    either false b = omega arith

-- what a test keeps, and what it does not
pub count_both : {X : Type 0} (p q : X → Bool) (xs : List X) → count_by p (filter q xs) + count_by p (filter (λ x. not (q x)) xs) ≡ count_by p xs
count_both {X = X} p q [] = refl
count_both {X = X} p q (x ∷ xs) = go (q x) (count_both p q xs)
  where
    passed : List X
    passed = filter q xs

    others : List X
    others = filter (λ x. not (q x)) xs

    go : (b : Bool) → count_by p passed + count_by p others ≡ count_by p xs → count_by p (cond b (x ∷ passed) passed) + count_by p (cond (not b) (x ∷ others) others) ≡ count_by p (x ∷ xs)
    go true h = omega (arith, h, count-cons p x xs, count-cons p x passed)
    go false h = omega (arith, h, count-cons p x xs, count-cons p x others)

pub count_filter : {X : Type 0} (p q : X → Bool) (xs : List X) → count_by p (filter q xs) ≤ count_by p xs
count_filter p q xs = omega (arith, count_both p q xs)

-- one more than are counted: some one is not
pub missing : {X : Type 0} (p : X → Bool) (xs : List X) → count_by p xs < length xs → (x : X) × Contains xs x × (p x ≡ false)
missing p [] h = absurd (omega (arith, h))
missing p (x ∷ xs) h = elim (cases_Bool (p x)) [
  | inl t ↦
      let one : cond {A = ℕ} (p x) 1 0 ≡ 1 = ap (λ b. cond {A = ℕ} b 1 0) t in
      let r = missing p xs (omega (arith, h, count-cons p x xs, one)) in
      (r.0, Contains-later x xs r.0 r.1, r.2)
  | inr f ↦ (x, Contains-first x xs, f)
]

length_both : {X : Type 0} (q : X → Bool) (xs : List X) → count_by q xs + length (filter (λ x. not (q x)) xs) ≡ length xs
length_both {X = X} q [] = refl
length_both {X = X} q (x ∷ xs) = go (q x) refl (length_both q xs)
  where
    others : List X
    others = filter (λ x. not (q x)) xs

    go : (b : Bool) → q x ≡ b → count_by q xs + length others ≡ length xs → count_by q (x ∷ xs) + length (cond (not b) (x ∷ others) others) ≡ length (x ∷ xs)
    go true e h =
        let one : cond {A = ℕ} (q x) 1 0 ≡ 1 = ap (λ b. cond {A = ℕ} b 1 0) e in
        omega (arith, h, one, count-cons q x xs)
    go false e h =
        let one : cond {A = ℕ} (q x) 1 0 ≡ 0 = ap (λ b. cond {A = ℕ} b 1 0) e in
        omega (arith, h, one, count-cons q x xs)

-- each has a name of a list, and no two have one name: so there are no more than names
pub pigeons : {X Y : Type 0} (has : Y → X → Bool) (ys : List Y) (xs : List X) → ((x : X) → Contains xs x → (y : Y) × Contains ys y × (has y x ≡ true)) → ((y : Y) → count_by (has y) xs ≤ 1) → length xs ≤ length ys
pigeons has [] [] named single = omega arith
pigeons has [] (x ∷ xs) named single = let r = named x (Contains-first x xs) in absurd (none_in_nil r.0 r.1)
pigeons has (y ∷ ys) xs named single =
    let others = filter (λ x. not (has y x)) xs in
    let rest = pigeons has ys others
    (λ x c.
    let k = Contains-filter (λ z. not (has y z)) xs x c in
    let r = named x k.0 in
    elim (Contains-cases y ys r.0 r.1) [
      | inl same ↦ absurd (false≢true (sym (ap not (ap (λ z. has z x) same ∙ r.2)) ∙ k.1))
      | inr later ↦ (r.0, later, r.2)
    ])
    (λ z. omega (arith, single z, count_filter (has z) (λ x. not (has y x)) xs)) in
    omega (arith, rest, length_both (has y) xs, single y)
