-- What is free depends on the blocks alone, and not on their order.
use Rattle.std.proofs.Common.{◌≡◌, inl, inr, ℕ, ◌+◌, ◌%◌, ◌<◌, ◌≤◌, Bool, true, false, not, cond, eqb, leb, ltb, ◌&&◌, List, [], ◌∷◌, max, min, Option, Some, refl, sym, ap, ◌∙◌, subst, arith}
use Rattle.std.proofs.lemmas.Bool.{cases_Bool, and_parts, and_from, false≢true, false_from_ne_true, not-true, lt-ltb}
use Rattle.std.specs.List.{Contains, count_by, list_all, find, range_with_len}
use Rattle.seg_words.specs.declared.gaps.Extent.{Extent}
use Rattle.seg_words.specs.Gaps.{meets, is_free, is_whole, fits, first_fit}
use Rattle.sma_blocks.specs.Live.{with_block}
use Rattle.entry_slots.specs.Lists.{HaveSame}
use Rattle.seg_words.specs.Members.{Contains-cases, Contains-first, Contains-later, count-cons, none_in_nil}
use Rattle.entry_slots.proofs.ExtentLists.{same_there}

all_there : {X : Type 0} (p : X → Bool) (xs : List X) (x : X) → list_all p xs ≡ true → Contains xs x → p x ≡ true
all_there p [] x h c = absurd (none_in_nil x c)
all_there p (y ∷ ys) x h c =
    let both = and_parts (p y) (list_all p ys) h in
    elim (Contains-cases y ys x c) [
      | inl here ↦ ap p (sym here) ∙ both.0
      | inr later ↦ all_there p ys x both.1 later
    ]

all_from : {X : Type 0} (p : X → Bool) (xs : List X) → ((x : X) → Contains xs x → p x ≡ true) → list_all p xs ≡ true
all_from p [] h = refl
all_from p (y ∷ ys) h = and_from (p y) (list_all p ys) (h y (Contains-first y ys)) (all_from p ys (λ x c. h x (Contains-later y ys x c)))

same_tests : (a b : Bool) → (a ≡ true → b ≡ true) → (b ≡ true → a ≡ true) → a ≡ b
same_tests true b f g = sym (f refl)
same_tests false true f g = g refl
same_tests false false f g = refl

pub same_flip : (xs ys : List Extent) → HaveSame xs ys → HaveSame ys xs
same_flip xs ys h = record { count = λ test. sym (h.count test) }

pub same_free : (a n : ℕ) (xs ys : List Extent) → HaveSame xs ys → is_free a n xs ≡ is_free a n ys
same_free a n xs ys same =
    let p : Extent → Bool = λ e. not (meets a n e) in
    same_tests (is_free a n xs) (is_free a n ys)
    (λ h. all_from p ys (λ e c. all_there p xs e h (same_there xs ys e same c)))
    (λ h. all_from p xs (λ e c. all_there p ys e h (same_there ys xs e (same_flip xs ys same) c)))

find_agree : (p q : ℕ → Bool) → ((x : ℕ) → p x ≡ q x) → (xs : List ℕ) → find p xs ≡ find q xs
find_agree p q h [] = refl
find_agree p q h (x ∷ xs) = rw (h x) (ap (λ (o : Option ℕ). cond (q x) (Some x) o) (find_agree p q h xs))

pub same_fit : (from to piece n : ℕ) (xs ys : List Extent) → HaveSame xs ys → first_fit from to piece n xs ≡ first_fit from to piece n ys
same_fit from to piece n xs ys same =
    find_agree (fits from to piece n xs) (fits from to piece n ys) (λ a. ap (λ (b : Bool). eqb (a % 2) 0 && leb from a && leb (a + n) to && b && is_whole piece a n) (same_free a n xs ys same)) (range_with_len 0 (to + 1))

find_passes : (p : ℕ → Bool) (xs : List ℕ) (x : ℕ) → find p xs ≡ Some x → p x ≡ true
find_passes p [] x h = cc
find_passes p (y ∷ ys) x h = elim (cases_Bool (p y)) [
  | inl t ↦ (let e : Some y ≡ Some x = subst (λ (b : Bool). cond b (Some y) (find p ys) ≡ Some x) t h in let same : y ≡ x = cc in ap p (sym same) ∙ t)
  | inr f ↦ find_passes p ys x (subst (λ (b : Bool). cond b (Some y) (find p ys) ≡ Some x) f h)
]

-- the words at the place are free
pub fit_free : (from to piece n at : ℕ) (xs : List Extent) → first_fit from to piece n xs ≡ Some at → is_free at n xs ≡ true
fit_free from to piece n at xs h =
    let all = and_parts (eqb (at % 2) 0 && leb from at && leb (at + n) to && is_free at n xs) (is_whole piece at n) (find_passes (fits from to piece n xs) (range_with_len 0 (to + 1)) at h) in
    (and_parts (eqb (at % 2) 0 && leb from at && leb (at + n) to) (is_free at n xs) all.0).1

-- a word of a block is not free
pub not_free : (i n : ℕ) (xs : List Extent) (e : Extent) → Contains xs e → 1 ≤ n → e.place ≤ i → i < e.place + e.size → is_free i n xs ≡ false
not_free i n xs e c some low high =
    false_from_ne_true (is_free i n xs) (λ t.
    let apart = not-true (meets i n e) (all_there (λ x. not (meets i n x)) xs e t c) in
    false≢true (sym apart ∙ lt-ltb (max i e.place) (min (i + n) (e.place + e.size)) (omega arith)))

pub count-with_block : (p : Extent → Bool) (e : Extent) (xs : List Extent) → count_by p (with_block e xs) ≡ cond (p e) 1 0 + count_by p xs
count-with_block p e [] = count-cons p e []
count-with_block p e (x ∷ xs) = elim (cases_Bool (ltb e.place x.place)) [
  | inl t ↦ rw t (count-cons p e (x ∷ xs))
  | inr f ↦ rw f (omega (arith, count-cons p x (with_block e xs), count-cons p x xs, count-with_block p e xs))
]
