-- Two lists that have the same, none of it twice, have as much of it as another.
use Rattle.std.proofs.Common.{◌≡◌, inl, inr, ℕ, zero, suc, ◌+◌, ◌-◌, ◌==◌, ◌&&◌, ◌||◌, Bool, true, false, not, cond, List, [], ◌∷◌, length, map, filter, Some, is_some, refl, sym, ap, ◌∙◌, subst, arith}
use Rattle.std.specs.Prelude.{count_by, Contains, find, nat_le, nat_lt}
use Rattle.std.specs.List.{flat_map, range_with_len, list_any}
use Rattle.std.specs.Str.{bytes_eq}
use Rattle.std.proofs.lemmas.Bool.{and_parts, and_from, or_parts, or_from, not-true, not_from_false, cases_Bool, cases_lt, eq-eqb, ne_eqb, false≢true, false_from_ne_true, le-leb, lt-leb, lt-ltb, le-ltb}
use Rattle.std.proofs.lemmas.List.{length-append}
use Rattle.std.proofs.lemmas.List.Sums.{length-filter}
use Rattle.std.proofs.lemmas.Slice.Eq.{bytes_eq-Decides}
use Rattle.seg_words.specs.Members.{count-cons, filter_then, any_there, filter_alike}

-- ---- keys

abbrev pub has_one : List ℕ → List (List ℕ) → Bool
has_one key keys = list_any (λ k. bytes_eq k key) keys

-- no key occurs twice
abbrev pub differ : List (List ℕ) → Bool
differ [] = true
differ (key ∷ keys) = not (has_one key keys) && differ keys

abbrev others : List ℕ → List (List ℕ) → List (List ℕ)
others key keys = filter (λ k. not (bytes_eq k key)) keys

same_key : (a b : List ℕ) → bytes_eq a b ≡ true → a ≡ b
same_key a b h = (bytes_eq-Decides a b).0 h

key_same : (a b : List ℕ) → a ≡ b → bytes_eq a b ≡ true
key_same a b e = (bytes_eq-Decides a b).1 e

-- where it does not stand, nothing goes
all_others : (key : List ℕ) (keys : List (List ℕ)) → has_one key keys ≡ false → others key keys ≡ keys
all_others key [] none = refl
all_others key (x ∷ xs) none =
    let parts = or_parts (bytes_eq x key) (has_one key xs) none in
    rw parts.0 (ap (λ (l : List (List ℕ)). x ∷ l) (all_others key xs parts.1))

not_there : (key : List ℕ) (keys : List (List ℕ)) → has_one key (others key keys) ≡ false
not_there key [] = refl
not_there key (x ∷ xs) = elim (cases_Bool (bytes_eq x key)) [
  | inl here ↦ rw here (not_there key xs)
  | inr apart ↦ rw (apart, apart) (not_there key xs)
]

still_there : (key gone : List ℕ) (keys : List (List ℕ)) → (gone ≡ key → ⊥) → has_one key (others gone keys) ≡ has_one key keys
still_there key gone [] other = refl
still_there key gone (x ∷ xs) other = elim (cases_Bool (bytes_eq x gone)) [
  | inl here ↦
      let apart : bytes_eq x key ≡ false = false_from_ne_true (bytes_eq x key) (λ e. other (sym (same_key x gone here) ∙ same_key x key e)) in
      rw (here, apart) (still_there key gone xs other)
  | inr stay ↦ rw stay (ap (λ b. bytes_eq x key || b) (still_there key gone xs other))
]

differ_others : (gone : List ℕ) (keys : List (List ℕ)) → differ keys ≡ true → differ (others gone keys) ≡ true
differ_others gone [] h = refl
differ_others gone (x ∷ xs) h =
    let parts = and_parts (not (has_one x xs)) (differ xs) h in
    elim (cases_Bool (bytes_eq x gone)) [
      | inl here ↦ rw here (differ_others gone xs parts.1)
      | inr stay ↦
          let apart : gone ≡ x → ⊥ = λ e. false≢true (sym stay ∙ key_same x gone (sym e)) in
          rw stay (and_from (not (has_one x (others gone xs))) (differ (others gone xs))
          (not_from_false (has_one x (others gone xs)) (still_there x gone xs apart ∙ not-true (has_one x xs) parts.0)) (differ_others gone xs parts.1))
    ]

-- one that occurs is counted once
counted_once : (q : List ℕ → Bool) (key : List ℕ) (keys : List (List ℕ)) → differ keys ≡ true → has_one key keys ≡ true → count_by q keys ≡ cond (q key) 1 0 + count_by q (others key keys)
counted_once q key [] h there = absurd (false≢true there)
counted_once q key (x ∷ xs) h there =
    let parts = and_parts (not (has_one x xs)) (differ xs) h in
    elim (cases_Bool (bytes_eq x key)) [
      | inl here ↦
          let same : x ≡ key = same_key x key here in
          let none : has_one key xs ≡ false = subst (λ k. has_one k xs ≡ false) same (not-true (has_one x xs) parts.0) in
          rw (here, all_others key xs none) (count-cons q x xs ∙ ap (λ k. cond {A = ℕ} (q k) 1 0 + count_by q xs) same)
      | inr stay ↦
          let later : has_one key xs ≡ true = rw stay at there in
          let more = counted_once q key xs parts.1 later in
          let left = count-cons q x (others key xs) in
          rw stay (omega (arith, count-cons q x xs, more, left))
    ]

pub same_count : (q : List ℕ → Bool) (xs ys : List (List ℕ)) → differ xs ≡ true → differ ys ≡ true → ((key : List ℕ) → has_one key xs ≡ has_one key ys) → count_by q xs ≡ count_by q ys
same_count q [] [] h k same = refl
same_count q [] (y ∷ ys) h k same = absurd (false≢true (same y ∙ first))
  where
    first : has_one y (y ∷ ys) ≡ true
    first = rw (key_same y y refl) refl
same_count q (x ∷ xs) ys h k same =
    let parts = and_parts (not (has_one x xs)) (differ xs) h in
    let none = not-true (has_one x xs) parts.0 in
    let first : has_one x (x ∷ xs) ≡ true = rw (key_same x x refl) refl in
    let there : has_one x ys ≡ true = sym (same x) ∙ first in
    let rest : (key : List ℕ) → has_one key xs ≡ has_one key (others x ys) = λ key. elim (cases_Bool (bytes_eq x key)) [
      | inl here ↦
          let e = same_key x key here in
          subst (λ k. has_one k xs ≡ has_one k (others x ys)) e (none ∙ sym (not_there x ys))
      | inr apart ↦
          let past : has_one key xs ≡ has_one key ys = rw apart at (same key) in
          past ∙ sym (still_there key x ys (λ e. false≢true (sym apart ∙ key_same x key e)))
    ] in
    let later = same_count q xs (others x ys) parts.1 (differ_others x ys k) rest in
    omega (arith, count-cons q x xs, counted_once q x ys k there, later)

-- ---- the keys of what passes a test

module _ {X : Type 0} (view : X → List ℕ) (test : X → Bool) where
  pub has_kept : (key : List ℕ) (xs : List X) → has_one key (map view (filter test xs)) ≡ list_any (λ x. test x && bytes_eq (view x) key) xs
  has_kept key [] = refl
  has_kept key (x ∷ xs) = elim (cases_Bool (test x)) [
    | inl stay ↦ rw stay (ap (λ b. bytes_eq (view x) key || b) (has_kept key xs))
    | inr lost ↦ rw lost (has_kept key xs)
  ]

  none_kept : (key : List ℕ) (xs : List X) → has_one key (map view xs) ≡ false → has_one key (map view (filter test xs)) ≡ false
  none_kept key [] none = refl
  none_kept key (x ∷ xs) none =
      let parts = or_parts (bytes_eq (view x) key) (has_one key (map view xs)) none in
      elim (cases_Bool (test x)) [
        | inl stay ↦ rw stay (or_from (bytes_eq (view x) key) (has_one key (map view (filter test xs))) parts.0 (none_kept key xs parts.1))
        | inr lost ↦ rw lost (none_kept key xs parts.1)
      ]

  pub differ_kept : (xs : List X) → differ (map view xs) ≡ true → differ (map view (filter test xs)) ≡ true
  differ_kept [] h = refl
  differ_kept (x ∷ xs) h =
      let parts = and_parts (not (has_one (view x) (map view xs))) (differ (map view xs)) h in
      elim (cases_Bool (test x)) [
        | inl stay ↦
            rw stay (and_from (not (has_one (view x) (map view (filter test xs)))) (differ (map view (filter test xs)))
            (not_from_false (has_one (view x) (map view (filter test xs))) (none_kept (view x) xs (not-true (has_one (view x) (map view xs)) parts.0))) (differ_kept xs parts.1))
        | inr lost ↦ rw lost (differ_kept xs parts.1)
      ]

  pub count_kept : (q : List ℕ → Bool) (xs : List X) → count_by q (map view (filter test xs)) ≡ count_by (λ x. test x && q (view x)) xs
  count_kept q [] = refl
  count_kept q (x ∷ xs) = go (test x) refl (count_kept q xs)
    where
      go : (b : Bool) → test x ≡ b → count_by q (map view (filter test xs)) ≡ count_by (λ x. test x && q (view x)) xs
          → count_by q (map view (cond b (x ∷ filter test xs) (filter test xs))) ≡ count_by (λ x. test x && q (view x)) (x ∷ xs)
      go true is later =
          let one : cond {A = ℕ} (test x && q (view x)) 1 0 ≡ cond (q (view x)) 1 0 = ap (λ b. cond {A = ℕ} (b && q (view x)) 1 0) is in
          omega (arith, count-cons q (view x) (map view (filter test xs)), count-cons (λ x. test x && q (view x)) x xs, one, later)
      go false is later =
          let none : cond {A = ℕ} (test x && q (view x)) 1 0 ≡ 0 = ap (λ b. cond {A = ℕ} (b && q (view x)) 1 0) is in
          omega (arith, count-cons (λ x. test x && q (view x)) x xs, none, later)

-- some passes exactly if one is found
pub any_found : {X : Type 0} (p : X → Bool) (xs : List X) → list_any p xs ≡ is_some (find p xs)
any_found p [] = refl
any_found p (x ∷ xs) = go (p x) (any_found p xs)
  where
    go : (b : Bool) → list_any p xs ≡ is_some (find p xs) → (b || list_any p xs) ≡ is_some (cond b (Some x) (find p xs))
    go true later = refl
    go false later = later

pub none_found : {X : Type 0} (p : X → Bool) (xs : List X) → ((x : X) → Contains xs x → p x ≡ true → ⊥) → list_any p xs ≡ false
none_found p xs none = false_from_ne_true (list_any p xs) (λ h. let r = any_there p xs h in none r.0 r.1 r.2)

-- ---- a range of slots

pub count_alike : {X : Type 0} (p q : X → Bool) (xs : List X) → ((x : X) → p x ≡ q x) → count_by p xs ≡ count_by q xs
count_alike p q xs same =
    sym (length-filter p xs) ∙ (ap length (filter_alike p q xs (λ x c. same x)) ∙ length-filter q xs)

count_sum : {X : Type 0} (p q r : X → Bool) (xs : List X) → ((x : X) → cond {A = ℕ} (p x) 1 0 ≡ cond (q x) 1 0 + cond (r x) 1 0) → count_by p xs ≡ count_by q xs + count_by r xs
count_sum p q r [] h = refl
count_sum p q r (x ∷ xs) h = omega (arith, count-cons p x xs, count-cons q x xs, count-cons r x xs, h x, count_sum p q r xs h)

count_none : {X : Type 0} (p : X → Bool) (xs : List X) → ((x : X) → p x ≡ false) → count_by p xs ≡ 0
count_none p [] none = refl
count_none p (x ∷ xs) none =
    let here : cond {A = ℕ} (p x) 1 0 ≡ 0 = ap (λ b. cond {A = ℕ} b 1 0) (none x) in
    omega (arith, count-cons p x xs, here, count_none p xs none)

nothing_in : (i : Bool) (from s : ℕ) → (i && (nat_le from s && nat_lt s (from + 0))) ≡ false
nothing_in false from s = refl
nothing_in true from s = elim (cases_lt s from) [
  | inl less ↦ rw (lt-leb from s less) refl
  | inr most ↦ rw (le-ltb s (from + 0) (omega (arith, most))) (and_false (nat_le from s))
]
  where
    and_false : (b : Bool) → (b && false) ≡ false
    and_false true = refl
    and_false false = refl

one_slot : (i : Bool) (from n s : ℕ) → cond {A = ℕ} (i && (nat_le from s && nat_lt s (from + suc n))) 1 0
    ≡ cond ((s == from) && i) 1 0 + cond (i && (nat_le (from + 1) s && nat_lt s (from + 1 + n))) 1 0
one_slot false from n s = elim (cases_Bool (s == from)) [ inl t ↦ rw t refl | inr f ↦ rw f refl ]
one_slot true from n s = elim (cases_lt s from) [
  | inl less ↦
      rw (lt-leb from s less, lt-leb (from + 1) s (omega (arith, less)), ne_eqb s from (λ e. omega (arith, e, less))) refl
  | inr most ↦ elim (cases_lt from s) [
    | inl more ↦ elim (cases_lt s (from + suc n)) [
      | inl inner ↦
          rw (le-leb from s most, lt-ltb s (from + suc n) inner, ne_eqb s from (λ e. omega (arith, e, more)), le-leb (from + 1) s (omega (arith, more)), lt-ltb s (from + 1 + n) (omega (arith, inner))) refl
      | inr outer ↦
          rw (le-leb from s most, le-ltb s (from + suc n) outer, ne_eqb s from (λ e. omega (arith, e, more)), le-leb (from + 1) s (omega (arith, more)), le-ltb s (from + 1 + n) (omega (arith, outer))) refl
    ]
    | inr same ↦
        let is : s ≡ from = omega (arith, most, same) in
        rw (le-leb from s most, lt-ltb s (from + suc n) (omega (arith, is)), eq-eqb s from is, lt-leb (from + 1) s (omega (arith, is))) refl
  ]
]

-- what stands in some slots, slot by slot, is what has one of them
pub counted_slots : {X : Type 0} (slot : X → ℕ) (test : X → Bool) (xs : List X) (from n : ℕ)
    → length (flat_map (λ k. filter test (filter (λ x. slot x == k) xs)) (range_with_len from n)) ≡ count_by (λ x. test x && (nat_le from (slot x) && nat_lt (slot x) (from + n))) xs
counted_slots slot test xs from zero = sym (count_none (λ x. test x && (nat_le from (slot x) && nat_lt (slot x) (from + 0))) xs (λ x. nothing_in (test x) from (slot x)))
counted_slots slot test xs from (suc n) =
    let first = filter test (filter (λ x. slot x == from) xs) in
    let later = flat_map (λ k. filter test (filter (λ x. slot x == k) xs)) (range_with_len (from + 1) n) in
    let here : length first ≡ count_by (λ x. slot x == from && test x) xs = ap length (filter_then (λ x. slot x == from) test xs) ∙ length-filter (λ x. slot x == from && test x) xs in
    let whole = count_sum (λ x. test x && (nat_le from (slot x) && nat_lt (slot x) (from + suc n))) (λ x. slot x == from && test x)
    (λ x. test x && (nat_le (from + 1) (slot x) && nat_lt (slot x) (from + 1 + n))) xs (λ x. one_slot (test x) from n (slot x)) in
    omega (arith, length-append first later, here, counted_slots slot test xs (from + 1) n, whole)

-- up to a slot
pub up_to_slot : (from upto s : ℕ) → (nat_le from s && nat_lt s (from + (upto - from))) ≡ (nat_le from s && nat_lt s upto)
up_to_slot from upto s = elim (cases_lt s from) [
  | inl less ↦ rw (lt-leb from s less) refl
  | inr most ↦ elim (cases_lt s upto) [
    | inl inner ↦ rw (lt-ltb s upto inner, lt-ltb s (from + (upto - from)) (omega (arith, most, inner))) refl
    | inr outer ↦ rw (le-ltb s upto outer, le-ltb s (from + (upto - from)) (omega (arith, most, outer))) refl
  ]
]
