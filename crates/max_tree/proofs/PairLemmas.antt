-- Pairs of even numbers, of which one is 0 or the first is 2, as one number each.
use Rattle.std.proofs.Common.{◌≡◌, ◌≢◌, ◌⊎◌, inl, inr, ℕ, zero, suc, ◌+◌, ◌-◌, ◌*◌, ◌/◌, ◌%◌, ◌<◌, ◌≤◌, max, min, cond, true, false, eqb, Bool, List, [], ◌∷◌, length, get_or, set, Some, None, refl, sym, ap, ap₂, ◌∙◌, subst, arith}
use Rattle.std.specs.Prelude.{nat_le}
use Rattle.std.specs.List.{position}
use Rattle.std.proofs.lemmas.Bool.{cases_lt, cases_eq, eq-eqb, ne_eqb, leb-true, leb-false, le-leb, lt-leb}
use Rattle.std.proofs.lemmas.List.{length-set, get_or-set_same, get_or-set_other}
use Rattle.std.proofs.lemmas.List.Quantifiers.{position-Some}
use Rattle.max_tree.specs.Halves.{half, halves_of, other_half, IsPair}
use Rattle.max_tree.specs.Pages.{largest}
use Rattle.max_tree.proofs.Largest.{largest_bound}
use Rattle.max_tree.proofs.Positions.{position_found, position_none, IsLastBefore}
use Rattle.max_tree.proofs.PageLemmas.{position_None}

-- a choice that is decided
chosen : (b : Bool) (x y : ℕ) → b ≡ true → cond b x y ≡ x
chosen b x y e = ap (λ (t : Bool). cond t x y) e

not_chosen : (b : Bool) (x y : ℕ) → b ≡ false → cond b x y ≡ y
not_chosen b x y e = ap (λ (t : Bool). cond t x y) e

-- what a number tells, by its code
pub half_own : (x w : ℕ) → x % 4 ≡ w → half x w ≡ x / 4 * 2
half_own x w same = chosen (eqb (x % 4) w) (x / 4 * 2) (cond (eqb (x % 4) 2) (cond (eqb w 0) 2 (x / 4 * 2)) 0) (eq-eqb (x % 4) w same)

pub half_none : (x w : ℕ) → x % 4 ≢ w → x % 4 ≢ 2 → half x w ≡ 0
half_none x w other alone =
    not_chosen (eqb (x % 4) w) (x / 4 * 2) (cond (eqb (x % 4) 2) (cond (eqb w 0) 2 (x / 4 * 2)) 0) (ne_eqb (x % 4) w other)
    ∙ not_chosen (eqb (x % 4) 2) (cond (eqb w 0) 2 (x / 4 * 2)) 0 (ne_eqb (x % 4) 2 alone)

pub half_both : (x w : ℕ) → x % 4 ≢ w → x % 4 ≡ 2 → half x w ≡ cond (eqb w 0) 2 (x / 4 * 2)
half_both x w other both =
    not_chosen (eqb (x % 4) w) (x / 4 * 2) (cond (eqb (x % 4) 2) (cond (eqb w 0) 2 (x / 4 * 2)) 0) (ne_eqb (x % 4) w other)
    ∙ chosen (eqb (x % 4) 2) (cond (eqb w 0) 2 (x / 4 * 2)) 0 (eq-eqb (x % 4) 2 both)

-- the two numbers of a pair
pub record Tells (x : ℕ) : Type 0 where
  pub zero_code : x % 4 ≡ 0 → (half x 0 ≡ x / 4 * 2) × (half x 1 ≡ 0)
  pub one_code : x % 4 ≡ 1 → (half x 0 ≡ 0) × (half x 1 ≡ x / 4 * 2)
  pub two_code : x % 4 ≡ 2 → (half x 0 ≡ 2) × (half x 1 ≡ x / 4 * 2)
  pub three_code : x % 4 ≡ 3 → (half x 0 ≡ 0) × (half x 1 ≡ 0)

pub tells : (x : ℕ) → Tells x
tells x = record {
  zero_code = λ e. (half_own x 0 e, half_none x 1 (λ f. omega arith) (λ f. omega arith));
  one_code = λ e. (half_none x 0 (λ f. omega arith) (λ f. omega arith), half_own x 1 e);
  two_code = λ e. (half_both x 0 (λ f. omega arith) e, half_both x 1 (λ f. omega arith) e);
  three_code = λ e. (half_none x 0 (λ f. omega arith) (λ f. omega arith), half_none x 1 (λ f. omega arith) (λ f. omega arith));
}

codes : (x : ℕ) → (x % 4 ≡ 0) ⊎ ((x % 4 ≡ 1) ⊎ ((x % 4 ≡ 2) ⊎ (x % 4 ≡ 3)))
codes x = elim (cases_lt (x % 4) 2) [
  | inl low ↦ elim (cases_eq (x % 4) 0) [ inl is ↦ inl is | inr other ↦ inr (inl (omega arith)) ]
  | inr high ↦ elim (cases_eq (x % 4) 2) [ inl is ↦ inr (inr (inl is)) | inr other ↦ inr (inr (inr (omega arith))) ]
]

-- what is encoded for a pair in which the first number is 2 if both are nonzero
pub record Largest (x : ℕ) : Type 0 where
  pub most : max (half x 0) (half x 1) ≡ x / 4 * 2
  pub none : half x 0 ≡ 0 → half x 1 ≡ 0 → x ≡ 0

pub largest_half : (x : ℕ) → IsPair x → Largest x
largest_half x is =
    let code = is.code in
    let one = is.one in
    let two = is.two in
    elim (codes x) [
      | inl e ↦ let t = (tells x).zero_code e in record { most = omega (arith, t.0, t.1); none = λ f g. omega (arith, t.0, t.1) }
      | inr more ↦ elim more [
        | inl e ↦ let t = (tells x).one_code e in record { most = omega (arith, t.0, t.1); none = λ f g. omega (arith, t.0, t.1) }
        | inr more ↦ elim more [
          | inl e ↦ let t = (tells x).two_code e in record { most = omega (arith, t.0, t.1); none = λ f g. omega (arith, t.0, t.1) }
          | inr e ↦ absurd (code e)
        ]
      ]
    ]

pub half_zero : (w : ℕ) → half 0 w ≡ 0
half_zero w = elim (cases_eq (0 % 4) w) [ inl same ↦ half_own 0 w same ∙ omega arith | inr other ↦ half_none 0 w other (λ e. omega arith) ]

-- one of the two is no larger than the larger one
pub half_le : (x w : ℕ) → IsPair x → w < 2 → half x w ≤ x / 4 * 2
half_le x w is low = elim (cases_eq w 0) [
  | inl first ↦ omega (arith, ap (half x) first, (largest_half x is).most)
  | inr other ↦ let one : w ≡ 1 = omega arith in omega (arith, ap (half x) one, (largest_half x is).most)
]

pub halves_length : (xs : List ℕ) → length (halves_of xs) ≡ length xs + length xs
halves_length [] = refl
halves_length (x ∷ xs) = omega (arith, halves_length xs)

pub halves_at : (xs : List ℕ) (i : ℕ) → get_or (halves_of xs) i 0 ≡ half (get_or xs (i / 2) 0) (i % 2)
halves_at [] i = sym (half_zero (i % 2))
halves_at (x ∷ xs) zero = refl
halves_at (x ∷ xs) (suc zero) = refl
halves_at (x ∷ xs) (suc (suc i)) =
    let place : suc (suc i) / 2 ≡ suc (i / 2) = omega arith in
    let which : suc (suc i) % 2 ≡ i % 2 = omega arith in
    halves_at xs i ∙ sym (ap₂ (λ (k w : ℕ). half (get_or (x ∷ xs) k 0) w) place which)

pub zero_halves : (xs : List ℕ) → ((i : ℕ) → get_or xs i 0 ≡ 0) → (i : ℕ) → get_or (halves_of xs) i 0 ≡ 0
zero_halves xs zeros i = halves_at xs i ∙ ap (λ (x : ℕ). half x (i % 2)) (zeros (i / 2)) ∙ half_zero (i % 2)

-- the numbers after one pair was set
pub pair_set : (xs : List ℕ) (k v i : ℕ) → k < length xs → i / 2 ≡ k → get_or (halves_of (set xs k v)) i 0 ≡ half v (i % 2)
pair_set xs k v i inside same =
    halves_at (set xs k v) i ∙ ap (λ (x : ℕ). half x (i % 2)) (ap (λ (j : ℕ). get_or (set xs k v) j 0) same ∙ get_or-set_same xs k v 0 inside)

pub pair_other : (xs : List ℕ) (k v i : ℕ) → i / 2 ≢ k → get_or (halves_of (set xs k v)) i 0 ≡ get_or (halves_of xs) i 0
pair_other xs k v i other =
    halves_at (set xs k v) i ∙ ap (λ (x : ℕ). half x (i % 2)) (get_or-set_other xs k (i / 2) v 0 other) ∙ sym (halves_at xs i)

-- what a call leaves of the numbers
pub record IsPut (old new : List ℕ) (p size : ℕ) : Type 0 where
  pub count : length new ≡ length old
  pub there : get_or new p 0 ≡ size
  pub others : (i : ℕ) → i ≢ p → get_or new i 0 ≡ get_or old i 0

pub record IsMoved (old new : List ℕ) (gone p size : ℕ) : Type 0 where
  pub count : length new ≡ length old
  pub there : get_or new p 0 ≡ size
  pub gone_is : get_or new gone 0 ≡ 0
  pub others : (i : ℕ) → i ≢ gone → i ≢ p → get_or new i 0 ≡ get_or old i 0

pub set_length : (xs : List ℕ) (k v : ℕ) → length (halves_of (set xs k v)) ≡ length (halves_of xs)
set_length xs k v = omega (arith, halves_length (set xs k v), halves_length xs, length-set xs k v)

pub pair_inside : (xs : List ℕ) (p : ℕ) → p < length (halves_of xs) → p / 2 < length xs
pair_inside xs p inside = omega (arith, halves_length xs)

-- one of a pair is set
pub is_put : (xs xs' view : List ℕ) (p size v : ℕ) → halves_of xs ≡ view → xs' ≡ set xs (p / 2) v → p < length view → half v (p % 2) ≡ size → half v (1 - p % 2) ≡ half (get_or xs (p / 2) 0) (1 - p % 2) → IsPut view (halves_of xs') p size
is_put xs xs' view p size v shown are inside here other_is =
    let there = pair_inside xs p (omega (arith, ap length shown)) in
    rw (sym shown, are) (record {
      count = set_length xs (p / 2) v;
      there = pair_set xs (p / 2) v p there refl ∙ here;
      others = λ i other. elim (cases_eq (i / 2) (p / 2)) [
        | inr apart ↦ pair_other xs (p / 2) v i apart
        | inl pair ↦
            let which : i % 2 ≡ 1 - p % 2 = omega arith in
            pair_set xs (p / 2) v i there pair ∙ ap (half v) which ∙ other_is
            ∙ sym (halves_at xs i ∙ ap₂ (λ (k w : ℕ). half (get_or xs k 0) w) pair which)
      ];
    })

-- the other number of p's pair
pub other_is : (xs : List ℕ) (p : ℕ) → get_or (halves_of xs) (other_half p) 0 ≡ half (get_or xs (p / 2) 0) (1 - p % 2)
other_is xs p =
    let place : other_half p / 2 ≡ p / 2 = omega arith in
    let which : other_half p % 2 ≡ 1 - p % 2 = omega arith in
    halves_at xs (other_half p) ∙ ap₂ (λ (k w : ℕ). half (get_or xs k 0) w) place which

-- in one pair
pub is_moved_in : (xs xs' view : List ℕ) (gone p size v : ℕ) → halves_of xs ≡ view → xs' ≡ set xs (p / 2) v → p < length view → gone ≢ p → gone / 2 ≡ p / 2 → half v (p % 2) ≡ size → half v (1 - p % 2) ≡ 0 → IsMoved view (halves_of xs') gone p size
is_moved_in xs xs' view gone p size v shown are inside apart pair here other =
    let there = pair_inside xs p (omega (arith, ap length shown)) in
    let which : gone % 2 ≡ 1 - p % 2 = omega arith in
    rw (sym shown, are) (record {
      count = set_length xs (p / 2) v;
      there = pair_set xs (p / 2) v p there refl ∙ here;
      gone_is = pair_set xs (p / 2) v gone there pair ∙ ap (half v) which ∙ other;
      others = λ i first second. pair_other xs (p / 2) v i (λ e. omega arith);
    })

pub largest_halves : (xs : List ℕ) → ((i : ℕ) → IsPair (get_or xs i 0)) → largest (halves_of xs) ≡ largest xs / 4 * 2
largest_halves [] all = refl
largest_halves (x ∷ xs) all = omega (arith, (largest_half x (all 0)).most, largest_halves xs (λ i. all (suc i)))

-- the first number of the row that is large enough
pub first_half : (xs : List ℕ) (n k w : ℕ) → ((i : ℕ) → IsPair (get_or xs i 0)) → n % 2 ≡ 0 → 2 ≤ n → position (λ value. nat_le (2 * n) value) xs ≡ Some k → k < length xs → w < 2 → n ≤ half (get_or xs k 0) w → ((v : ℕ) → v < w → half (get_or xs k 0) v < n) → Some (2 * k + w) ≡ position (λ value. nat_le n value) (halves_of xs)
first_half xs n k w all even some found inside low enough lower =
    let at = 2 * k + w in
    let place : at / 2 ≡ k = omega arith in
    let which : at % 2 ≡ w = omega arith in
    let here : get_or (halves_of xs) at 0 ≡ half (get_or xs k 0) w = halves_at xs at ∙ ap₂ (λ (j v : ℕ). half (get_or xs j 0) v) place which in
    sym (position_found (λ value. nat_le n value) (halves_of xs) at (omega (arith, halves_length xs)) (le-leb n _ (omega arith)) (λ i before. lt-leb n _ (less i before)))
  where
    less : (i : ℕ) → i < 2 * k + w → get_or (halves_of xs) i 0 < n
    less i before = elim (cases_lt (i / 2) k) [
      | inl earlier ↦
          let first = position-Some (λ value. nat_le (2 * n) value) xs k 0 found in
          omega (arith, halves_at xs i, half_le (get_or xs (i / 2) 0) (i % 2) (all (i / 2)) (omega arith), leb-false (2 * n) _ (first.2 (i / 2) earlier))
      | inr pair ↦
          let same : i / 2 ≡ k = omega arith in
          omega (arith, halves_at xs i, ap (λ (j : ℕ). half (get_or xs j 0) (i % 2)) same, lower (i % 2) (omega arith))
    ]

-- the first number that is large enough in a pair that is: not the first one of both where n is past 2
pub first_pair : (xs view : List ℕ) (n k pair code : ℕ) → halves_of xs ≡ view → ((i : ℕ) → IsPair (get_or xs i 0)) → n % 2 ≡ 0 → 2 ≤ n → position (λ value. nat_le (2 * n) value) xs ≡ Some k → k < length xs → pair ≡ get_or xs k 0 → code ≡ min (pair % 4) 1 → (pair % 4 ≡ 2 → n ≢ 2) → Some (2 * k + code) ≡ position (λ value. nat_le n value) view
first_pair xs view n k pair code shown all even some found inside is code_is both =
    let x = get_or xs k 0 in
    let enough : 2 * n ≤ x = leb-true (2 * n) x (position-Some (λ value. nat_le (2 * n) value) xs k 0 found).1 in
    elim (codes x) [
      | inl c ↦
          let zero_is : code ≡ 0 = omega (arith, is, code_is) in
          let there : n ≤ half x 0 = omega (arith, ((tells x).zero_code c).0) in
          ap (λ (w : ℕ). Some (2 * k + w)) zero_is ∙ first_half xs n k 0 all even some found inside (omega arith) there (λ v low. absurd (omega arith)) ∙ ap (position (λ value. nat_le n value)) shown
      | inr more ↦ elim more [
        | inl c ↦
            let one_is : code ≡ 1 = omega (arith, is, code_is) in
            let there : n ≤ half x 1 = omega (arith, ((tells x).one_code c).1) in
            ap (λ (w : ℕ). Some (2 * k + w)) one_is ∙ first_half xs n k 1 all even some found inside (omega arith) there (λ v low. let none : v ≡ 0 = omega arith in omega (arith, ap (half x) none, ((tells x).one_code c).0)) ∙ ap (position (λ value. nat_le n value)) shown
        | inr more ↦ elim more [
          | inl c ↦
              let one_is : code ≡ 1 = omega (arith, is, code_is) in
              let past : n ≢ 2 = both (ap (λ (y : ℕ). y % 4) is ∙ c) in
              let there : n ≤ half x 1 = omega (arith, ((tells x).two_code c).1) in
              ap (λ (w : ℕ). Some (2 * k + w)) one_is ∙ first_half xs n k 1 all even some found inside (omega arith) there (λ v low. let none : v ≡ 0 = omega arith in omega (arith, ap (half x) none, ((tells x).two_code c).0)) ∙ ap (position (λ value. nat_le n value)) shown
          | inr c ↦ absurd ((all k).code c)
        ]
      ]
    ]

-- where both are there and n is 2 it is the first one
pub first_both : (xs view : List ℕ) (n k pair : ℕ) → halves_of xs ≡ view → ((i : ℕ) → IsPair (get_or xs i 0)) → position (λ value. nat_le (2 * n) value) xs ≡ Some k → k < length xs → pair ≡ get_or xs k 0 → pair % 4 ≡ 2 → n ≡ 2 → Some (2 * k) ≡ position (λ value. nat_le n value) view
first_both xs view n k pair shown all found inside is both two =
    let x = get_or xs k 0 in
    let place : Some (2 * k) ≡ Some (2 * k + 0) = ap Some (omega arith) in
    let first : half x 0 ≡ 2 = ((tells x).two_code (ap (λ (y : ℕ). y % 4) (sym is) ∙ both)).0 in
    place ∙ first_half xs n k 0 all (omega arith) (omega arith) found inside (omega arith) (omega arith) (λ v low. absurd (omega arith)) ∙ ap (position (λ value. nat_le n value)) shown

pub first_half_none : (xs : List ℕ) (n : ℕ) → ((i : ℕ) → IsPair (get_or xs i 0)) → n % 2 ≡ 0 → position (λ value. nat_le (2 * n) value) xs ≡ None → position (λ value. nat_le n value) (halves_of xs) ≡ None
first_half_none xs n all even nowhere =
    position_none (λ value. nat_le n value) (halves_of xs) (λ i inside.
    lt-leb n _ (omega (arith, halves_at xs i, half_le (get_or xs (i / 2) 0) (i % 2) (all (i / 2)) (omega arith), leb-false (2 * n) _ (position_None (λ value. nat_le (2 * n) value) xs nowhere (i / 2) (omega (arith, halves_length xs))))))

-- no number is as large as that
pub none_large : (xs : List ℕ) (n : ℕ) → largest xs < n → position (λ value. nat_le n value) xs ≡ None
none_large xs n less = position_none (λ value. nat_le n value) xs (λ i inside. lt-leb n _ (omega (arith, largest_bound xs i)))

-- the first of p's own pair, where p is the second
pub last_own : (xs view : List ℕ) (p own : ℕ) → halves_of xs ≡ view → own ≡ half (get_or xs (p / 2) 0) 0 → p % 2 ≡ 1 → 0 < own → IsLastBefore view p (Some (p - 1))
last_own xs view p own shown is odd some =
    let place : (p - 1) / 2 ≡ p / 2 = omega arith in
    let which : (p - 1) % 2 ≡ 0 = omega arith in
    let here : get_or (halves_of xs) (p - 1) 0 ≡ half (get_or xs (p / 2) 0) 0 = halves_at xs (p - 1) ∙ ap₂ (λ (j w : ℕ). half (get_or xs j 0) w) place which in
    rw (sym shown) (record { found = (omega arith, λ e. omega arith); last = λ i past before. absurd (omega arith) })

-- no number of p's own pair stands before it
pub record NoneOwn (xs : List ℕ) (p : ℕ) : Type 0 where
  pub none : p % 2 ≡ 1 → half (get_or xs (p / 2) 0) 0 ≡ 0

own_zero : (xs : List ℕ) (p i : ℕ) → NoneOwn xs p → i < p → p / 2 ≤ i / 2 → get_or (halves_of xs) i 0 ≡ 0
own_zero xs p i h before pair =
    let place : i / 2 ≡ p / 2 = omega arith in
    let which : i % 2 ≡ 0 = omega arith in
    halves_at xs i ∙ ap₂ (λ (j w : ℕ). half (get_or xs j 0) w) place which ∙ h.none (omega arith)

pub last_none : (xs view : List ℕ) (p : ℕ) → halves_of xs ≡ view → NoneOwn xs p → ((k : ℕ) → k < p / 2 → get_or xs k 0 ≡ 0) → IsLastBefore view p None
last_none xs view p shown own zeros = rw (sym shown) (record {
  found = λ i before. elim (cases_lt (i / 2) (p / 2)) [
    | inl earlier ↦ halves_at xs i ∙ ap (λ (x : ℕ). half x (i % 2)) (zeros (i / 2) earlier) ∙ half_zero (i % 2)
    | inr pair ↦ own_zero xs p i own before pair
  ];
  last = tt;
})

-- the last number of the last pair before p's own one that is not 0
pub last_half : (xs : List ℕ) (p k w : ℕ) → NoneOwn xs p → k < p / 2 → w < 2 → half (get_or xs k 0) w ≢ 0 → ((v : ℕ) → w < v → v < 2 → half (get_or xs k 0) v ≡ 0) → ((j : ℕ) → k < j → j < p / 2 → get_or xs j 0 ≡ 0) → IsLastBefore (halves_of xs) p (Some (2 * k + w))
last_half xs p k w own low which_low some later_zero zeros =
    let at = 2 * k + w in
    let place : at / 2 ≡ k = omega arith in
    let which : at % 2 ≡ w = omega arith in
    let here : get_or (halves_of xs) at 0 ≡ half (get_or xs k 0) w = halves_at xs at ∙ ap₂ (λ (j v : ℕ). half (get_or xs j 0) v) place which in
    record {
      found = (omega arith, λ e. some (sym here ∙ e));
      last = λ i past before. elim (cases_lt (i / 2) (p / 2)) [
        | inr pair ↦ own_zero xs p i own before pair
        | inl earlier ↦ elim (cases_lt k (i / 2)) [
          | inl later ↦ halves_at xs i ∙ ap (λ (y : ℕ). half y (i % 2)) (zeros (i / 2) later earlier) ∙ half_zero (i % 2)
          | inr same ↦
              let pair : i / 2 ≡ k = omega arith in
              halves_at xs i ∙ ap (λ (j : ℕ). half (get_or xs j 0) (i % 2)) pair ∙ later_zero (i % 2) (omega arith) (omega arith)
        ]
      ];
    }

-- a pair that is not 0 has a second number unless its code is 0
second_there : (x : ℕ) → IsPair x → x ≢ 0 → x % 4 ≢ 0 → half x 1 ≢ 0
second_there x is some other e =
    let one = is.one in
    let two = is.two in
    elim (codes x) [
      | inl c ↦ other c
      | inr more ↦ elim more [
        | inl c ↦ omega (arith, ((tells x).one_code c).1)
        | inr more ↦ elim more [
          | inl c ↦ omega (arith, ((tells x).two_code c).1)
          | inr c ↦ is.code c
        ]
      ]
    ]

-- the last pair before p's own one that is not 0: its second number is the last, if it is nonzero
pub last_pair : (xs view : List ℕ) (p k pair code : ℕ) → halves_of xs ≡ view → ((i : ℕ) → IsPair (get_or xs i 0)) → NoneOwn xs p → (k < p / 2) × (get_or xs k 0 ≢ 0) → ((j : ℕ) → k < j → j < p / 2 → get_or xs j 0 ≡ 0) → pair ≡ get_or xs k 0 → code ≡ min (pair % 4) 1 → IsLastBefore view p (Some (2 * k + code))
last_pair xs view p k pair code shown all own found zeros is code_is =
    subst (λ (ys : List ℕ). IsLastBefore ys p (Some (2 * k + code))) shown (elim (cases_eq (get_or xs k 0 % 4) 0) [
      | inl first ↦
          let none : code ≡ 0 = omega (arith, is, code_is) in
          subst (λ (w : ℕ). IsLastBefore (halves_of xs) p (Some (2 * k + w))) (sym none)
          (last_half xs p k 0 own found.0 (omega arith) (λ e. found.1 ((largest_half (get_or xs k 0) (all k)).none e ((tells (get_or xs k 0)).zero_code first).1)) (λ v high low. let one : v ≡ 1 = omega arith in ap (half (get_or xs k 0)) one ∙ ((tells (get_or xs k 0)).zero_code first).1) zeros)
      | inr other ↦
          let one : code ≡ 1 = omega (arith, is, code_is) in
          subst (λ (w : ℕ). IsLastBefore (halves_of xs) p (Some (2 * k + w))) (sym one)
          (last_half xs p k 1 own found.0 (omega arith) (second_there (get_or xs k 0) (all k) found.1 other) (λ v high low. absurd (omega arith)) zeros)
    ])
