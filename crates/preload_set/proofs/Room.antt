-- Behind the words that were ever used there is room: so the least place is no later.
use Rattle.std.proofs.Common.{◌≡◌, inl, inr, ℕ, zero, suc, ◌+◌, ◌%◌, ◌<◌, ◌≤◌, ◌&&◌, Bool, true, false, not, cond, List, [], ◌∷◌, length, Some, refl, sym, ap, ◌∙◌, arith}
use Rattle.std.specs.Prelude.{◌==◌, ◌/◌, ◌*◌, nat_le, min, max, find}
use Rattle.std.specs.List.{Contains, range_with_len}
use Rattle.std.proofs.lemmas.Bool.{cases_Bool, false≢true, and_from, ltb-true, le-leb, eq-eqb, false_from_ne_true, not_from_false}
use Rattle.std.proofs.lemmas.List.Sums.{sum_by-cons}
use Rattle.std.proofs.Math.Nat as nat
use Rattle.seg_words.specs.declared.gaps.Extent.{Extent}
use Rattle.seg_words.specs.Gaps.{meets, is_free, is_whole, fits, first_fit}
use Rattle.seg_words.specs.Members.{Contains-first, Contains-later}
use Rattle.seg_words.specs.Segments.{whole_below}
use Rattle.seg_words.specs.declared.layout.TheConstants.{HEAD_WORDS}
use Rattle.seg_words.specs.Layout.{words_in}
use Rattle.php_graph.specs.Size.{block_size, image_length}
use Rattle.preload_set.specs.Bundle.{Record}
use Rattle.preload_set.specs.Loader.{record_words}

-- a number that passes bounds the first one that does
find_low : (p : ℕ → Bool) (from n a : ℕ) → p a ≡ true → from ≤ a → a < from + n → (x : ℕ) × (find p (range_with_len from n) ≡ Some x) × (x ≤ a)
find_low p from zero a h low high = absurd (omega (arith, low, high))
find_low p from (suc n) a h low high = elim (cases_Bool (p from)) [
  | inl t ↦ (from, ap (λ b. cond b (Some from) (find p (range_with_len (from + 1) n))) t, low)
  | inr f ↦
      let rest = find_low p (from + 1) n a h (later f) (omega (arith, high)) in
      (rest.0, ap (λ b. cond b (Some from) (find p (range_with_len (from + 1) n))) f ∙ rest.1, rest.2)
]
  where
    later : p from ≡ false → from + 1 ≤ a
    later f = go (λ (e : from ≡ a). false≢true (sym f ∙ (ap p e ∙ h)))
      where
        go : (from ≡ a → ⊥) → from + 1 ≤ a
        go ne = omega (arith, low, ne)

-- words behind all extents are free
free_behind : (a n : ℕ) (extents : List Extent) → ((e : Extent) → Contains extents e → e.place + e.size ≤ a) → is_free a n extents ≡ true
free_behind a n [] behind = refl
free_behind a n (e ∷ extents) behind =
    let none : meets a n e ≡ false = false_from_ne_true (meets a n e) (λ t.
    omega (arith, ltb-true (max a e.place) (min (a + n) (e.place + e.size)) t, behind e (Contains-first e extents))) in
    and_from (not (meets a n e)) (is_free a n extents) (not_from_false (meets a n e) none) (free_behind a n extents (λ x c. behind x (Contains-later e extents x c)))

-- what lies below the end of the one segment lies in it
in_one : (to a n : ℕ) → a + n ≤ to → is_whole to a n ≡ true
in_one to a n within =
    let q = a / to in
    let next : q + 1 ≡ suc q = omega arith in
    let more : (q + 1) * to ≡ q * to + to = ap (λ m. m * to) next ∙ nat.suc-mul q to in
    whole_below to a n (omega (arith, within, more))

-- with one segment the least place is no later than where all extents have ended
pub gap_low : (from to a n : ℕ) (extents : List Extent) → a % 2 ≡ 0 → from ≤ a → a + n ≤ to → ((e : Extent) → Contains extents e → e.place + e.size ≤ a) → (x : ℕ) × (first_fit from to to n extents ≡ Some x) × (x ≤ a)
gap_low from to a n extents even low high behind =
    let first : (a % 2 == 0) ≡ true = eq-eqb (a % 2) 0 even in
    let second : nat_le from a ≡ true = le-leb from a low in
    let third : nat_le (a + n) to ≡ true = le-leb (a + n) to high in
    let fit : fits from to to n extents a ≡ true =
    and_from (a % 2 == 0 && nat_le from a && nat_le (a + n) to && is_free a n extents) (is_whole to a n)
    (and_from (a % 2 == 0 && nat_le from a && nat_le (a + n) to) (is_free a n extents)
    (and_from (a % 2 == 0 && nat_le from a) (nat_le (a + n) to) (and_from (a % 2 == 0) (nat_le from a) first second) third)
    (free_behind a n extents behind)) (in_one to a n high) in
    find_low (fits from to to n extents) 0 (to + 1) a fit (omega arith) (omega (arith, high))

-- blocks are even
even_up : (n : ℕ) → (n + n % 2) % 2 ≡ 0
even_up n = omega arith

abbrev size_of : Record → ℕ
size_of r = block_size (length r.0) r.1

even_sum : (a b : ℕ) → a % 2 ≡ 0 → b % 2 ≡ 0 → (a + b) % 2 ≡ 0
even_sum a b h k = omega (arith, h, k)

size_even : (r : Record) → size_of r % 2 ≡ 0
size_even r = even_up (HEAD_WORDS + words_in (length r.0) + image_length r.1)

pub words_even : (records : List Record) → record_words records % 2 ≡ 0
words_even [] = refl
words_even (r ∷ records) = ap (λ n. n % 2) (sum_by-cons size_of r records) ∙ even_sum (size_of r) (record_words records) (size_even r) (words_even records)
