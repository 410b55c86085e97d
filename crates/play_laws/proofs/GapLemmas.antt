-- A gap is always there: small blocks that are few meet few of many pieces.
use Rattle.std.proofs.Common.{◌≡◌, inl, inr, ℕ, zero, suc, ◌+◌, ◌*◌, ◌%◌, ◌<◌, ◌≤◌, ◌&&◌, ◌||◌, Bool, true, false, not, cond, List, [], ◌∷◌, length, Some, refl, sym, ap, ◌∙◌, subst, arith}
use Rattle.std.specs.Prelude.{◌==◌, ◌/◌, nat_le, min, max, find, is_some}
use Rattle.std.specs.List.{Contains, count_by, range_with_len}
use Rattle.std.proofs.lemmas.Bool.{cases_Bool, false≢true, and_parts, and_from, ltb-true, lt-ltb, le-leb, eq-eqb, eqb-true, not-true, false_from_ne_true, not_from_false}
use Rattle.std.proofs.lemmas.List.FromFn.{length-range_with_len}
use Rattle.seg_words.specs.declared.gaps.Extent.{Extent}
use Rattle.seg_words.specs.Gaps.{meets, is_free, is_whole, fits, first_fit}
use Rattle.seg_words.specs.Segments.{whole_below}
use Rattle.std.proofs.Math.Nat as nat
use Rattle.seg_words.specs.Members.{Contains-cases, Contains-first, Contains-later, none_in_nil, count-cons}
use Rattle.play_laws.proofs.CountLemmas.{at_most, count_or, missing}

-- ---- ranges

pub in_range : (a n x : ℕ) → Contains (range_with_len a n) x → (a ≤ x) × (x < a + n)
in_range a zero x c = absurd (none_in_nil x c)
in_range a (suc n) x c = elim (Contains-cases a (range_with_len (a + 1) n) x c) [
  | inl same ↦ (omega (arith, same), omega (arith, same))
  | inr later ↦ let r = in_range (a + 1) n x later in (omega (arith, r.0), omega (arith, r.1))
]

pub range_has : (a n x : ℕ) → a ≤ x → x < a + n → Contains (range_with_len a n) x
range_has a zero x low high = absurd (omega (arith, low, high))
range_has a (suc n) x low high = elim (cases_Bool (a == x)) [
  | inl t ↦ subst (λ y. Contains (range_with_len a (suc n)) y) (eqb-true a x t) (Contains-first a (range_with_len (a + 1) n))
  | inr f ↦ Contains-later a (range_with_len (a + 1) n) x (range_has (a + 1) n x (other f) (omega (arith, high)))
]
  where
    other : (a == x) ≡ false → a + 1 ≤ x
    other f = go (λ (e : a ≡ x). false≢true (sym f ∙ eq-eqb a x e))
      where
        go : (a ≡ x → ⊥) → a + 1 ≤ x
        go ne = omega (arith, low, ne)

none_from : (p : ℕ → Bool) (from n : ℕ) → ((i : ℕ) → from ≤ i → p i ≡ false) → count_by p (range_with_len from n) ≡ 0
none_from p from zero none = refl
none_from p from (suc n) none =
    let one : cond {A = ℕ} (p from) 1 0 ≡ 0 = ap (λ b. cond {A = ℕ} b 1 0) (none from (omega arith)) in
    omega (arith, count-cons p from (range_with_len (from + 1) n), one, none_from p (from + 1) n (λ i l. none i (omega (arith, l))))

once_from : (p : ℕ → Bool) (from n : ℕ) → ((i : ℕ) → from ≤ i → p i ≡ true → i ≤ from) → count_by p (range_with_len from n) ≤ 1
once_from p from zero once = omega arith
once_from p from (suc n) once =
    let rest = none_from p (from + 1) n (λ i l. false_from_ne_true (p i) (λ t. omega (arith, l, once i (omega (arith, l)) t))) in
    omega (arith, count-cons p from (range_with_len (from + 1) n), at_most (p from), rest)

-- all numbers that pass are neighbours: so two pass at most
abbrev Near : (ℕ → Bool) → Type 0
Near p = (i j : ℕ) → p i ≡ true → p j ≡ true → i ≤ j → j ≤ i + 1

twice_from : (p : ℕ → Bool) (from n : ℕ) → Near p → count_by p (range_with_len from n) ≤ 2
twice_from p from zero near = omega arith
twice_from p from (suc n) near = elim (cases_Bool (p from)) [
  | inl t ↦
      let rest = once_from p (from + 1) n (λ i l h. near from i t h (omega (arith, l))) in
      omega (arith, count-cons p from (range_with_len (from + 1) n), at_most (p from), rest)
  | inr f ↦
      let one : cond {A = ℕ} (p from) 1 0 ≡ 0 = ap (λ b. cond {A = ℕ} b 1 0) f in
      omega (arith, count-cons p from (range_with_len (from + 1) n), one, twice_from p (from + 1) n near)
]

-- ---- pieces of 80 words, and blocks of at most 40

abbrev piece : ℕ → ℕ → ℕ
piece base i = base + 80 * i

meets_near : (base : ℕ) (e : Extent) → e.size ≤ 40 → Near (λ i. meets (piece base i) 80 e)
meets_near base e small i j a b l =
    let p = ltb-true (max (piece base i) e.place) (min (piece base i + 80) (e.place + e.size)) a in
    let q = ltb-true (max (piece base j) e.place) (min (piece base j + 80) (e.place + e.size)) b in
    omega (arith, p, q, small, l)

abbrev pub AreSmall : List Extent → Type 0
AreSmall extents = (e : Extent) → Contains extents e → e.size ≤ 40

pieces_met : (base n : ℕ) (extents : List Extent) → AreSmall extents → count_by (λ i. not (is_free (piece base i) 80 extents)) (range_with_len 0 n) ≤ 2 * length extents
pieces_met base n [] small = omega (arith, none_from (λ i. false) 0 n (λ i l. refl))
pieces_met base n (e ∷ extents) small =
    let rest = pieces_met base n extents (λ x c. small x (Contains-later e extents x c)) in
    let first = twice_from (λ i. meets (piece base i) 80 e) 0 n (meets_near base e (small e (Contains-first e extents))) in
    let both = count_or (λ i. not (is_free (piece base i) 80 (e ∷ extents))) (λ i. meets (piece base i) 80 e) (λ i. not (is_free (piece base i) 80 extents)) (range_with_len 0 n)
    (λ i. either (meets (piece base i) 80 e) (is_free (piece base i) 80 extents)) in
    omega (arith, rest, first, both)
  where
    either : (m f : Bool) → not (not m && f) ≡ (m || not f)
    either true f = refl
    either false f = refl

-- fewer words meet no more
free_less : (a n : ℕ) (extents : List Extent) → n ≤ 80 → is_free a 80 extents ≡ true → is_free a n extents ≡ true
free_less a n [] l h = refl
free_less a n (e ∷ extents) l h =
    let parts = and_parts (not (meets a 80 e)) (is_free a 80 extents) h in
    let none : meets a n e ≡ false = false_from_ne_true (meets a n e) (λ t.
    let p = ltb-true (max a e.place) (min (a + n) (e.place + e.size)) t in
    let q : meets a 80 e ≡ true = lt-ltb (max a e.place) (min (a + 80) (e.place + e.size)) (omega (arith, p, l)) in
    false≢true (sym (not-true (meets a 80 e) parts.0) ∙ q)) in
    and_from (not (meets a n e)) (is_free a n extents) (not_from_false (meets a n e) none) (free_less a n extents l parts.1)

find_some : {X : Type 0} (p : X → Bool) (xs : List X) (x : X) → Contains xs x → p x ≡ true → is_some (find p xs) ≡ true
find_some p [] x c h = absurd (none_in_nil x c)
find_some p (y ∷ ys) x c h = elim (cases_Bool (p y)) [
  | inl t ↦ ap (λ b. is_some (cond b (Some y) (find p ys))) t
  | inr f ↦ elim (Contains-cases y ys x c) [
    | inl same ↦ absurd (false≢true (sym f ∙ (ap p same ∙ h)))
    | inr later ↦ ap (λ b. is_some (cond b (Some y) (find p ys))) f ∙ find_some p ys x later h
  ]
]

-- what lies below the end of the one segment lies in it
in_one : (to a n : ℕ) → a + n ≤ to → is_whole to a n ≡ true
in_one to a n within =
    let q = a / to in
    let next : q + 1 ≡ suc q = omega arith in
    let more : (q + 1) * to ≡ q * to + to = ap (λ m. m * to) next ∙ nat.suc-mul q to in
    whole_below to a n (omega (arith, more, within))

-- this many small blocks leave room for one more in one segment
pub gap_there : (from to n pieces : ℕ) (extents : List Extent) → AreSmall extents → from % 2 ≡ 0 → n ≤ 80 → 2 * length extents < pieces → from + 80 * pieces ≤ to → is_some (first_fit from to to n extents) ≡ true
gap_there from to n pieces extents small even short few room =
    let m = missing (λ i. not (is_free (piece from i) 80 extents)) (range_with_len 0 pieces) (omega (arith, few, pieces_met from pieces extents small, length-range_with_len 0 pieces)) in
    at m.0 (in_range 0 pieces m.0 m.1).1 (not_met (is_free (piece from m.0) 80 extents) m.2)
  where
    not_met : (b : Bool) → not b ≡ false → b ≡ true
    not_met true h = refl
    not_met false h = absurd (cc h)

    at : (i : ℕ) → i < 0 + pieces → is_free (piece from i) 80 extents ≡ true → is_some (first_fit from to to n extents) ≡ true
    at i within free =
        let a = piece from i in
        let first : (a % 2 == 0) ≡ true = eq-eqb (a % 2) 0 (omega (arith, even)) in
        let second : nat_le from a ≡ true = le-leb from a (omega arith) in
        let below : a + n ≤ to = omega (arith, within, room, short) in
        let third : nat_le (a + n) to ≡ true = le-leb (a + n) to below in
        let fit : fits from to to n extents a ≡ true =
        and_from (a % 2 == 0 && nat_le from a && nat_le (a + n) to && is_free a n extents) (is_whole to a n)
        (and_from (a % 2 == 0 && nat_le from a && nat_le (a + n) to) (is_free a n extents)
        (and_from (a % 2 == 0 && nat_le from a) (nat_le (a + n) to) (and_from (a % 2 == 0) (nat_le from a) first second) third)
        (free_less a n extents short free)) (in_one to a n below) in
        find_some (fits from to to n extents) (range_with_len 0 (to + 1)) a (range_has 0 (to + 1) a (omega arith) (omega (arith, within, room))) fit
