-- The gaps between live blocks, from the first one on.
use Rattle.std.proofs.Common.{◌≡◌, ◌∙◌, inl, inr, ℕ, zero, suc, ◌+◌, ◌-◌, ◌<◌, ◌≤◌, ◌==◌, ◌&&◌, Bool}
use Rattle.std.proofs.Common.{true, false, cond, List, [], ◌∷◌, filter, refl, sym, ap}
use Rattle.std.proofs.Common.{subst, arith, Option, Some, None}
use Rattle.std.specs.Prelude.{nat_le, find, option_map}
use Rattle.std.specs.List.{count_by, range_with_len}
use Rattle.std.proofs.lemmas.Bool.{cases_Bool, and_parts, eqb-true, ne_eqb}
use Rattle.std.proofs.lemmas.Bool.Decides.{nat_tests}
use Rattle.seg_words.specs.declared.gaps.Extent.{Extent}
use Rattle.seg_words.specs.Gaps.{meets, is_free, is_whole, free_runs, runs_of, with_word}
use Rattle.seg_words.specs.Members.{count-cons, filter_alike}
use Rattle.entry_slots.specs.Lists.{HaveSame}

-- extents one behind the other, from `lo` up to `hi`
abbrev pub AreBehind : ℕ → ℕ → List Extent → Type 0
AreBehind lo hi [] = lo ≤ hi
AreBehind lo hi (r ∷ rs) = (lo ≤ r.place) × (0 < r.size) × AreBehind (r.place + r.size) hi rs

sooner : (lo low hi : ℕ) (rs : List Extent) → lo ≤ low → AreBehind low hi rs → AreBehind lo hi rs
sooner lo low hi [] up h = omega (arith, up, h)
sooner lo low hi (r ∷ rs) up h = (omega (arith, up, h.0), h.1, h.2)

word_behind : (piece w hi : ℕ) (rs : List Extent) → AreBehind (w + 1) hi rs
    → AreBehind w hi (with_word piece w rs)
word_behind piece w hi [] h = (omega arith, omega arith, h)
word_behind piece w hi (r ∷ rs) h = elim (cases_Bool (r.place == w + 1 && is_whole piece w 2)) [
  | inl t ↦
      let next = (and_parts (r.place == w + 1) (is_whole piece w 2) t).0 in
      let end : r.place + r.size ≡ w + (r.size + 1) = omega (arith, eqb-true r.place (w + 1) next) in
      rw t (omega arith, omega arith, subst (λ n. AreBehind n hi rs) end h.2)
  | inr f ↦ rw f (omega arith, omega arith, h)
]

pub runs_behind : (piece : ℕ) (p : ℕ → Bool) (n lo hi : ℕ) → lo + n ≤ hi
    → AreBehind lo hi (runs_of piece (filter p (range_with_len lo n)))
runs_behind piece p zero lo hi low = omega (arith, low)
runs_behind piece p (suc n) lo hi low =
    let rest = runs_behind piece p n (lo + 1) hi (omega (arith, low)) in
    elim (cases_Bool (p lo)) [
      | inl t ↦ rw t (word_behind piece lo hi (runs_of piece (filter p (range_with_len (lo + 1) n))) rest)
      | inr f ↦ rw f (sooner lo (lo + 1) hi (runs_of piece (filter p (range_with_len (lo + 1) n))) (omega arith) rest)
    ]

-- the gaps that begin at a place or past it
abbrev pub left_from : ℕ → List Extent → List Extent
left_from at rs = filter (λ run. nat_le at run.place) rs

pub all_left : (at lo hi : ℕ) (rs : List Extent) → at ≤ lo → AreBehind lo hi rs
    → left_from at rs ≡ rs
all_left at lo hi [] low h = refl
all_left at lo hi (r ∷ rs) low h =
    let first : nat_le at r.place ≡ true = grind (arith, nat_tests, low, h.0) in
    rw first (ap (λ l. r ∷ l) (all_left at (r.place + r.size) hi rs (omega (arith, low, h.0)) h.2))

-- the first of them, and those behind it
pub record IsNextGap (at hi : ℕ) (rs : List Extent) (r : Extent) : Type 0 where
  pub left : left_from at rs ≡ r ∷ left_from (r.place + r.size) rs
  pub up : at ≤ r.place
  pub some : 0 < r.size
  pub end : r.place + r.size ≤ hi

behind_end : (lo hi : ℕ) (rs : List Extent) → AreBehind lo hi rs → lo ≤ hi
behind_end lo hi [] h = h
behind_end lo hi (r ∷ rs) h = omega (arith, h.0, behind_end (r.place + r.size) hi rs h.2)

pub gap_here : (at lo hi : ℕ) (rs : List Extent) → AreBehind lo hi rs → (r : Extent)
    → find (λ run. nat_le at run.place) rs ≡ Some r → (lo ≤ r.place) × IsNextGap at hi rs r
gap_here at lo hi [] h r is = absurd cc
gap_here at lo hi (q ∷ rs) h r is = elim (cases_Bool (nat_le at q.place)) [
  | inl t ↦
      let found : find (λ run. nat_le at run.place) (q ∷ rs) ≡ Some q = rw t refl in
      let same : q ≡ r = cc in
      let end = q.place + q.size in
      let up : at ≤ q.place = grind (arith, nat_tests, t) in
      let past : nat_le end q.place ≡ false = grind (arith, nat_tests, h.1) in
      let all = all_left at end hi rs (omega (arith, up)) h.2 in
      let later = all_left end end hi rs (omega arith) h.2 in
      subst (λ x. (lo ≤ x.place) × IsNextGap at hi (q ∷ rs) x) same (
        h.0,
        record {
          left = rw (t, past) (ap (λ l. q ∷ l) (all ∙ sym later));
          up = up;
          some = h.1;
          end = behind_end end hi rs h.2;
        },
      )
  | inr f ↦
      let skipped : find (λ run. nat_le at run.place) (q ∷ rs)
      ≡ find (λ run. nat_le at run.place) rs = rw f refl in
      let i = gap_here at (q.place + q.size) hi rs h.2 r (sym skipped ∙ is) in
      let low : q.place < r.place + r.size = omega (arith, i.0, i.1.some) in
      let past : nat_le (r.place + r.size) q.place ≡ false = grind (arith, nat_tests, low) in (
        omega (arith, h.0, i.0),
        record {
          left = rw (f, past) i.1.left;
          up = i.1.up;
          some = i.1.some;
          end = i.1.end;
        },
      )
]

pub gaps_end : (at : ℕ) (rs : List Extent) → find (λ run. nat_le at run.place) rs ≡ None
    → left_from at rs ≡ []
gaps_end at [] is = refl
gaps_end at (q ∷ rs) is = elim (cases_Bool (nat_le at q.place)) [
  | inl t ↦
      let found : find (λ run. nat_le at run.place) (q ∷ rs) ≡ Some q = rw t refl in
      absurd cc
  | inr f ↦
      let skipped : find (λ run. nat_le at run.place) (q ∷ rs)
      ≡ find (λ run. nat_le at run.place) rs = rw f refl in
      rw f (gaps_end at rs (sym skipped ∙ is))
]

-- a gap as the allocator answers it
abbrev pub pair_of : Extent → ℕ × ℕ
pair_of run = (run.place, run.size)

-- the gap that it finds is the next one
pub gap_found : (at lo hi : ℕ) (rs : List Extent) → AreBehind lo hi rs → (gap : Extent)
    → Some (pair_of gap) ≡ option_map pair_of (find (λ run. nat_le at run.place) rs)
    → IsNextGap at hi rs gap
gap_found at lo hi rs h gap is = go (find (λ run. nat_le at run.place) rs) refl is
  where
    go : (o : Option Extent) → find (λ run. nat_le at run.place) rs ≡ o
        → Some (pair_of gap) ≡ option_map pair_of o → IsNextGap at hi rs gap
    go None e found = absurd cc
    go (Some r) e found =
        let pairs : pair_of gap ≡ pair_of r = cc in
        let same : gap ≡ r = λ i. record { place = (pairs i).0; size = (pairs i).1 } in
        subst (λ x. IsNextGap at hi rs x) (sym same) (gap_here at lo hi rs h r e).1

-- where it finds none, none is left
pub gap_none : (at : ℕ) (rs : List Extent)
    → ◌≡◌ {A = Option (ℕ × ℕ)} None (option_map pair_of (find (λ run. nat_le at run.place) rs))
    → left_from at rs ≡ []
gap_none at rs is = go (find (λ run. nat_le at run.place) rs) refl is
  where
    go : (o : Option Extent) → find (λ run. nat_le at run.place) rs ≡ o
        → ◌≡◌ {A = Option (ℕ × ℕ)} None (option_map pair_of o) → left_from at rs ≡ []
    go None e none = gaps_end at rs e
    go (Some r) e none = absurd cc

-- all gaps
pub gaps_behind : (from to piece : ℕ) (es : List Extent)
    → AreBehind from (from + (to - from)) (free_runs from to piece es)
gaps_behind from to piece es =
    runs_behind piece (λ w. is_free w 1 es) (to - from) from (from + (to - from)) (omega arith)

-- ---- the same blocks in another order

free_count : (a n : ℕ) (es : List Extent) → is_free a n es ≡ (count_by (meets a n) es == 0)
free_count a n [] = refl
free_count a n (e ∷ es) = elim (cases_Bool (meets a n e)) [
  | inl t ↦
      let one : cond {A = ℕ} (meets a n e) 1 0 ≡ 1 = ap (λ b. cond {A = ℕ} b 1 0) t in
      let some : count_by (meets a n) (e ∷ es) ≡ suc (count_by (meets a n) es) =
      omega (arith, one, count-cons (meets a n) e es) in
      let left : is_free a n (e ∷ es) ≡ false = rw t refl in
      left ∙ sym (ne_eqb (count_by (meets a n) (e ∷ es)) 0 (λ z. omega (arith, z, some)))
  | inr f ↦
      let none : cond {A = ℕ} (meets a n e) 1 0 ≡ 0 = ap (λ b. cond {A = ℕ} b 1 0) f in
      let same : count_by (meets a n) (e ∷ es) ≡ count_by (meets a n) es =
      omega (arith, none, count-cons (meets a n) e es) in
      let left : is_free a n (e ∷ es) ≡ is_free a n es = rw f refl in
      left ∙ free_count a n es ∙ sym (ap (λ k. k == 0) same)
]

free_alike : (xs ys : List Extent) → HaveSame xs ys → (a n : ℕ)
    → is_free a n xs ≡ is_free a n ys
free_alike xs ys same a n =
    free_count a n xs ∙ ap (λ k. k == 0) (same.count (meets a n)) ∙ sym (free_count a n ys)

pub runs_alike : (from to piece : ℕ) (xs ys : List Extent) → HaveSame xs ys
    → free_runs from to piece xs ≡ free_runs from to piece ys
runs_alike from to piece xs ys same =
    ap (runs_of piece) (filter_alike (λ w. is_free w 1 xs) (λ w. is_free w 1 ys)
    (range_with_len from (to - from)) (λ w c. free_alike xs ys same w 1))
