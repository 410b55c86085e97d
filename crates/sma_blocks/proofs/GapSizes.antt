-- How many words the gaps have, and the largest of them.
use Rattle.std.proofs.Common.{◌≡◌, ◌≢◌, inl, inr, ℕ, ◌+◌, ◌/◌, ◌%◌, ◌≤◌, Bool, true, false, cond, max, sum_by, List, [], ◌∷◌, ◌++◌, length, get_or, refl, sym, ap, ◌∙◌, arith}
use Rattle.std.proofs.lemmas.Bool.{cases_lt, cases_eq, cases_Bool, eq-eqb, ne_eqb}
use Rattle.std.proofs.lemmas.List.Sums.{sum_by-cons}
use Rattle.max_tree.specs.Pages.{largest}
use Rattle.max_tree.proofs.Largest.{largest_bound, largest_least}
use Rattle.seg_words.specs.declared.gaps.Extent.{Extent}
use Rattle.sma_blocks.specs.Tiles.{Tile, tiles, Fill}
use Rattle.sma_blocks.specs.Live.{lives, gaps, gap_words, largest_of}
use Rattle.sma_blocks.specs.Index.{size_at, IsIndexed}
use Rattle.sma_blocks.proofs.LiveBlocks.{tile_extent}
use Rattle.max_tree.specs.Halves.{other_half, MayStand}
use Rattle.sma_blocks.proofs.FirstFit.{here_other, here_live, here_gap, size_outside}

-- the words of all gaps are the sum of their sizes
pub gap_words-sum : (ps : List Tile) → gap_words ps ≡ sum_by (λ (run : Extent). run.size) (gaps ps)
gap_words-sum [] = refl
gap_words-sum (p ∷ ps) = go p.live (gap_words-sum ps)
  where
    go : (kind : Bool) → gap_words ps ≡ sum_by (λ (run : Extent). run.size) (gaps ps) → cond kind (gap_words ps) (p.size + gap_words ps) ≡ sum_by (λ (run : Extent). run.size) (cond kind (gaps ps) (tile_extent p ∷ gaps ps))
    go true e = e
    go false e = ap (λ (x : ℕ). p.size + x) e ∙ sym (sum_by-cons (λ (run : Extent). run.size) (tile_extent p) (gaps ps))

add_more : (a b c d : ℕ) → b ≡ c + d → a + b ≡ (a + c) + d
add_more a b c d e = omega arith

shift : (x y z w : ℕ) → (x + y) + z ≡ w → x + (y + z) ≡ w
shift x y z w e = omega arith

drop_one : (x y z w : ℕ) → (x + y) + z ≤ w → x + z ≤ w
drop_one x y z w e = omega arith

shift_le : (x y z w : ℕ) → (x + y) + z ≤ w → x + (y + z) ≤ w
shift_le x y z w e = omega arith

pub gap_words-append : (ps qs : List Tile) → gap_words (ps ++ qs) ≡ gap_words ps + gap_words qs
gap_words-append [] qs = omega arith
gap_words-append (p ∷ ps) qs = go p.live (gap_words-append ps qs)
  where
    go : (kind : Bool) → gap_words (ps ++ qs) ≡ gap_words ps + gap_words qs → cond kind (gap_words (ps ++ qs)) (p.size + gap_words (ps ++ qs)) ≡ cond kind (gap_words ps) (p.size + gap_words ps) + gap_words qs
    go true e = e
    go false e = add_more p.size (gap_words (ps ++ qs)) (gap_words ps) (gap_words qs) e

-- tiles of which none is live have all their words in gaps
pub gap_words-free : (ws : List ℕ) (a : ℕ) (ps : List Tile) (b : ℕ) → Fill ws a ps b → lives ps ≡ [] → a + gap_words ps ≡ b
gap_words-free ws a [] b h free = omega (arith, h)
gap_words-free ws a (p ∷ ps) b h free = go p.live free (λ e. gap_words-free ws (a + p.size) ps b h.1 e)
  where
    go : (kind : Bool) → cond kind (tile_extent p ∷ lives ps) (lives ps) ≡ [] → (lives ps ≡ [] → (a + p.size) + gap_words ps ≡ b) → a + cond kind (gap_words ps) (p.size + gap_words ps) ≡ b
    go true e rest = cc
    go false e rest = let r = rest e in shift a p.size (gap_words ps) b r

-- all gaps lie between the ends
pub gap_words-le : (ws : List ℕ) (a : ℕ) (ps : List Tile) (b : ℕ) → Fill ws a ps b → a + gap_words ps ≤ b
gap_words-le ws a [] b h = omega (arith, h)
gap_words-le ws a (p ∷ ps) b h = go p.live (gap_words-le ws (a + p.size) ps b h.1)
  where
    go : (kind : Bool) → (a + p.size) + gap_words ps ≤ b → a + cond kind (gap_words ps) (p.size + gap_words ps) ≤ b
    go true rest = drop_one a p.size (gap_words ps) b rest
    go false rest = shift_le a p.size (gap_words ps) b rest

-- no gap is larger than the largest
pub size_le : (ws : List ℕ) (a : ℕ) (ps : List Tile) (b q : ℕ) → Fill ws a ps b → size_at ps q ≤ largest_of (gaps ps)
size_le ws a [] b q h = omega arith
size_le ws a (p ∷ ps) b q h = elim (cases_Bool p.live) [
  | inl live ↦
      let same : largest_of (gaps (p ∷ ps)) ≡ largest_of (gaps ps) = ap (λ (k : Bool). largest_of (cond k (gaps ps) (tile_extent p ∷ gaps ps))) live in
      omega (arith, here_live p q live, size_le ws (a + p.size) ps b q h.1)
  | inr gap ↦
      let same : largest_of (gaps (p ∷ ps)) ≡ max p.size (largest_of (gaps ps)) = ap (λ (k : Bool). largest_of (cond k (gaps ps) (tile_extent p ∷ gaps ps))) gap in
      elim (cases_eq p.place q) [
        | inr other ↦ omega (arith, here_other p q other, size_le ws (a + p.size) ps b q h.1)
        | inl here_is ↦
            let later : size_at ps q ≡ 0 = size_outside ws (a + p.size) ps b q h.1 (inl (omega (arith, h.0.place, h.0.enough))) in
            omega (arith, here_gap p q here_is gap)
      ]
]

pub largest_le : (ws : List ℕ) (a : ℕ) (ps : List Tile) (b m : ℕ) → Fill ws a ps b → a % 2 ≡ 0 → ((q : ℕ) → q % 2 ≡ 0 → size_at ps q ≤ m) → largest_of (gaps ps) ≤ m
largest_le ws a [] b m h even each = omega arith
largest_le ws a (p ∷ ps) b m h even each =
    let rest : largest_of (gaps ps) ≤ m = largest_le ws (a + p.size) ps b m h.1 (omega (arith, h.0.even)) (λ q e. omega (arith, each q e)) in
    elim (cases_Bool p.live) [
      | inl live ↦
          let same : largest_of (gaps (p ∷ ps)) ≡ largest_of (gaps ps) = ap (λ (k : Bool). largest_of (cond k (gaps ps) (tile_extent p ∷ gaps ps))) live in omega arith
      | inr gap ↦
          let same : largest_of (gaps (p ∷ ps)) ≡ max p.size (largest_of (gaps ps)) = ap (λ (k : Bool). largest_of (cond k (gaps ps) (tile_extent p ∷ gaps ps))) gap in
          omega (arith, here_gap p p.place refl gap, each p.place (omega (arith, h.0.place)))
    ]

-- the largest number of the index is the size of the largest gap
pub largest_is : (ws : List ℕ) (from : ℕ) (numbers : List ℕ) → from % 2 ≡ 0 → Fill ws from (tiles ws from) (length ws) → IsIndexed ws from numbers → largest numbers ≡ largest_of (gaps (tiles ws from))
largest_is ws from numbers even h indexed =
    let low : largest numbers ≤ largest_of (gaps (tiles ws from)) = largest_least numbers (largest_of (gaps (tiles ws from))) (λ i inside. omega (arith, indexed.told i, size_le ws from (tiles ws from) (length ws) (i + i) h)) in
    let high : largest_of (gaps (tiles ws from)) ≤ largest numbers = largest_le ws from (tiles ws from) (length ws) (largest numbers) h even (λ q e.
    let place : q / 2 + q / 2 ≡ q = omega arith in
    let same : get_or numbers (q / 2) 0 ≡ size_at (tiles ws from) q = indexed.told (q / 2) ∙ ap (λ (x : ℕ). size_at (tiles ws from) x) place in
    omega (arith, largest_bound numbers (q / 2))) in
    omega arith

-- where gaps begin two words from each other, the first one has two words
pub next_gap : (ws : List ℕ) (a : ℕ) (ps : List Tile) (b q : ℕ) → Fill ws a ps b → size_at ps q ≢ 0 → size_at ps (q + 2) ≢ 0 → size_at ps q ≡ 2
next_gap ws a [] b q h some more = absurd (some refl)
next_gap ws a (p ∷ ps) b q h some more =
    let wide = h.0.enough in
    let place = h.0.place in
    elim (cases_Bool p.live) [
      | inl live ↦
          omega (arith, here_live p q live, next_gap ws (a + p.size) ps b q h.1 (λ e. some (omega (arith, here_live p q live))) (λ e. more (omega (arith, here_live p (q + 2) live))))
      | inr gap ↦ elim (cases_eq p.place q) [
        | inr other ↦
            let later : size_at ps q ≢ 0 = λ e. some (omega (arith, here_other p q other)) in
            let behind : a + p.size ≤ q = elim (cases_lt q (a + p.size)) [
              | inl low ↦ absurd (later (size_outside ws (a + p.size) ps b q h.1 (inl low)))
              | inr high ↦ high
            ] in
            omega (arith, here_other p q other, next_gap ws (a + p.size) ps b q h.1 later (λ e. more (omega (arith, here_other p (q + 2) (λ x. omega arith)))))
        | inl same ↦
            let later : size_at ps q ≡ 0 = size_outside ws (a + p.size) ps b q h.1 (inl (omega arith)) in
            elim (cases_lt (q + 2) (a + p.size)) [
              | inl low ↦ absurd (more (omega (arith, here_other p (q + 2) (λ x. omega arith), size_outside ws (a + p.size) ps b (q + 2) h.1 (inl low))))
              | inr high ↦ omega (arith, here_gap p q same gap)
            ]
      ]
    ]

-- the sizes of the gaps that begin in the same four words may stand in one pair
pub pair_stands : (ws : List ℕ) (a : ℕ) (ps : List Tile) (b k : ℕ) → Fill ws a ps b → size_at ps (k + k) ≢ 0 → MayStand k (size_at ps (k + k)) (size_at ps (other_half k + other_half k))
pair_stands ws a ps b k h some other = elim (cases_eq (k % 2) 0) [
  | inl first ↦
      let place : other_half k + other_half k ≡ (k + k) + 2 = omega arith in
      let two = next_gap ws a ps b (k + k) h some (λ e. other (ap (λ (x : ℕ). size_at ps x) place ∙ e)) in
      ap (λ (t : Bool). cond t (size_at ps (k + k)) (size_at ps (other_half k + other_half k))) (eq-eqb (k % 2) 0 first) ∙ two
  | inr second ↦
      let place : (other_half k + other_half k) + 2 ≡ k + k = omega arith in
      let two = next_gap ws a ps b (other_half k + other_half k) h other (λ e. some (ap (λ (x : ℕ). size_at ps x) (sym place) ∙ e)) in
      ap (λ (t : Bool). cond t (size_at ps (k + k)) (size_at ps (other_half k + other_half k))) (ne_eqb (k % 2) 0 second) ∙ two
]
