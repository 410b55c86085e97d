-- The gap that the index finds is the first one that is large enough.
use Rattle.std.proofs.Common.{◌≡◌, ◌≢◌, ◌⊎◌, inl, inr, ℕ, ◌+◌, ◌/◌, ◌%◌, ◌<◌, ◌≤◌, Bool, true, false, not, eqb, ◌&&◌, cond, List, [], ◌∷◌, ◌++◌, length, get_or, Some, None, refl, sym, ap, ap₂, ◌∙◌, subst, arith}
use Rattle.std.specs.Prelude.{nat_le}
use Rattle.std.specs.List.{position}
use Rattle.std.proofs.lemmas.Bool.{cases_lt, cases_eq, cases_Bool, leb-true, leb-false, false_from_ne_true}
use Rattle.std.proofs.lemmas.Bool.Decides.{nat_tests}
use Rattle.std.proofs.lemmas.List.{get_or_past}
use Rattle.std.proofs.lemmas.List.Quantifiers.{position-Some}
use Rattle.seg_words.specs.Gaps.{fits, first_fit}
use Rattle.seg_words.specs.Windows.{Aside}
use Rattle.seg_words.specs.declared.gaps.Extent.{Extent}
use Rattle.sma_blocks.specs.declared.bounds.Bounds.{Bounds}
use Rattle.sma_blocks.proofs.FilledWords.{IsFilled}
use Rattle.sma_blocks.specs.Tiles.{Tile, tiles, Fill, IsFormatted}
use Rattle.sma_blocks.specs.Live.{live_blocks}
use Rattle.sma_blocks.specs.Walk.{IsEdge}
use Rattle.sma_blocks.proofs.TileLemmas.{Fill-le, Fill-append, tiles-filled, edge_start}
use Rattle.sma_blocks.proofs.FitPlaces.{FitParts, FitNone, Fill-even, none_in_block, none_in_gap, none_fits}
use Rattle.sma_blocks.proofs.WordsAfterTake.{Room}
use Rattle.max_tree.proofs.PageLemmas.{position_None}
use Rattle.sma_blocks.specs.Index.{here, size_at, IsIndexed}

pub here_other : (p : Tile) (q : ℕ) → p.place ≢ q → here p q ≡ 0
here_other p q other = grind (arith, nat_tests)

pub here_live : (p : Tile) (q : ℕ) → p.live ≡ true → here p q ≡ 0
here_live p q live = go (eqb p.place q) p.live live
  where
    go : (b k : Bool) → k ≡ true → cond (b && not k) p.size 0 ≡ 0
    go true true e = refl
    go false true e = refl
    go b false e = cc

pub here_gap : (p : Tile) (q : ℕ) → p.place ≡ q → p.live ≡ false → here p q ≡ p.size
here_gap p q same gap = grind (arith, nat_tests)

pub size_at-append : (ps qs : List Tile) (q : ℕ) → size_at (ps ++ qs) q ≡ size_at ps q + size_at qs q
size_at-append [] qs q = omega arith
size_at-append (p ∷ ps) qs q = omega (arith, size_at-append ps qs q)

-- no gap begins outside the words that the tiles fill
pub size_outside : (ws : List ℕ) (a : ℕ) (ps : List Tile) (b q : ℕ) → Fill ws a ps b → (q < a) ⊎ (b ≤ q) → size_at ps q ≡ 0
size_outside ws a [] b q h out = refl
size_outside ws a (p ∷ ps) b q h out =
    let end : a + p.size ≤ b = Fill-le ws (a + p.size) ps b h.1 in
    let place = h.0.place in
    let enough = h.0.enough in
    let other : p.place ≢ q = λ e. elim out [ inl l ↦ omega arith | inr r ↦ omega arith ] in
    let rest : size_at ps q ≡ 0 = size_outside ws (a + p.size) ps b q h.1 (elim out [ inl l ↦ inl (omega arith) | inr r ↦ inr r ]) in
    omega (arith, here_other p q other)

pub tile_as : (p : Tile) (a : ℕ) (kind : Bool) → p.place ≡ a → p.live ≡ kind → p ≡ record { place = a; size = p.size; live = kind }
tile_as p a kind place live = ap₂ (λ (x : ℕ) (k : Bool). record { place = x; size = p.size; live = k }) place live

-- the edge behind a tile
pub edge_behind : (ws : List ℕ) (from a : ℕ) (p : Tile) (ps : List Tile) → IsEdge ws from a → Fill ws a (p ∷ ps) (length ws) → IsEdge ws from (a + p.size)
edge_behind ws from a p ps h filled = record {
  passed = h.passed ++ p ∷ [];
  before = Fill-append ws from h.passed a (p ∷ []) (a + p.size) h.before (filled.0, refl);
  after = subst (λ qs. Fill ws (a + p.size) qs (length ws)) (sym (tiles-filled ws (a + p.size) ps filled.1)) filled.1;
}

-- a gap at a place, and nothing fits before it
pub record Found (ws : List ℕ) (from to s n at size : ℕ) : Type 0 where
  pub edge : IsEdge ws from at
  pub is : tiles ws at ≡ record { place = at; size = size; live = false } ∷ tiles ws (at + size)
  pub none : (b : ℕ) → b < at → fits from to s n (live_blocks ws from) b ≡ false

module _ (parts : FitParts) (ws : List ℕ) (from to s n : ℕ) (formatted : IsFormatted ws from s) (end : to ≡ length ws) (some : 1 ≤ n) where
  pass : (a : ℕ) (p : Tile) (ps : List Tile) → IsEdge ws from a → tiles ws a ≡ p ∷ ps → p.place ≡ a → (p.live ≡ true) ⊎ ((p.live ≡ false) × (p.size < n)) → ((b : ℕ) → b < a → fits from to s n (live_blocks ws from) b ≡ false) → (b : ℕ) → b < a + p.size → fits from to s n (live_blocks ws from) b ≡ false
  pass a p ps h is place passed none b lt = elim (cases_lt b a) [
    | inl low ↦ none b low
    | inr high ↦ elim passed [
      | inl live ↦
          none_in_block ws from to s n a p.size b ps h (is ∙ ap (λ (x : Tile). x ∷ ps) (tile_as p a true place live)) some high lt
      | inr gap ↦
          none_in_gap parts ws from to s n a p.size b ps formatted end h (is ∙ ap (λ (x : Tile). x ∷ ps) (tile_as p a false place gap.0)) gap.1 high lt
    ]
  ]

  find_gap : (at size : ℕ) (ps : List Tile) (a : ℕ) → IsEdge ws from a → tiles ws a ≡ ps → ((b : ℕ) → b < a → fits from to s n (live_blocks ws from) b ≡ false) → ((q : ℕ) → q % 2 ≡ 0 → q < at → size_at ps q < n) → size_at ps at ≡ size → n ≤ size → Found ws from to s n at size
  find_gap at size [] a h is none small here enough = absurd (omega arith)
  find_gap at size (p ∷ ps) a h is none small here enough =
      let filled : Fill ws a (p ∷ ps) (length ws) = subst (λ qs. Fill ws a qs (length ws)) is h.after in
      let place : p.place ≡ a = filled.0.place in
      let wide : 2 ≤ p.size = filled.0.enough in
      let even : a % 2 ≡ 0 = Fill-even ws from h.passed a h.before formatted.even in
      let behind : tiles ws (a + p.size) ≡ ps = tiles-filled ws (a + p.size) ps filled.1 in
      elim (cases_Bool p.live) [
        | inl live ↦
            find_gap at size ps (a + p.size) (edge_behind ws from a p ps h filled) behind (pass a p ps h is place (inl live) none) (λ q e lt. omega (arith, small q e lt)) (omega (arith, here_live p at live)) enough
        | inr gap ↦ elim (cases_eq a at) [
          | inl same ↦
              let later : size_at ps at ≡ 0 = size_outside ws (a + p.size) ps (length ws) at filled.1 (inl (omega arith)) in
              let all : p.size ≡ size = omega (arith, here_gap p at (place ∙ same) gap) in
              let found : Found ws from to s n a p.size = record {
                edge = h;
                is = is ∙ ap₂ (λ (x : Tile) (qs : List Tile). x ∷ qs) (tile_as p a false place gap) (sym behind);
                none = none;
              } in
              subst (λ (x : ℕ). Found ws from to s n x size) same (subst (λ (x : ℕ). Found ws from to s n a x) all found)
          | inr apart ↦ elim (cases_lt a at) [
            | inl lower ↦
                find_gap at size ps (a + p.size) (edge_behind ws from a p ps h filled) behind (pass a p ps h is place (inr (gap, omega (arith, small a even lower, here_gap p a place gap))) none) (λ q e lt. omega (arith, small q e lt)) (omega (arith, here_other p at (λ e. apart (sym place ∙ e)))) enough
            | inr upper ↦
                absurd (omega (arith, size_outside ws a (p ∷ ps) (length ws) at filled (inl (omega arith))))
          ]
        ]
      ]

  find_none : (ps : List Tile) (a : ℕ) → IsEdge ws from a → tiles ws a ≡ ps → ((b : ℕ) → b < a → fits from to s n (live_blocks ws from) b ≡ false) → ((q : ℕ) → q % 2 ≡ 0 → size_at ps q < n) → (b : ℕ) → b < to → fits from to s n (live_blocks ws from) b ≡ false
  find_none [] a h is none small =
      let filled : Fill ws a [] (length ws) = subst (λ qs. Fill ws a qs (length ws)) is h.after in
      λ b lt. none b (omega arith)
  find_none (p ∷ ps) a h is none small =
      let filled : Fill ws a (p ∷ ps) (length ws) = subst (λ qs. Fill ws a qs (length ws)) is h.after in
      let place : p.place ≡ a = filled.0.place in
      let even : a % 2 ≡ 0 = Fill-even ws from h.passed a h.before formatted.even in
      let behind : tiles ws (a + p.size) ≡ ps = tiles-filled ws (a + p.size) ps filled.1 in
      let passed : (p.live ≡ true) ⊎ ((p.live ≡ false) × (p.size < n)) = elim (cases_Bool p.live) [
        | inl live ↦ inl live
        | inr gap ↦ inr (gap, omega (arith, small a even, here_gap p a place gap))
      ] in
      find_none ps (a + p.size) (edge_behind ws from a p ps h filled) behind (pass a p ps h is place passed none) (λ q e. omega (arith, small q e))

below_first : FitParts → (from to s n b : ℕ) (es : List Extent) → b < from → fits from to s n es b ≡ false
below_first parts from to s n b es lt =
    false_from_ne_true (fits from to s n es b) (λ t. omega (arith, (parts from to s n b es t).1))

-- no number passes
none_at : (p : ℕ → Bool) (xs : List ℕ) (n : ℕ) → position p xs ≡ None → 2 ≤ n → ((v : ℕ) → p v ≡ false → v < n) → (k : ℕ) → get_or xs k 0 < n
none_at p xs n nowhere some small k = elim (cases_lt k (length xs)) [
  | inl inside ↦ small _ (position_None p xs nowhere k inside)
  | inr past ↦ let zero : get_or xs k 0 ≡ 0 = get_or_past xs k 0 past in omega arith
]

-- what is known of an index where a number is found
pub take_found : FitParts → (bounds : Bounds) (ws : List ℕ) (aside : Aside) (numbers : List ℕ) (n index at : ℕ) → IsFilled bounds ws aside → IsIndexed ws bounds.from numbers → position (λ value. nat_le n value) numbers ≡ Some index → n % 2 ≡ 0 → 2 ≤ n → at ≡ index + index → Room bounds ws aside at (get_or numbers index 0) n × ((b : ℕ) → b < at → fits bounds.from bounds.to bounds.piece n (live_blocks ws bounds.from) b ≡ false)
take_found parts bounds ws aside numbers n index at ready indexed found even some twice =
    let first = position-Some (λ value. nat_le n value) numbers index 0 found in
    let enough : n ≤ get_or numbers index 0 = leb-true n _ first.1 in
    let size : size_at (tiles ws bounds.from) at ≡ get_or numbers index 0 = ap (λ (q : ℕ). size_at (tiles ws bounds.from) q) twice ∙ sym (indexed.told index) in
    let small : (q : ℕ) → q % 2 ≡ 0 → q < at → size_at (tiles ws bounds.from) q < n = λ q e lt.
    let half : q / 2 + q / 2 ≡ q = omega arith in
    let same : get_or numbers (q / 2) 0 ≡ size_at (tiles ws bounds.from) q = indexed.told (q / 2) ∙ ap (λ (x : ℕ). size_at (tiles ws bounds.from) x) half in
    omega (arith, leb-false n _ (first.2 (q / 2) (omega arith))) in
    let full = ready.formatted.full in
    let there = find_gap parts ws bounds.from bounds.to bounds.piece n ready.formatted ready.end (omega arith) at (get_or numbers index 0) (tiles ws bounds.from) bounds.from (edge_start ws bounds.from full) refl (λ b lt. below_first parts bounds.from bounds.to bounds.piece n b _ lt) small size enough in
    (record { ready = ready; edge = there.edge; is = there.is; even = even; some = some; enough = enough }, there.none)

-- where no number is large enough
pub take_none : FitParts → FitNone → (bounds : Bounds) (ws : List ℕ) (aside : Aside) (numbers : List ℕ) (n : ℕ) → IsFilled bounds ws aside → IsIndexed ws bounds.from numbers → position (λ value. nat_le n value) numbers ≡ None → 2 ≤ n → first_fit bounds.from bounds.to bounds.piece n (live_blocks ws bounds.from) ≡ None
take_none parts none bounds ws aside numbers n ready indexed nowhere some =
    let small : (q : ℕ) → q % 2 ≡ 0 → size_at (tiles ws bounds.from) q < n = λ q e.
    let half : q / 2 + q / 2 ≡ q = omega arith in
    let same : get_or numbers (q / 2) 0 ≡ size_at (tiles ws bounds.from) q = indexed.told (q / 2) ∙ ap (λ (x : ℕ). size_at (tiles ws bounds.from) x) half in
    omega (arith, none_at (λ value. nat_le n value) numbers n nowhere some (λ v e. leb-false n v e) (q / 2)) in
    none_fits parts none bounds.from bounds.to bounds.piece n bounds.to (live_blocks ws bounds.from) (omega arith) (omega arith)
    (find_none parts ws bounds.from bounds.to bounds.piece n ready.formatted ready.end (omega arith) (tiles ws bounds.from) bounds.from (edge_start ws bounds.from ready.formatted.full) refl (λ b lt. below_first parts bounds.from bounds.to bounds.piece n b _ lt) small)

-- a gap at a place, and the tiles round it
pub record GapAt (ws : List ℕ) (from at size : ℕ) : Type 0 where
  pub edge : IsEdge ws from at
  pub is : tiles ws at ≡ record { place = at; size = size; live = false } ∷ tiles ws (at + size)

pub gap_there : (ws : List ℕ) (from at size : ℕ) (ps : List Tile) (a : ℕ) → IsEdge ws from a → tiles ws a ≡ ps → size_at ps at ≡ size → 1 ≤ size → GapAt ws from at size
gap_there ws from at size [] a h is here some = absurd (omega arith)
gap_there ws from at size (p ∷ ps) a h is here some =
    let filled : Fill ws a (p ∷ ps) (length ws) = subst (λ qs. Fill ws a qs (length ws)) is h.after in
    let place : p.place ≡ a = filled.0.place in
    let wide : 2 ≤ p.size = filled.0.enough in
    let behind : tiles ws (a + p.size) ≡ ps = tiles-filled ws (a + p.size) ps filled.1 in
    elim (cases_Bool p.live) [
      | inl live ↦
          gap_there ws from at size ps (a + p.size) (edge_behind ws from a p ps h filled) behind (omega (arith, here_live p at live)) some
      | inr gap ↦ elim (cases_eq a at) [
        | inr apart ↦
            gap_there ws from at size ps (a + p.size) (edge_behind ws from a p ps h filled) behind (omega (arith, here_other p at (λ e. apart (sym place ∙ e)))) some
        | inl same ↦
            let later : size_at ps at ≡ 0 = size_outside ws (a + p.size) ps (length ws) at filled.1 (inl (omega arith)) in
            let all : p.size ≡ size = omega (arith, here_gap p at (place ∙ same) gap) in
            let found : GapAt ws from a p.size = record {
              edge = h;
              is = is ∙ ap₂ (λ (x : Tile) (qs : List Tile). x ∷ qs) (tile_as p a false place gap) (sym behind);
            } in
            subst (λ (x : ℕ). GapAt ws from x size) same (subst (λ (x : ℕ). GapAt ws from a x) all found)
      ]
    ]

-- where the index tells a size, a gap stands
pub gap_told : (ws : List ℕ) (from : ℕ) (numbers : List ℕ) (q : ℕ) {s : ℕ} → IsFormatted ws from s → IsIndexed ws from numbers → get_or numbers q 0 ≢ 0 → GapAt ws from (q + q) (get_or numbers q 0)
gap_told ws from numbers q {s} formatted indexed some =
    gap_there ws from (q + q) (get_or numbers q 0) (tiles ws from) from (edge_start ws from formatted.full) refl (sym (indexed.told q)) (positive (get_or numbers q 0) some)
  where
    positive : (n : ℕ) → n ≢ 0 → 1 ≤ n
    positive n some = elim (cases_lt 0 n) [ inl more ↦ omega arith | inr none ↦ absurd (some (omega arith)) ]

-- no gap begins at an odd place
pub size_odd : (ws : List ℕ) (a : ℕ) (ps : List Tile) (b q : ℕ) → Fill ws a ps b → a % 2 ≡ 0 → q % 2 ≡ 1 → size_at ps q ≡ 0
size_odd ws a [] b q h even odd = refl
size_odd ws a (p ∷ ps) b q h even odd =
    let place = h.0.place in
    let size = h.0.even in
    omega (arith, here_other p q (λ e. omega arith), size_odd ws (a + p.size) ps b q h.1 (omega arith) odd)
