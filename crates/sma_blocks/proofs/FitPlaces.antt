-- The places at which a block fits, along the walk.
use Rattle.std.proofs.Common.{◌≡◌, ◌⊎◌, inl, inr, ℕ, ◌+◌, ◌-◌, ◌%◌, ◌<◌, ◌≤◌, Bool, true, false, not, eqb, leb, ◌&&◌, List, [], ◌∷◌, ◌++◌, length, Some, None, refl, sym, ap, ◌∙◌, subst, arith}
use Rattle.std.proofs.lemmas.Bool.{and_left, and_right, and_from, cases_lt, cases_Bool, false≢true, false_from_ne_true}
use Rattle.seg_words.specs.declared.gaps.Extent.{Extent}
use Rattle.seg_words.specs.Gaps.{meets, is_free, is_whole, fits, first_fit}
use Rattle.seg_words.specs.Segments.{whole_part}
use Rattle.sma_blocks.proofs.WholeTiles.{whole_head, whole_split}
use Rattle.sma_blocks.specs.Tiles.{Tile, tiles, Fill, gaps_touch, are_whole, IsFormatted}
use Rattle.sma_blocks.specs.Live.{lives, live_blocks}
use Rattle.sma_blocks.specs.Walk.{IsEdge, ends_in_gap}
use Rattle.sma_blocks.proofs.TileLemmas.{Fill-le, edge_whole}
use Rattle.sma_blocks.proofs.LiveBlocks.{tile_extent, lives-append, free_outside, is_free-append, not_free_at, meets_at}
use Rattle.sma_blocks.proofs.TouchingGaps.{merged_back, merged_gap, live_after_gap}

-- what the crate below promises of the words on free places
abbrev pub FitParts : Type 0
FitParts = (from to s n a : ℕ) (es : List Extent) → fits from to s n es a ≡ true → (a % 2 ≡ 0) × (from ≤ a) × (a + n ≤ to) × (is_free a n es ≡ true) × (is_whole s a n ≡ true)

abbrev pub FitWhole : Type 0
FitWhole = (from to s n a : ℕ) (es : List Extent) → a % 2 ≡ 0 → from ≤ a → a + n ≤ to → is_free a n es ≡ true → is_whole s a n ≡ true → fits from to s n es a ≡ true

abbrev pub FitSome : Type 0
FitSome = (from to s n a : ℕ) (es : List Extent) → fits from to s n es a ≡ true → ((b : ℕ) → b < a → fits from to s n es b ≡ false) → first_fit from to s n es ≡ Some a

abbrev pub FitNone : Type 0
FitNone = (from to s n : ℕ) (es : List Extent) → ((b : ℕ) → fits from to s n es b ≡ false) → first_fit from to s n es ≡ None

-- nothing fits that would end past the end
fits_past : FitParts → (from to s n : ℕ) (es : List Extent) (a : ℕ) → to < a + n → fits from to s n es a ≡ false
fits_past parts from to s n es a past = false_from_ne_true (fits from to s n es a) (λ t. omega (arith, (parts from to s n a es t).2))

pub Fill-even : (ws : List ℕ) (a : ℕ) (ps : List Tile) (b : ℕ) → Fill ws a ps b → a % 2 ≡ 0 → b % 2 ≡ 0
Fill-even ws a [] b h even = subst (λ x. x % 2 ≡ 0) h even
Fill-even ws a (p ∷ ps) b h even = Fill-even ws (a + p.size) ps b h.1 (omega (arith, h.0.even))

-- nothing fits where a word is not free
fits_not_free : (from to s n : ℕ) (es : List Extent) (b : ℕ) → is_free b n es ≡ false → fits from to s n es b ≡ false
fits_not_free from to s n es b h = and_left (eqb (b % 2) 0 && leb from b && leb (b + n) to && is_free b n es) (is_whole s b n) (and_right (eqb (b % 2) 0 && leb from b && leb (b + n) to) (is_free b n es) h)

-- nor where the words lie in two segments
fits_not_whole : (from to s n : ℕ) (es : List Extent) (b : ℕ) → is_whole s b n ≡ false → fits from to s n es b ≡ false
fits_not_whole from to s n es b h = and_right (eqb (b % 2) 0 && leb from b && leb (b + n) to && is_free b n es) (is_whole s b n) h

pub blocks_at : (ws : List ℕ) (from at : ℕ) (h : IsEdge ws from at) → live_blocks ws from ≡ lives h.passed ++ lives (tiles ws at)
blocks_at ws from at h = ap lives (edge_whole ws from at h) ∙ lives-append h.passed (tiles ws at)

-- nothing fits at a place inside a live block
pub none_in_block : (ws : List ℕ) (from to s n at size b : ℕ) (rest : List Tile) → IsEdge ws from at → tiles ws at ≡ record { place = at; size = size; live = true } ∷ rest → 1 ≤ n → at ≤ b → b < at + size → fits from to s n (live_blocks ws from) b ≡ false
none_in_block ws from to s n at size b rest h is some low high =
    let e : Extent = record { place = at; size = size } in
    let all : live_blocks ws from ≡ lives h.passed ++ e ∷ lives rest = blocks_at ws from at h ∙ ap (λ ps. lives h.passed ++ lives ps) is in
    let met : meets b n e ≡ true = meets_at b n e (omega arith) in
    fits_not_free from to s n (live_blocks ws from) b (ap (is_free b n) all ∙ not_free_at b n (lives h.passed) e (lives rest) met)

-- nothing fits at a place inside a gap that is too small
pub none_in_gap : FitParts → (ws : List ℕ) (from to s n at size b : ℕ) (rest : List Tile) → IsFormatted ws from s → to ≡ length ws → IsEdge ws from at → tiles ws at ≡ record { place = at; size = size; live = false } ∷ rest → size < n → at ≤ b → b < at + size → fits from to s n (live_blocks ws from) b ≡ false
none_in_gap parts ws from to s n at size b rest formatted end h is small low high =
    let gap : Tile = record { place = at; size = size; live = false } in
    let filled : Fill ws at (gap ∷ rest) (length ws) = subst (λ ps. Fill ws at ps (length ws)) is h.after in
    let merged : gaps_touch s false (h.passed ++ tiles ws at) ≡ false = sym (ap (gaps_touch s false) (edge_whole ws from at h)) ∙ formatted.merged in
    let touch : gaps_touch s (ends_in_gap false h.passed) (gap ∷ rest) ≡ false = subst (λ ps. gaps_touch s (ends_in_gap false h.passed) ps ≡ false) is (merged_back s h.passed (tiles ws at) merged) in
    let apart : gaps_touch s true rest ≡ false = (merged_gap s (ends_in_gap false h.passed) gap rest refl touch).1 in
    let all : live_blocks ws from ≡ lives h.passed ++ lives rest = blocks_at ws from at h ∙ ap (λ ps. lives h.passed ++ lives ps) is in
    go rest all filled.1 apart
  where
    go : (qs : List Tile) → live_blocks ws from ≡ lives h.passed ++ lives qs → Fill ws (at + size) qs (length ws) → gaps_touch s true qs ≡ false → fits from to s n (live_blocks ws from) b ≡ false
    go [] all f apart = fits_past parts from to s n (live_blocks ws from) b (omega (arith, f))
    go (q ∷ qs) all f apart =
        let reach : q.place < b + n = omega (arith, f.0.place) in
        elim (live_after_gap s q qs apart) [
          | inl live ↦
              let blocks : lives (q ∷ qs) ≡ tile_extent q ∷ lives qs = rw live refl in
              let met : meets b n (tile_extent q) ≡ true = meets_at b n (tile_extent q) (omega (arith, f.0.place, f.0.enough)) in
              fits_not_free from to s n (live_blocks ws from) b (ap (is_free b n) (all ∙ ap (λ es. lives h.passed ++ es) blocks) ∙ not_free_at b n (lives h.passed) (tile_extent q) (lives qs) met)
          | inr border ↦
              fits_not_whole from to s n (live_blocks ws from) b (false_from_ne_true (is_whole s b n) (λ t. false≢true (sym border.1 ∙ whole_part s b n (q.place - 1) 2 t (omega (arith, f.0.place)) (omega (arith, f.0.place)) (omega arith))))
        ]

-- the tile at an edge lies in one segment
pub whole_at : (ws : List ℕ) (from s at : ℕ) (h : IsEdge ws from at) {p : Tile} (ps : List Tile) → IsFormatted ws from s → tiles ws at ≡ p ∷ ps → is_whole s p.place p.size ≡ true
whole_at ws from s at h {p} ps formatted is =
    let all : are_whole s (h.passed ++ (p ∷ ps)) ≡ true = sym (ap (are_whole s) (edge_whole ws from at h ∙ ap (λ qs. h.passed ++ qs) is)) ∙ formatted.whole in
    (whole_head s p ps (whole_split s h.passed (p ∷ ps) all).1).0

-- a block fits at a gap that is large enough
pub fits_in_gap : FitWhole → (ws : List ℕ) (from to s n at size : ℕ) (rest : List Tile) → IsFormatted ws from s → to ≡ length ws → IsEdge ws from at → tiles ws at ≡ record { place = at; size = size; live = false } ∷ rest → 1 ≤ n → n ≤ size → fits from to s n (live_blocks ws from) at ≡ true
fits_in_gap fit ws from to s n at size rest formatted end h is some enough =
    let gap : Tile = record { place = at; size = size; live = false } in
    let filled : Fill ws at (gap ∷ rest) (length ws) = subst (λ ps. Fill ws at ps (length ws)) is h.after in
    let high : at + size ≤ length ws = Fill-le ws (at + size) rest (length ws) filled.1 in
    let low : from ≤ at = Fill-le ws from h.passed at h.before in
    let all : live_blocks ws from ≡ lives h.passed ++ lives rest = blocks_at ws from at h ∙ ap (λ ps. lives h.passed ++ lives ps) is in
    let left : is_free at n (lives h.passed) ≡ true = free_outside ws from h.passed at at n h.before (inr (omega arith)) in
    let right : is_free at n (lives rest) ≡ true = free_outside ws (at + size) rest (length ws) at n filled.1 (inl (omega arith)) in
    let free : is_free at n (live_blocks ws from) ≡ true = ap (is_free at n) all ∙ is_free-append at n (lives h.passed) (lives rest) ∙ and_from (is_free at n (lives h.passed)) (is_free at n (lives rest)) left right in
    fit from to s n at (live_blocks ws from) (Fill-even ws from h.passed at h.before formatted.even) low (omega arith) free
    (whole_part s at size at n (whole_at ws from s at h rest formatted is) (omega arith) (omega arith) some)

-- the tile that was read, in the words as they were
pub tile_seen : (old now : List ℕ) (at size : ℕ) (is_gap kind : Bool) → now ≡ old → is_gap ≡ kind → tiles now at ≡ record { place = at; size = size; live = not is_gap } ∷ tiles now (at + size) → tiles old at ≡ record { place = at; size = size; live = not kind } ∷ tiles old (at + size)
tile_seen old now at size is_gap kind same known is =
    subst (λ b. tiles old at ≡ record { place = at; size = size; live = not b } ∷ tiles old (at + size)) known (subst (λ ws. tiles ws at ≡ record { place = at; size = size; live = not is_gap } ∷ tiles ws (at + size)) same is)

-- nothing fits at a place inside a tile that is passed
pub none_in_passed : FitParts → (ws : List ℕ) (from to s n at size b : ℕ) (now : List ℕ) (is_gap : Bool) → IsFormatted ws from s → to ≡ length ws → IsEdge ws from at → now ≡ ws → tiles now at ≡ record { place = at; size = size; live = not is_gap } ∷ tiles now (at + size) → 1 ≤ n → (is_gap ≡ false) ⊎ (size < n) → at ≤ b → b < at + size → fits from to s n (live_blocks ws from) b ≡ false
none_in_passed parts ws from to s n at size b now is_gap formatted end h same is some passed low high = elim (cases_Bool is_gap) [
  | inl gap ↦ elim passed [
    | inl live ↦ absurd (false≢true (sym live ∙ gap))
    | inr small ↦ none_in_gap parts ws from to s n at size b (tiles ws (at + size)) formatted end h (tile_seen ws now at size is_gap true same gap is) small low high
  ]
  | inr live ↦ none_in_block ws from to s n at size b (tiles ws (at + size)) h (tile_seen ws now at size is_gap false same live is) some low high
]

-- nothing fits at all
pub none_fits : FitParts → FitNone → (from to s n at : ℕ) (blocks : List Extent) → 1 ≤ n → to ≤ at → ((b : ℕ) → b < at → fits from to s n blocks b ≡ false) → first_fit from to s n blocks ≡ None
none_fits parts none from to s n at blocks some past none_below = none from to s n blocks (λ b. elim (cases_lt b at) [
  | inl low ↦ none_below b low
  | inr high ↦ fits_past parts from to s n blocks b (omega arith)
])
