-- The gap that begins where a block ends, by the index.
use Rattle.std.proofs.Common.{◌≡◌, ℕ, ◌+◌, ◌-◌, ◌/◌, ◌%◌, ◌<◌, ◌≤◌, Bool, true, false, List, [], ◌∷◌, length, get_or, refl, ap, ◌∙◌, subst, inl, inr, arith}
use Rattle.std.proofs.lemmas.Bool.{cases_Bool}
use Rattle.seg_words.specs.Gaps.{is_whole}
use Rattle.sma_blocks.specs.Tiles.{Tile, tiles, Fill, IsFormatted}
use Rattle.sma_blocks.specs.Walk.{IsEdge, IsFreeAfter}
use Rattle.sma_blocks.specs.Index.{size_at, IsIndexed}
use Rattle.sma_blocks.proofs.TileLemmas.{Fill-le, edge_whole}
use Rattle.sma_blocks.proofs.FitPlaces.{Fill-even}
use Rattle.sma_blocks.proofs.FirstFit.{here_live, here_gap, size_at-append, size_outside}
use Rattle.sma_blocks.proofs.WordsAfterGive.{after_live, after_gap}

tile_by_parts : (p : Tile) (place : ℕ) (live : Bool) → p.place ≡ place → p.live ≡ live → p ≡ record { place = place; size = p.size; live = live }
tile_by_parts p place live at kind =
    ap (λ (x : ℕ). record { place = x; size = p.size; live = p.live }) at ∙ ap (λ (b : Bool). record { place = place; size = p.size; live = b }) kind

-- The number at an edge is the size of the gap that begins there, or 0.
pub tells_after : (ws : List ℕ) (from end : ℕ) (numbers : List ℕ) {s : ℕ} → IsFormatted ws from s → IsEdge ws from end → IsIndexed ws from numbers → end < length ws → is_whole s (end - 1) 2 ≡ true → IsFreeAfter ws s end (end + get_or numbers (end / 2) 0) × (end + get_or numbers (end / 2) 0 ≤ length ws)
tells_after ws from end numbers {s} formatted h indexed inside joined = go (tiles ws end) refl h.after
  where
    told : get_or numbers (end / 2) 0 ≡ size_at (tiles ws end) end
    told =
        let even : end % 2 ≡ 0 = Fill-even ws from h.passed end h.before formatted.even in
        let half : end / 2 + end / 2 ≡ end = omega arith in
        let before : size_at h.passed end ≡ 0 = size_outside ws from h.passed end end h.before (inr (omega arith)) in
        let whole : size_at (tiles ws from) end ≡ size_at h.passed end + size_at (tiles ws end) end = ap (λ ps. size_at ps end) (edge_whole ws from end h) ∙ size_at-append h.passed (tiles ws end) end in
        let same : get_or numbers (end / 2) 0 ≡ size_at (tiles ws from) end = indexed.told (end / 2) ∙ ap (λ (x : ℕ). size_at (tiles ws from) x) half in
        omega arith

    go : (ps : List Tile) → tiles ws end ≡ ps → Fill ws end (tiles ws end) (length ws) → IsFreeAfter ws s end (end + get_or numbers (end / 2) 0) × (end + get_or numbers (end / 2) 0 ≤ length ws)
    go [] is f =
        let none : Fill ws end [] (length ws) = subst (λ qs. Fill ws end qs (length ws)) is f in
        absurd (omega (arith, none))
    go (p ∷ rest) is f =
        let filled : Fill ws end (p ∷ rest) (length ws) = subst (λ qs. Fill ws end qs (length ws)) is f in
        let place : p.place ≡ end = filled.0.place in
        let wide = filled.0.enough in
        let most : end + p.size ≤ length ws = Fill-le ws (end + p.size) rest (length ws) filled.1 in
        let later : size_at rest end ≡ 0 = size_outside ws (end + p.size) rest (length ws) end filled.1 (inl (omega arith)) in
        let number : get_or numbers (end / 2) 0 ≡ size_at (p ∷ rest) end = told ∙ ap (λ qs. size_at qs end) is in
        elim (cases_Bool p.live) [
          | inl live ↦
              let zero : get_or numbers (end / 2) 0 ≡ 0 = omega (arith, here_live p end live) in
              let stands = after_live ws from end p.size rest formatted h (is ∙ ap (λ (q : Tile). q ∷ rest) (tile_by_parts p end true place live)) in
              (subst (λ (m : ℕ). IsFreeAfter ws s end m) (omega arith) stands, omega arith)
          | inr gap ↦
              let size : get_or numbers (end / 2) 0 ≡ p.size = omega (arith, here_gap p end place gap) in
              let stands = after_gap ws from end p.size rest formatted h (is ∙ ap (λ (q : Tile). q ∷ rest) (tile_by_parts p end false place gap)) joined in
              (subst (λ (m : ℕ). IsFreeAfter ws s end m) (omega arith) stands, omega arith)
        ]
