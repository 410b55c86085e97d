-- What follows if blocks may be taken and freed: the live blocks are ordered by place, and the
-- windows may come to name other live blocks.
use Rattle.std.proofs.Common.{◌≡◌, ℕ, ◌+◌, ◌≤◌, Bool, true, false, cond, List, [], ◌∷◌, length}
use Rattle.std.proofs.Common.{slice_index, refl, sym, ap, ◌∙◌, subst, arith}
use Rattle.seg_words.specs.declared.gaps.Extent.{Extent}
use Rattle.seg_words.specs.Windows.{Aside}
use Rattle.sma_blocks.specs.declared.sma.Sma.{Sma}
use Rattle.sma_blocks.specs.Tiles.{Tile, tiles, Fill}
use Rattle.sma_blocks.specs.Live.{lives, live_blocks}
use Rattle.sma_blocks.specs.Ready.{NameLive, AreBlocks, IsReady}

abbrev tile_extent : Tile → Extent
tile_extent p = record { place = p.place; size = p.size }

-- the live blocks are ordered by place
blocks_from : (ws : List ℕ) (low from : ℕ) (es : List Extent) (high : ℕ) → low ≤ from
    → AreBlocks ws from es high → AreBlocks ws low es high
blocks_from ws low from [] high le h = omega (arith, h)
blocks_from ws low from (e ∷ es) high le h = (omega (arith, h.0), h.1, h.2, h.3)

pub lives_stand : (ws : List ℕ) (a : ℕ) (ps : List Tile) (b : ℕ) → Fill ws a ps b
    → AreBlocks ws a (lives ps) b
lives_stand ws a [] b h = omega (arith, h)
lives_stand ws a (p ∷ ps) b h = go p.live refl (lives_stand ws (a + p.size) ps b h.1)
  where
    go : (live : Bool) → p.live ≡ live → AreBlocks ws (a + p.size) (lives ps) b
        → AreBlocks ws a (cond live (tile_extent p ∷ lives ps) (lives ps)) b
    go true is rest =
        let none : cond {A = ℕ} p.live 0 1 ≡ 0 = ap (λ (v : Bool). cond {A = ℕ} v 0 1) is in
        let there = ap (slice_index ws) h.0.place in
        let word : slice_index ws p.place ≡ p.size = there ∙ (h.0.word ∙ omega arith) in
        let end : a + p.size ≡ p.place + p.size = omega (arith, h.0.place) in
        let behind = subst (λ (n : ℕ). AreBlocks ws n (lives ps) b) end rest in
        (omega (arith, h.0.place), h.0.enough, word, behind)
    go false is rest = blocks_from ws a (a + p.size) (lives ps) b (omega arith) rest

-- so they are if the words are ready
pub ready_blocks : {sma : Sma} {words : List ℕ} {aside : Aside} → IsReady sma words aside
    → AreBlocks words sma.bounds.from (live_blocks words sma.bounds.from) sma.bounds.to
ready_blocks {sma} {words} {aside} ready =
    let full = ready.formatted.full in
    let stand = lives_stand words sma.bounds.from (tiles words sma.bounds.from) (length words) full in
    let blocks = live_blocks words sma.bounds.from in
    subst (λ (n : ℕ). AreBlocks words sma.bounds.from blocks n) (sym ready.end) stand

pub ready_renamed : {sma : Sma} {words : List ℕ} {old new : Aside} → IsReady sma words old
    → NameLive words new.windows (live_blocks words sma.bounds.from) → IsReady sma words new
ready_renamed h names =
    record {
      end = h.end;
      short = h.short;
      even = h.even;
      formatted = h.formatted;
      windows = names;
      indexed = h.indexed;
      linked = h.linked;
      counted = h.counted;
    }
