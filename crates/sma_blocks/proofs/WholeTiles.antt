-- Tiles that lie in one segment each.
use Rattle.std.proofs.Common.{◌≡◌, inl, inr, ℕ, Bool, true, false, cond, ◌&&◌, List, [], ◌∷◌, ◌++◌, sym, ◌∙◌, subst, arith}
use Rattle.std.specs.List.{Contains}
use Rattle.std.proofs.lemmas.Bool.{and_parts, and_from}
use Rattle.std.proofs.lemmas.List.Folds.{list_all-append}
use Rattle.seg_words.specs.declared.gaps.Extent.{Extent}
use Rattle.seg_words.specs.Gaps.{is_whole}
use Rattle.seg_words.specs.Members.{Contains-cases}
use Rattle.sma_blocks.specs.Tiles.{Tile, are_whole}
use Rattle.sma_blocks.specs.Live.{lives}
use Rattle.sma_blocks.proofs.LiveBlocks.{tile_extent}

whole_both : (s : ℕ) (ps qs : List Tile) → are_whole s (ps ++ qs) ≡ (are_whole s ps && are_whole s qs)
whole_both s ps qs = list_all-append (λ (tile : Tile). is_whole s tile.place tile.size) ps qs

pub whole_split : (s : ℕ) (ps qs : List Tile) → are_whole s (ps ++ qs) ≡ true → (are_whole s ps ≡ true) × (are_whole s qs ≡ true)
whole_split s ps qs h = and_parts (are_whole s ps) (are_whole s qs) (sym (whole_both s ps qs) ∙ h)

pub whole_append : (s : ℕ) (ps qs : List Tile) → are_whole s ps ≡ true → are_whole s qs ≡ true → are_whole s (ps ++ qs) ≡ true
whole_append s ps qs h k = whole_both s ps qs ∙ and_from (are_whole s ps) (are_whole s qs) h k

pub whole_head : (s : ℕ) (p : Tile) (ps : List Tile) → are_whole s (p ∷ ps) ≡ true → (is_whole s p.place p.size ≡ true) × (are_whole s ps ≡ true)
whole_head s p ps h = and_parts (is_whole s p.place p.size) (are_whole s ps) h

pub whole_cons : (s : ℕ) (p : Tile) (ps : List Tile) → is_whole s p.place p.size ≡ true → are_whole s ps ≡ true → are_whole s (p ∷ ps) ≡ true
whole_cons s p ps h k = and_from (is_whole s p.place p.size) (are_whole s ps) h k

-- a live block lies in one segment
pub lives_whole : (s : ℕ) (ps : List Tile) (e : Extent) → are_whole s ps ≡ true → Contains (lives ps) e → is_whole s e.place e.size ≡ true
lives_whole s [] e h c = absurd (omega (arith, c.1))
lives_whole s (p ∷ ps) e h c = go p.live c (whole_head s p ps h).0 (λ d. lives_whole s ps e (whole_head s p ps h).1 d)
  where
    go : (live : Bool) → Contains (cond live (tile_extent p ∷ lives ps) (lives ps)) e → is_whole s p.place p.size ≡ true → (Contains (lives ps) e → is_whole s e.place e.size ≡ true) → is_whole s e.place e.size ≡ true
    go true d here rest = elim (Contains-cases (tile_extent p) (lives ps) e d) [
      | inl same ↦ subst (λ (x : Extent). is_whole s x.place x.size ≡ true) same here
      | inr later ↦ rest later
    ]
    go false d here rest = rest d
