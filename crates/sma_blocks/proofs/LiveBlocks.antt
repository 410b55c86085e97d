-- The live blocks of tiles that stand side by side.
use Rattle.std.proofs.Common.{◌≡◌, ◌≢◌, ◌⊎◌, inl, inr, ℕ, ◌+◌, ◌<◌, ◌≤◌, Bool, true, false, not, eqb, ltb, cond, ◌&&◌, List, [], ◌∷◌, ◌++◌, max, min, refl, ap, ◌∙◌, arith}
use Rattle.std.proofs.lemmas.Bool.Decides.{nat_tests}
use Rattle.std.proofs.lemmas.Bool.{and_left, and_right, not_from_true, lt-ltb, le-ltb}
use Rattle.std.specs.List.{Contains}
use Rattle.std.proofs.lemmas.List.Folds.{list_all-append}
use Rattle.std.proofs.lemmas.List.Elements.{filter-append}
use Rattle.seg_words.specs.declared.gaps.Extent.{Extent}
use Rattle.seg_words.specs.Gaps.{meets, is_free}
use Rattle.seg_words.specs.Members.{Contains-cases}
use Rattle.sma_blocks.specs.Tiles.{Tile, Fill}
use Rattle.sma_blocks.specs.Live.{lives, with_block, without_block}
use Rattle.sma_blocks.proofs.TileLemmas.{Fill-le}

abbrev pub tile_extent : Tile → Extent
tile_extent p = record { place = p.place; size = p.size }

pub lives-append : (ps qs : List Tile) → lives (ps ++ qs) ≡ lives ps ++ lives qs
lives-append [] qs = refl
lives-append (p ∷ ps) qs = go p.live (lives-append ps qs)
  where
    go : (live : Bool) → lives (ps ++ qs) ≡ lives ps ++ lives qs → cond live (tile_extent p ∷ lives (ps ++ qs)) (lives (ps ++ qs)) ≡ cond live (tile_extent p ∷ lives ps) (lives ps) ++ lives qs
    go true e = ap (λ es. tile_extent p ∷ es) e
    go false e = e

pub meets_apart : (x n : ℕ) (e : Extent) → (x + n ≤ e.place) ⊎ (e.place + e.size ≤ x) → meets x n e ≡ false
meets_apart x n e (inl h) = grind (arith, nat_tests)
meets_apart x n e (inr h) = grind (arith, nat_tests)

pub meets_at : (x n : ℕ) (e : Extent) → max x e.place < min (x + n) (e.place + e.size) → meets x n e ≡ true
meets_at x n e h = grind (arith, nat_tests)

-- words outside the tiles are free
pub free_outside : (ws : List ℕ) (a : ℕ) (ps : List Tile) (b x n : ℕ) → Fill ws a ps b → (x + n ≤ a) ⊎ (b ≤ x) → is_free x n (lives ps) ≡ true
free_outside ws a [] b x n h out = refl
free_outside ws a (p ∷ ps) b x n h out =
    let end : a + p.size ≤ b = Fill-le ws (a + p.size) ps b h.1 in
    let later : (x + n ≤ a + p.size) ⊎ (b ≤ x) = elim out [ inl l ↦ inl (omega arith) | inr r ↦ inr r ] in
    let rest : is_free x n (lives ps) ≡ true = free_outside ws (a + p.size) ps b x n h.1 later in
    let apart : (x + n ≤ p.place) ⊎ (p.place + p.size ≤ x) = elim out [ inl l ↦ inl (omega (arith, h.0.place)) | inr r ↦ inr (omega (arith, h.0.place)) ] in
    let miss : meets x n (tile_extent p) ≡ false = meets_apart x n (tile_extent p) apart in
    go p.live rest miss
  where
    go : (live : Bool) → is_free x n (lives ps) ≡ true → meets x n (tile_extent p) ≡ false → is_free x n (cond live (tile_extent p ∷ lives ps) (lives ps)) ≡ true
    go true r m = rw m r
    go false r m = r

pub is_free-append : (x n : ℕ) (xs ys : List Extent) → is_free x n (xs ++ ys) ≡ (is_free x n xs && is_free x n ys)
is_free-append x n xs ys = list_all-append (λ e. not (meets x n e)) xs ys

-- a block in the way
pub not_free_at : (x n : ℕ) (xs : List Extent) (e : Extent) (ys : List Extent) → meets x n e ≡ true → is_free x n (xs ++ e ∷ ys) ≡ false
not_free_at x n xs e ys h =
    let first : is_free x n (e ∷ ys) ≡ false = and_left (not (meets x n e)) (is_free x n ys) (not_from_true (meets x n e) h) in
    is_free-append x n xs (e ∷ ys) ∙ and_right (is_free x n xs) (is_free x n (e ∷ ys)) first

-- a live block lies between the ends of the tiles
pub lives_between : (ws : List ℕ) (a : ℕ) (ps : List Tile) (b : ℕ) (e : Extent) → Fill ws a ps b → Contains (lives ps) e → (a ≤ e.place) × (e.place + e.size ≤ b) × (2 ≤ e.size)
lives_between ws a [] b e h c = absurd (omega (arith, c.1))
lives_between ws a (p ∷ ps) b e h c =
    let end : a + p.size ≤ b = Fill-le ws (a + p.size) ps b h.1 in
    go p.live end (λ d. let r = lives_between ws (a + p.size) ps b e h.1 d in (omega (arith, r.0), r.1, r.2)) c
  where
    go : (live : Bool) → a + p.size ≤ b → (Contains (lives ps) e → (a ≤ e.place) × (e.place + e.size ≤ b) × (2 ≤ e.size)) → Contains (cond live (tile_extent p ∷ lives ps) (lives ps)) e → (a ≤ e.place) × (e.place + e.size ≤ b) × (2 ≤ e.size)
    go true end rest d = elim (Contains-cases (tile_extent p) (lives ps) e d) [
      | inl same ↦
          let place : p.place ≡ e.place = ap (λ (x : Extent). x.place) same in
          let size : p.size ≡ e.size = ap (λ (x : Extent). x.size) same in
          (omega (arith, h.0.place), omega (arith, h.0.place), omega (arith, h.0.enough))
      | inr other ↦ rest other
    ]
    go false end rest d = rest d

-- a block before all others
pub with_block_first : (ws : List ℕ) (m : ℕ) (rs : List Tile) (d : ℕ) (e : Extent) → Fill ws m rs d → e.place < m → with_block e (lives rs) ≡ e ∷ lives rs
with_block_first ws m [] d e f lt = refl
with_block_first ws m (r ∷ rs) d e f lt = go r.live (with_block_first ws (m + r.size) rs d e f.1 (omega (arith, f.0.enough)))
  where
    go : (live : Bool) → with_block e (lives rs) ≡ e ∷ lives rs → with_block e (cond live (tile_extent r ∷ lives rs) (lives rs)) ≡ e ∷ cond live (tile_extent r ∷ lives rs) (lives rs)
    go true later =
        let before : ltb e.place r.place ≡ true = lt-ltb e.place r.place (omega (arith, f.0.place)) in
        rw before refl
    go false later = later

-- the list of live blocks with one more, where the tiles before it and after it are known
pub with_block_between : (ws : List ℕ) (a : ℕ) (ps : List Tile) (b : ℕ) (c : ℕ) (qs : List Tile) (d : ℕ) (e : Extent) → Fill ws a ps b → Fill ws c qs d → b ≤ e.place → e.place < c → with_block e (lives ps ++ lives qs) ≡ lives ps ++ e ∷ lives qs
with_block_between ws a [] b c qs d e h k low high = with_block_first ws c qs d e k high
with_block_between ws a (p ∷ ps) b c qs d e h k low high =
    let end : a + p.size ≤ b = Fill-le ws (a + p.size) ps b h.1 in
    let after : ltb e.place p.place ≡ false = le-ltb e.place p.place (omega (arith, h.0.place, h.0.enough)) in
    go p.live after (with_block_between ws (a + p.size) ps b c qs d e h.1 k low high)
  where
    go : (live : Bool) → ltb e.place p.place ≡ false → with_block e (lives ps ++ lives qs) ≡ lives ps ++ e ∷ lives qs → with_block e (cond live (tile_extent p ∷ lives ps) (lives ps) ++ lives qs) ≡ cond live (tile_extent p ∷ lives ps) (lives ps) ++ e ∷ lives qs
    go true after rest = rw after (ap (λ es. tile_extent p ∷ es) rest)
    go false after rest = rest

-- blocks outside are kept by taking away the one at a place
pub without_outside : (ws : List ℕ) (a : ℕ) (ps : List Tile) (b x : ℕ) → Fill ws a ps b → (x < a) ⊎ (b ≤ x) → without_block x (lives ps) ≡ lives ps
without_outside ws a [] b x h out = refl
without_outside ws a (p ∷ ps) b x h out =
    let end : a + p.size ≤ b = Fill-le ws (a + p.size) ps b h.1 in
    let later : (x < a + p.size) ⊎ (b ≤ x) = elim out [ inl l ↦ inl (omega arith) | inr r ↦ inr r ] in
    let rest : without_block x (lives ps) ≡ lives ps = without_outside ws (a + p.size) ps b x h.1 later in
    let other : p.place ≢ x = elim out [ inl l ↦ (λ q. omega (arith, h.0.place)) | inr r ↦ (λ q. omega (arith, h.0.place, h.0.enough)) ] in
    let miss : eqb p.place x ≡ false = grind (arith, nat_tests) in
    go p.live rest miss
  where
    go : (live : Bool) → without_block x (lives ps) ≡ lives ps → eqb p.place x ≡ false → without_block x (cond live (tile_extent p ∷ lives ps) (lives ps)) ≡ cond live (tile_extent p ∷ lives ps) (lives ps)
    go true r m = rw m (ap (λ es. tile_extent p ∷ es) r)
    go false r m = r

pub without_block_between : (ws : List ℕ) (a : ℕ) (ps : List Tile) (b c : ℕ) (qs : List Tile) (d : ℕ) (e : Extent) → Fill ws a ps b → Fill ws c qs d → b ≤ e.place → e.place < c → without_block e.place (lives ps ++ e ∷ lives qs) ≡ lives ps ++ lives qs
without_block_between ws a ps b c qs d e h k low high =
    let left : without_block e.place (lives ps) ≡ lives ps = without_outside ws a ps b e.place h (inr low) in
    let right : without_block e.place (lives qs) ≡ lives qs = without_outside ws c qs d e.place k (inl high) in
    let here : eqb e.place e.place ≡ true = grind (arith, nat_tests) in
    let first : without_block e.place (e ∷ lives qs) ≡ lives qs = rw here right in
    filter-append (λ block. not (eqb block.place e.place)) (lives ps) (e ∷ lives qs) ∙ ap (λ xs. xs ++ without_block e.place (e ∷ lives qs)) left ∙ ap (λ ys. lives ps ++ ys) first
