-- The gaps from an edge between two tiles on.
use Rattle.std.proofs.Common.{◌≡◌, inl, inr, ℕ, ◌+◌, ◌<◌, ◌≤◌, Bool, true, false, cond, List, [], ◌∷◌}
use Rattle.std.proofs.Common.{◌++◌, length, slice_index, Option, Some, None, refl, sym, ap, ◌∙◌, subst}
use Rattle.std.proofs.Common.{arith}
use Rattle.std.specs.Prelude.{nat_le, find, option_map}
use Rattle.std.proofs.lemmas.Bool.{cases_Bool}
use Rattle.std.proofs.lemmas.Bool.Decides.{nat_tests}
use Rattle.seg_words.specs.declared.gaps.Extent.{Extent}
use Rattle.sma_blocks.specs.Tiles.{Tile, tiles, Fill, tile_of}
use Rattle.seg_words.specs.Windows.{Aside}
use Rattle.sma_blocks.specs.declared.sma.Sma.{Sma}
use Rattle.sma_blocks.specs.Live.{gaps, free_runs_in}
use Rattle.sma_blocks.specs.Ready.{IsReady}
use Rattle.sma_blocks.proofs.FilledWords.{filled_of}
use Rattle.sma_blocks.proofs.FilledFreeRuns.{free_runs_of}
use Rattle.sma_blocks.specs.Walk.{IsEdge}
use Rattle.sma_blocks.proofs.TileLemmas.{Fill-le, tiles-filled, edge_next, edge_whole, next_at}
use Rattle.sma_blocks.proofs.FirstFit.{edge_behind}
use Rattle.sma_blocks.proofs.LiveBlocks.{tile_extent}
use Rattle.seg_report.specs.PartWalks.{first_of, pair_of}

pub gaps-append : (ps qs : List Tile) → gaps (ps ++ qs) ≡ gaps ps ++ gaps qs
gaps-append [] qs = refl
gaps-append (p ∷ ps) qs = go p.live (gaps-append ps qs)
  where
    go : (live : Bool) → gaps (ps ++ qs) ≡ gaps ps ++ gaps qs
        → cond live (gaps (ps ++ qs)) (tile_extent p ∷ gaps (ps ++ qs))
        ≡ cond live (gaps ps) (tile_extent p ∷ gaps ps) ++ gaps qs
    go true e = e
    go false e = ap (λ es. tile_extent p ∷ es) e

-- gaps before the place are passed over
find_passed : (ws : List ℕ) (a : ℕ) (ps : List Tile) (b at : ℕ) (qs : List Extent) → Fill ws a ps b
    → b ≤ at
    → find (λ run. nat_le at run.place) (gaps ps ++ qs) ≡ find (λ run. nat_le at run.place) qs
find_passed ws a [] b at qs h low = refl
find_passed ws a (p ∷ ps) b at qs h low =
    let end : a + p.size ≤ b = Fill-le ws (a + p.size) ps b h.1 in
    let before : p.place < at = omega (arith, h.0.place, h.0.enough) in
    let past : nat_le at p.place ≡ false = grind (arith, nat_tests, before) in
    go p.live past (find_passed ws (a + p.size) ps b at qs h.1 low)
  where
    go : (live : Bool) → nat_le at p.place ≡ false
        → find (λ run. nat_le at run.place) (gaps ps ++ qs) ≡ find (λ run. nat_le at run.place) qs
        → find (λ run. nat_le at run.place) (cond live (gaps ps) (tile_extent p ∷ gaps ps) ++ qs)
        ≡ find (λ run. nat_le at run.place) qs
    go true f r = r
    go false f r = rw f r

-- the first of those behind it is found
find_ahead : (ws : List ℕ) (a : ℕ) (ps : List Tile) (b at : ℕ) → Fill ws a ps b → at ≤ a
    → find (λ run. nat_le at run.place) (gaps ps) ≡ first_of (gaps ps)
find_ahead ws a [] b at h low = refl
find_ahead ws a (p ∷ ps) b at h low =
    let behind : at ≤ p.place = omega (arith, h.0.place) in
    let here : nat_le at p.place ≡ true = grind (arith, nat_tests, behind) in
    go p.live here (find_ahead ws (a + p.size) ps b at h.1 (omega arith))
  where
    go : (live : Bool) → nat_le at p.place ≡ true
        → find (λ run. nat_le at run.place) (gaps ps) ≡ first_of (gaps ps)
        → find (λ run. nat_le at run.place) (cond live (gaps ps) (tile_extent p ∷ gaps ps))
        ≡ first_of (cond live (gaps ps) (tile_extent p ∷ gaps ps))
    go true f r = r
    go false f r = rw f refl

pub found_ahead : (ws : List ℕ) (from at : ℕ) → IsEdge ws from at
    → find (λ run. nat_le at run.place) (gaps (tiles ws from)) ≡ first_of (gaps (tiles ws at))
found_ahead ws from at h =
    ap (λ ts. find (λ run. nat_le at run.place) (gaps ts)) (edge_whole ws from at h)
    ∙ ap (find (λ run. nat_le at run.place)) (gaps-append h.passed (tiles ws at))
    ∙ find_passed ws from h.passed at at (gaps (tiles ws at)) h.before (omega arith)
    ∙ find_ahead ws at (tiles ws at) (length ws) at h.after (omega arith)

-- the first gap from an edge on, and those behind it
pub record IsNext (ws : List ℕ) (from at : ℕ) (g : Extent) : Type 0 where
  pub edge : IsEdge ws from (g.place + g.size)
  pub gaps_are : gaps (tiles ws at) ≡ g ∷ gaps (tiles ws (g.place + g.size))
  pub up : at ≤ g.place
  pub some : 2 ≤ g.size
  pub end : g.place + g.size ≤ length ws

pub next_gap : (ws : List ℕ) (from : ℕ) (g : Extent) (ps : List Tile) (a : ℕ) → IsEdge ws from a
    → tiles ws a ≡ ps → first_of (gaps ps) ≡ Some g → IsNext ws from a g
next_gap ws from g [] a h is found = absurd cc
next_gap ws from g (p ∷ ps) a h is found =
    let filled : Fill ws a (p ∷ ps) (length ws) = subst (λ qs. Fill ws a qs (length ws)) is h.after in
    let end : a + p.size ≤ length ws = Fill-le ws (a + p.size) ps (length ws) filled.1 in
    let behind : tiles ws (a + p.size) ≡ ps = tiles-filled ws (a + p.size) ps filled.1 in
    let edge = edge_behind ws from a p ps h filled in
    elim (cases_Bool p.live) [
      | inl live ↦
          let same : gaps (p ∷ ps) ≡ gaps ps =
          ap (λ (k : Bool). cond k (gaps ps) (tile_extent p ∷ gaps ps)) live in
          let n = next_gap ws from g ps (a + p.size) edge behind (sym (ap first_of same) ∙ found) in
          record {
            edge = n.edge;
            gaps_are = ap gaps is ∙ same ∙ sym (ap gaps behind) ∙ n.gaps_are;
            up = omega (arith, n.up);
            some = n.some;
            end = n.end;
          }
      | inr gap ↦
          let same : gaps (p ∷ ps) ≡ tile_extent p ∷ gaps ps =
          ap (λ (k : Bool). cond k (gaps ps) (tile_extent p ∷ gaps ps)) gap in
          let one : Some (tile_extent p) ≡ Some g = sym (ap first_of same) ∙ found in
          let is_g : tile_extent p ≡ g = cc in
          let at : a + p.size ≡ p.place + p.size = omega (arith, filled.0.place) in
          subst (λ x. IsNext ws from a x) is_g (record {
            edge = subst (λ n. IsEdge ws from n) at edge;
            gaps_are = ap gaps is ∙ same
                ∙ ap (λ l. tile_extent p ∷ l) (sym (ap gaps behind) ∙ ap (λ n. gaps (tiles ws n)) at);
            up = omega (arith, filled.0.place);
            some = filled.0.enough;
            end = omega (arith, filled.0.place);
          })
    ]

pub gap_ahead : (ws : List ℕ) (from at place size : ℕ) → IsEdge ws from at
    → Some (place, size) ≡ option_map pair_of (first_of (gaps (tiles ws at)))
    → IsNext ws from at (record { place = place; size = size })
gap_ahead ws from at place size h told = go (first_of (gaps (tiles ws at))) refl told
  where
    go : (o : Option Extent) → first_of (gaps (tiles ws at)) ≡ o
        → Some (place, size) ≡ option_map pair_of o
        → IsNext ws from at (record { place = place; size = size })
    go None e some = absurd cc
    go (Some g) e some =
        let pairs : (place, size) ≡ pair_of g = cc in
        let same : g ≡ record { place = place; size = size } =
        λ i. record { place = (sym pairs i).0; size = (sym pairs i).1 } in
        next_gap ws from (record { place = place; size = size }) (tiles ws at) at h refl
        (e ∙ ap (λ x. Some x) same)

pub none_ahead : (rs : List Extent)
    → ◌≡◌ {A = Option (ℕ × ℕ)} None (option_map pair_of (first_of rs)) → rs ≡ []
none_ahead [] is = refl
none_ahead (r ∷ rs) is = absurd cc

-- the tile at an edge, and the edge behind it
pub record IsTile (ws : List ℕ) (from at : ℕ) : Type 0 where
  pub tile : Tile
  pub is : tiles ws at ≡ tile ∷ tiles ws (at + tile.size)
  pub place : tile.place ≡ at
  pub edge : IsEdge ws from (at + tile.size)
  pub some : 2 ≤ tile.size
  pub end : at + tile.size ≤ length ws

pub tile_here : (ws : List ℕ) (from at : ℕ) → IsEdge ws from at → at < length ws
    → IsTile ws from at
tile_here ws from at h low =
    let n = next_at ws at h.after low in
    record {
      tile = tile_of at (slice_index ws at);
      is = n.is;
      place = refl;
      edge = edge_next ws from at h low;
      some = n.here.enough;
      end = n.within;
    }

-- what the allocator answers from an edge on
pub told_ahead : (sma : Sma) (ws w : List ℕ) (aside : Aside) (at : ℕ) (r : Option (ℕ × ℕ))
    → IsReady sma ws aside → IsEdge ws sma.bounds.from at → w ≡ ws
    → r ≡ option_map pair_of (find (λ run. nat_le at run.place) (free_runs_in sma.bounds w))
    → r ≡ option_map pair_of (first_of (gaps (tiles ws at)))
told_ahead sma ws w aside at r ready edge same is =
    let found : List Extent → Option (ℕ × ℕ) =
    λ runs. option_map pair_of (find (λ run. nat_le at run.place) runs) in
    is ∙ ap (λ v. found (free_runs_in sma.bounds v)) same
    ∙ ap found (free_runs_of sma.bounds ws aside (filled_of ready))
    ∙ ap (option_map pair_of) (found_ahead ws sma.bounds.from at edge)
