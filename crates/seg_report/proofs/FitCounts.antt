-- Blocks of one size that are taken one after the other cut up each gap by itself.
use Rattle.std.proofs.Common.{◌≡◌, inl, inr, ℕ, zero, suc, ◌+◌, ◌-◌, ◌/◌, ◌%◌, ◌<◌, ◌≤◌, Bool, true}
use Rattle.std.proofs.Common.{false, cond, ltb, List, [], ◌∷◌, ◌++◌, length, map, get_or}
use Rattle.std.proofs.Common.{Option, Some, None, refl, sym, ap, ◌∙◌, arith}
use Rattle.std.specs.Prelude.{nat_le, nat_lt}
use Rattle.std.specs.List.{count_by, position, range_with_len}
use Rattle.std.proofs.lemmas.Bool.{cases_Bool, cases_lt, lt-ltb, le-ltb, leb-false}
use Rattle.max_tree.proofs.PageLemmas.{position_None}
use Rattle.std.proofs.lemmas.List.{get_or_past}
use Rattle.std.proofs.lemmas.List.FromFn.{length-map-range_with_len, get_or-map-range_with_len}
use Rattle.std.proofs.lemmas.List.Sums.{sum_by-append, sum_by-cons}
use Rattle.std.proofs.Math.Nat as nat
use Rattle.seg_words.specs.declared.gaps.Extent.{Extent}
use Rattle.seg_words.specs.Gaps.{first_fit}
use Rattle.seg_words.specs.Members.{count-cons}
use Rattle.seg_words.specs.Windows.{Aside}
use Rattle.sma_blocks.specs.Tiles.{Tile, tiles, Fill}
use Rattle.sma_blocks.specs.Live.{gaps, live_blocks, with_block}
use Rattle.sma_blocks.specs.Index.{size_at, IsIndexed}
use Rattle.sma_blocks.specs.Walk.{cut_words}
use Rattle.sma_blocks.specs.declared.bounds.Bounds.{Bounds}
use Rattle.sma_blocks.proofs.FilledWords.{IsFilled}
use Rattle.sma_blocks.proofs.TileLemmas.{edge_whole}
use Rattle.sma_blocks.proofs.LiveBlocks.{tile_extent}
use Rattle.sma_blocks.proofs.FitPlaces.{FitParts, FitWhole, FitSome, FitNone}
use Rattle.sma_blocks.proofs.TileChanges.{change_tiles}
use Rattle.sma_blocks.proofs.WordsAfterTake.{Room, left_over, taken, take_change, take_more, take_place, take_ready}
use Rattle.sma_blocks.proofs.FirstFit.{here_gap, size_outside, take_found, take_none}
use Rattle.seg_report.specs.Fits.{blocks_in, TakesAll}
use Rattle.seg_report.proofs.GapsFromEdge.{gaps-append}

blocks-append : (n : ℕ) (xs ys : List Extent) → blocks_in n (xs ++ ys) ≡ blocks_in n xs + blocks_in n ys
blocks-append n xs ys = sum_by-append (λ (run : Extent). run.size / n) xs ys

pub blocks-cons : (n : ℕ) (x : Extent) (xs : List Extent) → blocks_in n (x ∷ xs) ≡ x.size / n + blocks_in n xs
blocks-cons n x xs = sum_by-cons (λ (run : Extent). run.size / n) x xs

-- gaps that are too small hold no block
none_in : (ws : List ℕ) (n a : ℕ) (ps : List Tile) (b : ℕ) → Fill ws a ps b → a % 2 ≡ 0
    → ((q : ℕ) → q % 2 ≡ 0 → size_at ps q < n) → blocks_in n (gaps ps) ≡ 0
none_in ws n a [] b h even small = refl
none_in ws n a (p ∷ ps) b h even small =
    let rest = none_in ws n (a + p.size) ps b h.1 (omega (arith, h.0.even))
    (λ q e. omega (arith, small q e)) in
    elim (cases_Bool p.live) [
      | inl live ↦
          ap (λ (k : Bool). blocks_in n (cond k (gaps ps) (tile_extent p ∷ gaps ps))) live ∙ rest
      | inr gap ↦
          let low : p.size < n =
          omega (arith, here_gap p p.place refl gap, small p.place (omega (arith, h.0.place))) in
          ap (λ (k : Bool). blocks_in n (cond k (gaps ps) (tile_extent p ∷ gaps ps))) gap
          ∙ blocks-cons n (tile_extent p) (gaps ps)
          ∙ omega (arith, nat.div-eq_of_lt low, rest)
    ]

-- the sizes of the gaps at all even places
abbrev sizes_of : List ℕ → ℕ → List ℕ
sizes_of ws from = map (λ i. size_at (tiles ws from) (i + i)) (range_with_len 0 (length ws))

indexed : (ws : List ℕ) (from : ℕ) → Fill ws from (tiles ws from) (length ws)
    → IsIndexed ws from (sizes_of ws from)
indexed ws from full =
    let f : ℕ → ℕ = λ i. size_at (tiles ws from) (i + i) in
    let count : length (sizes_of ws from) ≡ length ws = length-map-range_with_len f 0 (length ws) in
    record {
      room = omega (arith, count);
      told = λ i. elim (cases_lt i (length ws)) [
        | inl low ↦ get_or-map-range_with_len f 0 (length ws) i i 0 low (omega arith)
        | inr high ↦
            get_or_past (sizes_of ws from) i 0 (omega (arith, count, high))
            ∙ sym (size_outside ws from (tiles ws from) (length ws) (i + i) full (inr (omega (arith, high))))
      ];
    }

-- what is left of a gap holds a block less
left_blocks : (at size n : ℕ) → 2 ≤ n → n ≤ size
    → size / n ≡ suc (blocks_in n (gaps (left_over at size n)))
left_blocks at size n some enough =
    let less : size / n ≡ (size - n) / n + 1 = nat.div-eq-sub-div (omega (arith, some)) enough in
    elim (cases_lt n size) [
      | inl lt ↦
          let b : ltb n size ≡ true = lt-ltb n size lt in
          let one : Extent = record { place = at + n; size = size - n } in
          let left : blocks_in n (gaps (left_over at size n)) ≡ (size - n) / n =
          rw b (blocks-cons n one [] ∙ omega arith) in
          omega (arith, less, left)
      | inr ge ↦
          let b : ltb n size ≡ false = le-ltb n size ge in
          let left : blocks_in n (gaps (left_over at size n)) ≡ 0 = rw b refl in
          let none : size - n ≡ 0 = omega arith in
          let zero_is : (size - n) / n ≡ 0 = ap (λ (x : ℕ). x / n) none ∙ nat.zero-div n in
          omega (arith, less, left, zero_is)
    ]

-- a block that is taken from a gap takes one from the count
one_less : {bounds : Bounds} {ws : List ℕ} {aside : Aside} {at size n : ℕ} (h : Room bounds ws aside at size n)
    → blocks_in n (gaps (tiles ws bounds.from))
    ≡ suc (blocks_in n (gaps (tiles (cut_words ws at size n) bounds.from)))
one_less {bounds} {ws} {aside} {at} {size} {n} h =
    let passed = h.edge.passed in
    let rest = tiles ws (at + size) in
    let gap : Tile = record { place = at; size = size; live = false } in
    let was : tiles ws bounds.from ≡ passed ++ gap ∷ rest =
    edge_whole ws bounds.from at h.edge ∙ ap (λ ps. passed ++ ps) h.is in
    let old : blocks_in n (gaps (tiles ws bounds.from))
    ≡ blocks_in n (gaps passed) + (size / n + blocks_in n (gaps rest)) =
    ap (λ ps. blocks_in n (gaps ps)) was ∙ ap (blocks_in n) (gaps-append passed (gap ∷ rest))
    ∙ blocks-append n (gaps passed) (gaps (gap ∷ rest))
    ∙ ap (λ (k : ℕ). blocks_in n (gaps passed) + k) (blocks-cons n (tile_extent gap) (gaps rest)) in
    let left = left_over at size n in
    let now : blocks_in n (gaps (tiles (cut_words ws at size n) bounds.from))
    ≡ blocks_in n (gaps passed) + (blocks_in n (gaps left) + blocks_in n (gaps rest)) =
    ap (λ ps. blocks_in n (gaps ps)) (change_tiles (take_change h))
    ∙ ap (blocks_in n) (gaps-append passed (taken at n ∷ (left ++ rest)))
    ∙ blocks-append n (gaps passed) (gaps (left ++ rest))
    ∙ ap (λ (k : ℕ). blocks_in n (gaps passed) + k)
    (ap (blocks_in n) (gaps-append left rest) ∙ blocks-append n (gaps left) (gaps rest)) in
    omega (arith, old, now, left_blocks at size n h.some h.enough)

-- extents that are the same, in any order
abbrev pub AreSame : List Extent → List Extent → Type 0
AreSame xs ys = (test : Extent → Bool) → count_by test xs ≡ count_by test ys

count-with : (test : Extent → Bool) (e : Extent) (es : List Extent)
    → count_by test (with_block e es) ≡ count_by test (e ∷ es)
count-with test e [] = refl
count-with test e (x ∷ xs) = go (nat_lt e.place x.place) (count-with test e xs)
  where
    go : (b : Bool) → count_by test (with_block e xs) ≡ count_by test (e ∷ xs)
        → count_by test (cond b (e ∷ x ∷ xs) (x ∷ with_block e xs)) ≡ count_by test (e ∷ x ∷ xs)
    go true r = refl
    go false r =
        omega (
          arith,
          r,
          count-cons test x (with_block e xs),
          count-cons test e xs,
          count-cons test e (x ∷ xs),
          count-cons test x xs,
        )

-- a fit depends on the extents alone, and not on their order
abbrev pub FitSame : Type 0
FitSame = (from to piece n : ℕ) (xs ys : List Extent) → AreSame xs ys
    → first_fit from to piece n xs ≡ first_fit from to piece n ys

module _ (parts : FitParts) (whole : FitWhole) (some : FitSome) (none : FitNone) (same : FitSame) (bounds : Bounds) (aside : Aside) (n : ℕ) (even : n % 2 ≡ 0) (two : 2 ≤ n) where
  -- the numbers of the gaps are those at even places
  index : (ws : List ℕ) → IsFilled bounds ws aside → IsIndexed ws bounds.from (sizes_of ws bounds.from)
  index ws filled = indexed ws bounds.from filled.formatted.full

  -- where none of them is large enough no gap is
  small : (ws : List ℕ) → IsFilled bounds ws aside
      → position (λ value. nat_le n value) (sizes_of ws bounds.from) ≡ None
      → (q : ℕ) → q % 2 ≡ 0 → size_at (tiles ws bounds.from) q < n
  small ws filled nowhere q e =
      let numbers = sizes_of ws bounds.from in
      let half : q / 2 + q / 2 ≡ q = omega arith in
      let told : get_or numbers (q / 2) 0 ≡ size_at (tiles ws bounds.from) q =
      (index ws filled).told (q / 2) ∙ ap (λ (x : ℕ). size_at (tiles ws bounds.from) x) half in
      elim (cases_lt (q / 2) (length numbers)) [
        | inl inside ↦
            omega (
              arith,
              told,
              leb-false n _ (position_None (λ value. nat_le n value) numbers nowhere (q / 2) inside),
            )
        | inr past ↦ omega (arith, told, get_or_past numbers (q / 2) 0 past)
      ]

  -- no gap is large enough
  ends : (ws : List ℕ) (es : List Extent) → IsFilled bounds ws aside
      → AreSame es (live_blocks ws bounds.from)
      → position (λ value. nat_le n value) (sizes_of ws bounds.from) ≡ None
      → (first_fit bounds.from bounds.to bounds.piece n es ≡ None)
      × (blocks_in n (gaps (tiles ws bounds.from)) ≡ 0)
  ends ws es filled alike nowhere = (
    same bounds.from bounds.to bounds.piece n es (live_blocks ws bounds.from) alike
        ∙ take_none parts none bounds ws aside (sizes_of ws bounds.from) n filled (index ws filled) nowhere
        two,
    none_in ws n bounds.from (tiles ws bounds.from) (length ws) filled.formatted.full
        filled.formatted.even (small ws filled nowhere),
  )

  -- a block was taken: the words after it, which hold a block less
  record IsTaken (ws : List ℕ) (es : List Extent) : Type 0 where
    pub at : ℕ
    pub next : List ℕ
    pub place : first_fit bounds.from bounds.to bounds.piece n es ≡ Some at
    pub filled : IsFilled bounds next aside
    pub less : blocks_in n (gaps (tiles ws bounds.from)) ≡ suc (blocks_in n (gaps (tiles next bounds.from)))
    pub alike : AreSame (record { place = at; size = n } ∷ es) (live_blocks next bounds.from)

  takes : (ws : List ℕ) (es : List Extent) → IsFilled bounds ws aside
      → AreSame es (live_blocks ws bounds.from) → (i : ℕ)
      → position (λ value. nat_le n value) (sizes_of ws bounds.from) ≡ Some i → IsTaken ws es
  takes ws es filled alike i found =
      let size = get_or (sizes_of ws bounds.from) i 0 in
      let room = take_found parts bounds ws aside (sizes_of ws bounds.from) n i (i + i) filled
      (index ws filled) found even two refl in
      let e : Extent = record { place = i + i; size = n } in
      let blocks = live_blocks ws bounds.from in
      record {
        at = i + i;
        next = cut_words ws (i + i) size n;
        place = same bounds.from bounds.to bounds.piece n es blocks alike
            ∙ take_place some whole room.0 room.1;
        filled = take_ready room.0;
        less = one_less room.0;
        alike = λ test.
            omega (arith, count-cons test e es, count-cons test e blocks, alike test)
            ∙ sym (count-with test e blocks)
            ∙ ap (count_by test) (sym (take_more room.0));
      }

  pub takes_all : (k : ℕ) (ws : List ℕ) (es : List Extent) → IsFilled bounds ws aside
      → blocks_in n (gaps (tiles ws bounds.from)) ≡ k → AreSame es (live_blocks ws bounds.from)
      → TakesAll bounds.from bounds.to bounds.piece n k es
  takes_all zero ws es filled count alike =
      go (position (λ value. nat_le n value) (sizes_of ws bounds.from)) refl
    where
      go : (o : Option ℕ) → position (λ value. nat_le n value) (sizes_of ws bounds.from) ≡ o
          → first_fit bounds.from bounds.to bounds.piece n es ≡ None
      go None nowhere = (ends ws es filled alike nowhere).0
      go (Some i) found = absurd (omega (arith, count, (takes ws es filled alike i found).less))
  takes_all (suc k) ws es filled count alike =
      go (position (λ value. nat_le n value) (sizes_of ws bounds.from)) refl
      (λ t. takes_all k t.next (record { place = t.at; size = n } ∷ es) t.filled
      (omega (arith, count, t.less)) t.alike)
    where
      go : (o : Option ℕ) → position (λ value. nat_le n value) (sizes_of ws bounds.from) ≡ o
          → ((t : IsTaken ws es)
          → TakesAll bounds.from bounds.to bounds.piece n k (record { place = t.at; size = n } ∷ es))
          → TakesAll bounds.from bounds.to bounds.piece n (suc k) es
      go None nowhere rest = absurd (omega (arith, count, (ends ws es filled alike nowhere).1))
      go (Some i) found rest =
          let t = takes ws es filled alike i found in (t.at, t.place, rest t)
