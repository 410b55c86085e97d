-- The words of all rows are what the gaps and the removed rows leave of the words behind the slots.
use Rattle.std.proofs.Common.{◌≡◌, ◌≢◌, ◌∙◌, inl, inr, ℕ, ◌+◌, ◌-◌, ◌<◌, ◌≤◌, Bool, true, false, cond}
use Rattle.std.proofs.Common.{List, [], ◌∷◌, ◌++◌, length, slice_index, drop, map, refl, sym, ap}
use Rattle.std.proofs.Common.{arith, ◌^◌}
use Rattle.std.specs.Prelude.{sum_by, Contains}
use Rattle.std.specs.List.{count_by}
use Rattle.std.proofs.lemmas.List.Sums.{sum_by-cons, sum_by-append}
use Rattle.seg_words.specs.declared.gaps.Extent.{Extent}
use Rattle.seg_words.specs.Blocks.{IsTold}
use Rattle.seg_words.specs.Members.{none_in_nil, Contains-cases, Contains-first, count-cons, count-append}
use Rattle.seg_words.specs.Windows.{Aside}
use Rattle.sma_blocks.specs.Tiles.{Tile, tiles, Fill}
use Rattle.sma_blocks.specs.Live.{gap_words, lives, free_runs_in}
use Rattle.sma_blocks.proofs.GapSizes.{gap_words-sum}
use Rattle.sma_blocks.proofs.LiveBlocks.{tile_extent}
use Rattle.sma_blocks.proofs.FilledWords.{filled_of}
use Rattle.sma_blocks.proofs.FilledFreeRuns.{free_runs_of}
use Rattle.apcu_model.specs.Cache.{Row, extent_of}
use Rattle.entry_slots.specs.declared.slots.EntrySlots.{EntrySlots}
use Rattle.entry_slots.specs.Lists.{HaveSame, first_place}
use Rattle.entry_slots.specs.Entries.{Entries, IsWhole, blocks_of}
use Rattle.entry_slots.specs.RowWalks.{IsHere, removed_here, removed_end}
use Rattle.entry_slots.specs.Standing.{Stands}
use Rattle.entry_slots.proofs.RowBlocks.{IsHome, home_removed, room}
use Rattle.entry_slots.proofs.ExtentLists.{same_there}
use Rattle.entry_slots.proofs.RowWindows.{sound}

abbrev pub size_of : Row → ℕ
size_of row = row.size

abbrev run_size : Extent → ℕ
run_size run = run.size

-- ---- lists of the same extents have the same sum

none_sum : (ys : List Extent) → 0 ≡ count_by (λ (e : Extent). true) ys → 0 ≡ sum_by run_size ys
none_sum [] e = refl
none_sum (y ∷ ys) e = absurd (omega (arith, e, count-cons (λ (e : Extent). true) y ys))

split_at : (ys : List Extent) (x : Extent) → Contains ys x
    → (front : List Extent) × (back : List Extent) × (ys ≡ front ++ x ∷ back)
split_at [] x c = absurd (none_in_nil x c)
split_at (y ∷ ys) x c = elim (Contains-cases y ys x c) [
  | inl here ↦ ([], ys, ap (λ (e : Extent). e ∷ ys) here)
  | inr later ↦ (let r = split_at ys x later in (y ∷ r.0, r.1, ap (λ l. y ∷ l) r.2))
]

same_sum : (xs ys : List Extent) → HaveSame xs ys → sum_by run_size xs ≡ sum_by run_size ys
same_sum [] ys same = none_sum ys (same.count (λ (e : Extent). true))
same_sum (x ∷ xs) ys same =
    let flip : HaveSame ys (x ∷ xs) = record { count = λ test. sym (same.count test) } in
    let r = split_at ys x (same_there ys (x ∷ xs) x flip (Contains-first x xs)) in
    let left : HaveSame xs (r.0 ++ r.1) = record {
      count = λ test. omega (
        arith,
        same.count test ∙ ap (count_by test) r.2,
        count-append test r.0 (x ∷ r.1),
        count-append test r.0 r.1,
        count-cons test x xs,
        count-cons test x r.1,
      );
    } in
    omega (
      arith,
      same_sum xs (r.0 ++ r.1) left,
      ap (sum_by run_size) r.2,
      sum_by-cons run_size x xs,
      sum_by-cons run_size x r.1,
      sum_by-append run_size r.0 (x ∷ r.1),
      sum_by-append run_size r.0 r.1,
    )

block_sum : (rows : List Row) → sum_by run_size (map extent_of rows) ≡ sum_by size_of rows
block_sum [] = refl
block_sum (row ∷ rows) =
    omega (
      arith,
      block_sum rows,
      sum_by-cons run_size (extent_of row) (map extent_of rows),
      sum_by-cons size_of row rows,
    )

-- ---- blocks and gaps fill the words

tile_sum : (ws : List ℕ) (a : ℕ) (ps : List Tile) (b : ℕ) → Fill ws a ps b
    → sum_by run_size (lives ps) + gap_words ps + a ≡ b
tile_sum ws a [] b h = omega (arith, h)
tile_sum ws a (p ∷ ps) b h = go p.live (tile_sum ws (a + p.size) ps b h.1)
  where
    go : (live : Bool) → sum_by run_size (lives ps) + gap_words ps + (a + p.size) ≡ b
        → sum_by run_size (cond live (tile_extent p ∷ lives ps) (lives ps))
        + cond live (gap_words ps) (p.size + gap_words ps) + a ≡ b
    go true e = omega (arith, e, sum_by-cons run_size (tile_extent p) (lives ps))
    go false e = omega (arith, e)

whole_sum : (s : Entries) → IsWhole s
    → sum_by run_size (blocks_of s) ≡ sum_by size_of s.rows + sum_by size_of s.removed
whole_sum s whole =
    let rest = map extent_of s.unlinked ++ s.taken in
    let none : rest ≡ [] = ap (λ l. map extent_of l ++ s.taken) whole.0 ∙ whole.1 in
    omega (
      arith,
      sum_by-append run_size (map extent_of s.rows) (map extent_of s.removed ++ rest),
      sum_by-append run_size (map extent_of s.removed) rest,
      ap (sum_by run_size) none,
      block_sum s.rows,
      block_sum s.removed,
    )

module _ (e : EntrySlots) (ws : List ℕ) (aside : Aside) (s : Entries) (stand : Stands e ws aside s) where
  -- with what the allocator answers, the words of the rows and the removed rows are all
  pub all_words : IsWhole s → (free : ℕ)
      → free ≡ sum_by (λ (run : Extent). run.size) (free_runs_in e.sma.bounds ws)
      → sum_by size_of s.rows + sum_by size_of s.removed + free + e.sma.bounds.from ≡ e.sma.bounds.to
  all_words whole free is =
      let all = tiles ws e.sma.bounds.from in
      let runs = free_runs_of e.sma.bounds ws aside (filled_of stand.ready) in
      omega (
        arith,
        is ∙ ap (sum_by run_size) runs ∙ sym (gap_words-sum all),
        tile_sum ws e.sma.bounds.from all (length ws) stand.ready.formatted.full,
        same_sum (lives all) (blocks_of s) stand.blocks,
        whole_sum s whole,
        stand.ready.end,
      )

-- ---- the walk along the removed rows

-- the words of the rows, and of the removed rows that are left from the one at `at` on
pub record Left (s : Entries) (at words : ℕ) : Type 0 where
  pub passed : ℕ
  pub at_is : at ≡ first_place (drop passed s.removed)
  pub words_are : words ≡ sum_by size_of s.rows + sum_by size_of (drop passed s.removed)

module _ {e : EntrySlots} {ws : List ℕ} {aside : Aside} {s : Entries} (stand : Stands e ws aside s) where
  pub left_all : (at words : ℕ) → at ≡ first_place s.removed
      → words ≡ sum_by size_of s.rows + sum_by size_of s.removed → Left s at words
  left_all at words is all = record { passed = 0; at_is = is; words_are = all }

  -- the row at which the walk stands
  pub left_here : {at words : ℕ} → (left : Left s at words) → at ≢ 0
      → IsHere s s.removed left.passed at
  left_here {at} {words} left some =
      removed_here sound e ws aside s left.passed at stand left.at_is some

  pub left_home : {at words : ℕ} → (left : Left s at words) → (some : at ≢ 0)
      → IsHome e ws aside (left_here left some).left.row
  left_home left some =
      let row = (left_here left some).left in home_removed row.row stand row.there

  pub left_word : {at words : ℕ} → (left : Left s at words) → (some : at ≢ 0)
      → slice_index ws at ≡ (left_here left some).left.row.size
  left_word left some =
      ap (slice_index ws) (sym (left_here left some).left.place)
      ∙ (left_home left some).entry.size

  -- its first word is there
  pub left_inside : {at words : ℕ} → Left s at words → at ≢ 0 → at < length ws
  left_inside left some =
      let w = room (left_home left some) in
      omega (arith, (left_here left some).left.place, w.high, w.enough)

  pub left_told : {at words : ℕ} → Left s at words → at ≢ 0 → IsTold aside.windows at
  left_told {at} left some =
      let w = room (left_home left some) in
      let place = (left_here left some).left.place in
      w.told at (omega (arith, place)) (omega (arith, place, w.enough)) (λ q. omega (arith, q, place))

  pub left_small : {at words : ℕ} → (left : Left s at words) → (some : at ≢ 0)
      → (2 ≤ (left_here left some).left.row.size) × ((left_here left some).left.row.size < 2 ^ 32)
  left_small left some =
      let w = room (left_home left some) in
      (omega (arith, w.enough), omega (arith, w.high, w.short))

  pub left_enough : {at words : ℕ} → (left : Left s at words) → (some : at ≢ 0)
      → (left_here left some).left.row.size ≤ words
  left_enough {at} {words} left some =
      let here = left_here left some in
      omega (
        arith,
        left.words_are,
        ap (sum_by size_of) here.left.left,
        sum_by-cons size_of here.left.row (drop (left.passed + 1) s.removed),
      )

  pub left_next : {at words : ℕ} → (left : Left s at words) → (some : at ≢ 0) → (next size : ℕ)
      → next ≡ first_place (drop (left.passed + 1) s.removed)
      → size ≡ (left_here left some).left.row.size → Left s next (words - size)
  left_next {at} {words} left some next size is size_is =
      let here = left_here left some in
      record {
        passed = left.passed + 1;
        at_is = is;
        words_are = omega (
          arith,
          size_is,
          left.words_are,
          ap (sum_by size_of) here.left.left,
          sum_by-cons size_of here.left.row (drop (left.passed + 1) s.removed),
        );
      }

  pub left_end : {at words : ℕ} → Left s at words → at ≡ 0 → words ≡ sum_by size_of s.rows
  left_end {at} {words} left over =
      let none = removed_end sound e ws aside s left.passed stand (sym over ∙ left.at_is) in
      omega (arith, left.words_are, ap (sum_by size_of) none)
