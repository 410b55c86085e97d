-- The rows' blocks are few words, since they stand one behind the other in the segment.
use Rattle.std.proofs.Common.{◌≡◌, ◌∙◌, ℕ, ◌+◌, ◌≤◌, eqb, ◌&&◌, Bool, true, cond, List, [], ◌∷◌, ◌++◌}
use Rattle.std.proofs.Common.{length, drop, filter, map, not, refl, sym, ap, arith, length-append}
use Rattle.std.proofs.lemmas.List.{length-map}
use Rattle.std.proofs.Math.ListN.{drop_of_length-le}
use Rattle.std.specs.Prelude.{sum_by}
use Rattle.std.specs.List.{count_by, remove}
use Rattle.std.proofs.lemmas.Bool.{and_from, and_parts, eqb-true, eq-eqb}
use Rattle.std.proofs.lemmas.List.Sums.{sum_by-cons, sum_by-append, sum_by-remove, length-filter, count_by-le-length}
use Rattle.std.proofs.lemmas.List.Filters.{sum_by-filter_both}
use Rattle.seg_words.specs.declared.gaps.Extent.{Extent}
use Rattle.seg_words.specs.Members.{count-cons, counted_there}
use Rattle.seg_words.specs.Windows.{Aside}
use Rattle.sma_blocks.specs.Live.{live_blocks}
use Rattle.sma_blocks.specs.Order.{ready_blocks}
use Rattle.sma_blocks.specs.Ready.{AreBlocks}
use Rattle.apcu_model.specs.declared.conf.TheConstants.{MOST_USABLE_WORDS}
use Rattle.apcu_model.specs.Cache.{Row, extent_of}
use Rattle.entry_slots.specs.declared.slots.EntrySlots.{EntrySlots}
use Rattle.entry_slots.specs.Entries.{Entries, blocks_of}
use Rattle.entry_slots.specs.Standing.{Stands}
use Rattle.apcu_iter.proofs.SlotRows.{length_sum}

-- ---- extents

abbrev size_in : Extent → ℕ
size_in block = block.size

-- blocks one behind the other fit in between
blocks_fit : (words : List ℕ) (low high : ℕ) (blocks : List Extent)
    → AreBlocks words low blocks high
    → (low + sum_by size_in blocks ≤ high) × (low + length blocks ≤ high)
blocks_fit words low high [] h = (omega (arith, h), omega (arith, h))
blocks_fit words low high (block ∷ blocks) h =
    let later = blocks_fit words (block.place + block.size) high blocks h.3 in (
      omega (arith, h.0, sum_by-cons size_in block blocks, later.0),
      omega (arith, h.0, h.1, later.1),
    )

abbrev is_extent : Extent → Extent → Bool
is_extent e f = eqb f.place e.place && eqb f.size e.size

itself : (e : Extent) → is_extent e e ≡ true
itself e =
    and_from (eqb e.place e.place) (eqb e.size e.size) (eq-eqb e.place e.place refl)
    (eq-eqb e.size e.size refl)

-- a list of which another has each extent as often comes to no more
no_more : (f : Extent → ℕ) (xs ys : List Extent)
    → ((test : Extent → Bool) → count_by test ys ≤ count_by test xs)
    → sum_by f ys ≤ sum_by f xs
no_more f xs [] h = omega arith
no_more f xs (y ∷ ys) h =
    let one : cond {A = ℕ} (is_extent y y) 1 0 ≡ 1 = ap (λ (b : Bool). cond {A = ℕ} b 1 0) (itself y) in
    let some : 1 ≤ count_by (is_extent y) xs =
    omega (arith, one, count-cons (is_extent y) y ys, h (is_extent y)) in
    let r = counted_there (is_extent y) xs some in
    let i = r.1.0 in
    let both = and_parts (eqb r.0.place y.place) (eqb r.0.size y.size) r.2 in
    let same : r.0 ≡ y =
    λ j. record { place = eqb-true r.0.place y.place both.0 j; size = eqb-true r.0.size y.size both.1 j } in
    let sum : (g : Extent → ℕ) → sum_by g (remove xs i) + g y ≡ sum_by g xs =
    λ g. ap (λ (x : Extent). sum_by g (remove xs i) + g x) (sym (r.1.2 ∙ same)) ∙ sum_by-remove g xs i r.0 r.1.1 in
    let left : (test : Extent → Bool) → count_by test ys ≤ count_by test (remove xs i) =
    λ test. omega (arith, h test, count-cons test y ys, sum (λ x. cond (test x) 1 0)) in
    omega (arith, sum f, sum_by-cons f y ys, no_more f (remove xs i) ys left)

-- ---- rows

abbrev pub size_of : Row → ℕ
size_of row = row.size

extents_sum : (rows : List Row) → sum_by size_in (map extent_of rows) ≡ sum_by size_of rows
extents_sum [] = refl
extents_sum (row ∷ rows) =
    omega (
      arith,
      sum_by-cons size_in (extent_of row) (map extent_of rows),
      sum_by-cons size_of row rows,
      extents_sum rows,
    )

-- the rows and the removed rows are no more than this many, and neither are the words of their
-- blocks
pub record AreFew (n : ℕ) (rows removed : List Row) : Type 0 where
  pub count : length rows + length removed ≤ n
  pub words : sum_by size_of rows + sum_by size_of removed ≤ n
  pub most : n ≤ MOST_USABLE_WORDS

pub are_few : (e : EntrySlots) (words : List ℕ) (aside : Aside) (s : Entries)
    → Stands e words aside s → AreFew s.conf.words s.rows s.removed
are_few e words aside s stand =
    let live = live_blocks words e.sma.bounds.from in
    let more = map extent_of s.unlinked ++ s.taken in
    let some = map extent_of s.removed ++ more in
    let fit = blocks_fit words e.sma.bounds.from e.sma.bounds.to live (ready_blocks stand.ready) in
    let alike : (test : Extent → Bool) → count_by test (blocks_of s) ≤ count_by test live =
    λ test. omega (arith, stand.blocks.count test) in
    record {
      count = omega (
        arith,
        fit.1,
        stand.to,
        no_more (λ block. 1) live (blocks_of s) alike,
        length_sum live,
        length_sum (blocks_of s),
        length-append (map extent_of s.rows) some,
        length-append (map extent_of s.removed) more,
        length-map s.rows extent_of,
        length-map s.removed extent_of,
      );
      words = omega (
        arith,
        fit.0,
        stand.to,
        no_more size_in live (blocks_of s) alike,
        sum_by-append size_in (map extent_of s.rows) some,
        sum_by-append size_in (map extent_of s.removed) more,
        extents_sum s.rows,
        extents_sum s.removed,
      );
      most = stand.usable.words_most;
    }

-- this many removed rows were passed
pub removed_over : (s : Entries) (end passed : ℕ) → AreFew s.conf.words s.rows s.removed
    → end ≡ s.conf.words → end ≤ passed → drop passed s.removed ≡ []
removed_over s end passed few is over =
    drop_of_length-le s.removed (omega (arith, few.count, is, over))

-- those that pass come to no more
pub some_of : {X : Type 0} (f : X → ℕ) (p : X → Bool) (xs : List X)
    → sum_by f (filter p xs) ≤ sum_by f xs
some_of f p xs = omega (arith, sum_by-filter_both p (λ x. not (p x)) (λ x. refl) f xs)

pub fewer : {X : Type 0} (p : X → Bool) (xs : List X) → length (filter p xs) ≤ length xs
fewer p xs = omega (arith, length-filter p xs, count_by-le-length p xs)
