-- A cache that words stand for, and the tiles that fill the words.
use Rattle.std.proofs.Common.{◌≡◌, ℕ, ◌-◌, ◌%◌, ◌≤◌, ◌&&◌, List, [], ◌++◌, length, map, filter, refl}
use Rattle.std.proofs.Common.{Option, sym, ap, ◌∙◌, subst, append-nil, arith}
use Rattle.std.proofs.lemmas.List.{map-append}
use Rattle.std.specs.Prelude.{sum_by, nat_le, find, option_map}
use Rattle.std.specs.List.{count_by, flat_map, range_with_len}
use Rattle.seg_words.specs.declared.gaps.Extent.{Extent}
use Rattle.seg_words.specs.Gaps.{free_runs, is_free, runs_of}
use Rattle.seg_words.specs.Members.{filter_alike}
use Rattle.seg_words.specs.Windows.{Aside}
use Rattle.sma_blocks.specs.Live.{gaps, free_runs_in, live_blocks}
use Rattle.sma_blocks.specs.Tiles.{tiles}
use Rattle.sma_blocks.proofs.TileLemmas.{edge_start}
use Rattle.sma_blocks.proofs.FitPlaces.{FitParts, FitWhole, FitSome, FitNone}
use Rattle.sma_blocks.proofs.FilledWords.{filled_of}
use Rattle.sma_blocks.proofs.FilledFreeRuns.{free_runs_of}
use Rattle.apcu_model.specs.Cache.{extent_of}
use Rattle.apcu_model.specs.Conf.{piece_of}
use Rattle.apcu_model.specs.declared.conf.Conf.{Conf}
use Rattle.entry_slots.specs.declared.slots.EntrySlots.{EntrySlots}
use Rattle.entry_slots.specs.Lists.{HaveSame, begins_at}
use Rattle.entry_slots.specs.Entries.{Entries, IsWhole, blocks_of}
use Rattle.entry_slots.specs.Standing.{Stands, entries}
use Rattle.entry_slots.proofs.FitLemmas.{same_fit, same_free}
use Rattle.cache_core.specs.declared.cache.Core.{Core}
use Rattle.cache_core.specs.CoreCache.{cache_of, CoreStands}
use Rattle.seg_report.specs.Parts.{gaps_in, parts_between, parts_in, parts_of, size_of}
use Rattle.seg_report.specs.Fits.{blocks_in, HasRoomFor, TakesAll}
use Rattle.seg_report.proofs.FitCounts.{takes_all}
use Rattle.seg_report.specs.PartWalks.{AreTiled, IsAtPart, lines_from, pair_of}
use Rattle.seg_report.specs.Lines.{part_line}
use Rattle.seg_report.proofs.GapsFromEdge.{told_ahead}
use Rattle.seg_report.proofs.TileParts.{parts_end, sizes_sum}

runs_alike : (from to piece : ℕ) (xs ys : List Extent) → HaveSame xs ys
    → free_runs from to piece xs ≡ free_runs from to piece ys
runs_alike from to piece xs ys same =
    ap (runs_of piece) (filter_alike (λ w. is_free w 1 xs) (λ w. is_free w 1 ys)
    (range_with_len from (to - from)) (λ w c. same_free w 1 xs ys same))

module _ (e : EntrySlots) (ws : List ℕ) (aside : Aside) (s : Entries) (stand : Stands e ws aside s) (whole : IsWhole s) where
  from : ℕ
  from = e.sma.bounds.from

  blocks_whole : blocks_of s ≡ map extent_of (s.rows ++ s.removed)
  blocks_whole =
      ap (λ l. map extent_of s.rows ++ (map extent_of s.removed ++ (map extent_of l ++ s.taken)))
      whole.0
      ∙ ap (λ l. map extent_of s.rows ++ (map extent_of s.removed ++ l)) whole.1
      ∙ ap (λ l. map extent_of s.rows ++ l) (append-nil (map extent_of s.removed))
      ∙ sym (map-append extent_of s.rows s.removed)

  pub runs_stand : free_runs_in e.sma.bounds ws ≡ gaps_in s.conf s.rows s.removed
  runs_stand =
      let live = live_blocks ws e.sma.bounds.from in
      ap (λ n. free_runs n e.sma.bounds.to e.sma.bounds.piece live) stand.from
      ∙ ap (λ n. free_runs s.conf.slots n e.sma.bounds.piece live) stand.to
      ∙ ap (λ n. free_runs s.conf.slots s.conf.words n live) stand.piece
      ∙ runs_alike s.conf.slots s.conf.words (piece_of s.conf) live (blocks_of s) stand.blocks
      ∙ ap (free_runs s.conf.slots s.conf.words (piece_of s.conf)) blocks_whole

  -- the runs are the gaps among the tiles
  pub runs_tiles : gaps_in s.conf s.rows s.removed ≡ gaps (tiles ws e.sma.bounds.from)
  runs_tiles = sym runs_stand ∙ free_runs_of e.sma.bounds ws aside (filled_of stand.ready)

  pub tiled_all : AreTiled s.rows s.removed (gaps_in s.conf s.rows s.removed) e.sma.bounds.from (length ws)
      (tiles ws e.sma.bounds.from)
  tiled_all = record {
    blocks = λ w low high test.
        ap (count_by (λ block. begins_at w block && test block)) (sym blocks_whole)
        ∙ sym (stand.blocks.count (λ block. begins_at w block && test block));
    runs_are = λ w low high. ap (filter (begins_at w)) runs_tiles;
  }

  -- all parts, between the bounds of the tiles
  pub parts_all : parts_between s.rows s.removed (gaps_in s.conf s.rows s.removed) e.sma.bounds.from
      (length ws) ≡ parts_in s.conf s.rows s.removed
  parts_all =
      let f = parts_between s.rows s.removed (gaps_in s.conf s.rows s.removed) in
      ap (λ n. f n (length ws)) stand.from
      ∙ ap (f s.conf.slots) (sym stand.ready.end ∙ stand.to)

  pub sizes_all : sum_by size_of (parts_in s.conf s.rows s.removed) ≡ s.conf.words - s.conf.slots
  sizes_all =
      ap (sum_by size_of) (sym parts_all)
      ∙ sizes_sum ws s.rows s.removed (gaps_in s.conf s.rows s.removed) e.sma.bounds.from (length ws)
      (tiles ws e.sma.bounds.from) stand.ready.formatted.full tiled_all
      ∙ ap (λ n. n - e.sma.bounds.from) (sym stand.ready.end ∙ stand.to)
      ∙ ap (λ n. s.conf.words - n) stand.from

  pub room_all : FitParts → FitWhole → FitSome → FitNone → (n : ℕ) → n % 2 ≡ 0 → 2 ≤ n
      → TakesAll s.conf.slots s.conf.words (piece_of s.conf) n
      (blocks_in n (gaps_in s.conf s.rows s.removed)) (map extent_of (s.rows ++ s.removed))
  room_all parts fit some none n even two =
      let k = blocks_in n (gaps_in s.conf s.rows s.removed) in
      let blocks = map extent_of (s.rows ++ s.removed) in
      let took = takes_all parts fit some none
      (λ from to piece m xs ys same. same_fit from to piece m xs ys (record { count = same }))
      e.sma.bounds aside n even two k ws blocks (filled_of stand.ready)
      (ap (blocks_in n) (sym runs_tiles))
      (λ test. ap (count_by test) (sym blocks_whole) ∙ sym (stand.blocks.count test)) in
      subst (λ x. TakesAll s.conf.slots s.conf.words x n k blocks) stand.piece
      (subst (λ x. TakesAll s.conf.slots x e.sma.bounds.piece n k blocks) stand.to
      (subst (λ x. TakesAll x e.sma.bounds.to e.sma.bounds.piece n k blocks) stand.from took))

-- ---- the walk over them

module _ (e : EntrySlots) (ws : List ℕ) (aside : Aside) (s : Entries) (stand : Stands e ws aside s) (whole : IsWhole s) where
  pub starts : (at : ℕ) → at ≡ s.conf.slots → (gap : Option (ℕ × ℕ))
      → gap ≡ option_map pair_of (find (λ run. nat_le at run.place)
      (free_runs_in e.sma.bounds ws))
      → IsAtPart ws s e.sma.bounds.from at gap
  starts at is gap found =
      let first = edge_start ws e.sma.bounds.from stand.ready.formatted.full in
      let same : e.sma.bounds.from ≡ at = stand.from ∙ sym is in
      subst (λ a. gap ≡ option_map pair_of (find (λ run. nat_le a run.place)
      (free_runs_in e.sma.bounds ws))
      → IsAtPart ws s e.sma.bounds.from a gap) same
      (λ told. record {
        edge = first;
        tiled = tiled_all e ws aside s stand whole;
        gap_is = told_ahead e.sma ws ws aside e.sma.bounds.from gap stand.ready first refl told;
      }) found

  pub text_starts : (at : ℕ) → at ≡ s.conf.slots
      → lines_from ws s at ≡ flat_map part_line (parts_in s.conf s.rows s.removed)
  text_starts at is =
      ap (lines_from ws s) (is ∙ sym stand.from)
      ∙ ap (flat_map part_line) (parts_all e ws aside s stand whole)

  pub words_are : length ws ≡ s.conf.words
  words_are = sym stand.ready.end ∙ stand.to

  pub text_ends : (at : ℕ) → s.conf.words ≤ at → lines_from ws s at ≡ []
  text_ends at over =
      ap (flat_map part_line) (parts_end s.rows s.removed (gaps_in s.conf s.rows s.removed) at (length ws)
      (omega (arith, words_are, over)))

-- ---- of a core

module _ (core : Core) (ws : List ℕ) (aside : Aside) (stands : CoreStands core ws aside) where
  pub core_whole : IsWhole (entries core.slots)
  core_whole = (ap (λ (s : Entries). s.unlinked) stands.whole, ap (λ (s : Entries). s.taken) stands.whole)

  shape : (entries core.slots).conf ≡ core.conf
  shape = ap (λ (s : Entries). s.conf) stands.whole

  pub core_parts : parts_in (entries core.slots).conf (entries core.slots).rows (entries core.slots).removed
      ≡ parts_of (cache_of core)
  core_parts =
      ap (λ (f : Conf). parts_in f (entries core.slots).rows (entries core.slots).removed) shape

  pub core_sizes : sum_by size_of (parts_of (cache_of core)) ≡ core.conf.words - core.conf.slots
  core_sizes =
      sym (ap (sum_by size_of) core_parts)
      ∙ sizes_all core.slots ws aside (entries core.slots) stands.stand core_whole
      ∙ ap (λ (f : Conf). f.words - f.slots) shape

  pub core_runs : free_runs_in core.slots.sma.bounds ws
      ≡ gaps_in core.conf (entries core.slots).rows (entries core.slots).removed
  core_runs =
      runs_stand core.slots ws aside (entries core.slots) stands.stand core_whole
      ∙ ap (λ (f : Conf). gaps_in f (entries core.slots).rows (entries core.slots).removed) shape

  pub core_room : FitParts → FitWhole → FitSome → FitNone → (n k : ℕ) → n % 2 ≡ 0 → 2 ≤ n
      → k ≡ blocks_in n (gaps_in core.conf (entries core.slots).rows (entries core.slots).removed)
      → HasRoomFor n k (cache_of core)
  core_room parts fit some none n k even two is =
      let s = entries core.slots in
      let room = room_all core.slots ws aside s stands.stand core_whole parts fit some none n even two in
      subst (λ m. HasRoomFor n m (cache_of core)) (sym is)
      (subst (λ (f : Conf). TakesAll f.slots f.words (piece_of f) n (blocks_in n (gaps_in f s.rows s.removed))
      (map extent_of (s.rows ++ s.removed))) shape room)
