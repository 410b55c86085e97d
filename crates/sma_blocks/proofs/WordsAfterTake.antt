-- What taking a block leaves.
use Rattle.std.proofs.Common.{◌≡◌, ◌≢◌, ◌⊎◌, inl, inr, ℕ, ◌+◌, ◌-◌, ◌%◌, ◌<◌, ◌≤◌, Bool, true, false, ltb, cond, List, [], ◌∷◌, ◌++◌, length, slice_index, slice_set, Some, refl, sym, ap, ◌∙◌, subst, arith, add-zero}
use Rattle.std.proofs.lemmas.Bool.{cases_lt, lt-ltb, le-ltb}
use Rattle.std.proofs.lemmas.List.{get_or-set_same, get_or-set_other, length-set}
use Rattle.seg_words.specs.declared.gaps.Extent.{Extent}
use Rattle.seg_words.specs.declared.layout.TheConstants.{KEY_LENGTH, IMAGE_LENGTH}
use Rattle.seg_words.specs.Windows.{Aside}
use Rattle.seg_words.specs.Blocks.{MayStore}
use Rattle.seg_words.specs.Gaps.{fits, first_fit, is_whole}
use Rattle.seg_words.specs.Segments.{whole_part}
use Rattle.sma_blocks.proofs.WholeTiles.{whole_split, whole_head, whole_append, whole_cons}
use Rattle.sma_blocks.specs.declared.bounds.Bounds.{Bounds}
use Rattle.sma_blocks.proofs.FilledWords.{IsFilled}
use Rattle.sma_blocks.specs.Tiles.{Tile, tiles, Fill, gaps_touch, are_whole}
use Rattle.sma_blocks.specs.Live.{lives, live_blocks, with_block, SameBlocks}
use Rattle.sma_blocks.specs.Ready.{NameLive}
use Rattle.sma_blocks.specs.Walk.{IsEdge, ends_in_gap, cut_words}
use Rattle.sma_blocks.proofs.TileLemmas.{Fill-le, edge_whole}
use Rattle.sma_blocks.proofs.LiveBlocks.{with_block_between}
use Rattle.sma_blocks.proofs.NamedBlocks.{between, may_store, names_more, ready_from}
use Rattle.sma_blocks.proofs.TouchingGaps.{merged_front, merged_back, merged_after, merged_join, merged_gap, merged_block}
use Rattle.sma_blocks.proofs.FitPlaces.{FitSome, FitWhole, blocks_at, fits_in_gap}
use Rattle.sma_blocks.proofs.TileChanges.{Change, change_blocks, change_same, change_names, change_formatted}

-- a store that is apart from what readers rely on leaves every other such store so
pub may_store_after : (ws windows : List ℕ) (j i v : ℕ) → MayStore ws windows j → MayStore ws windows i → MayStore (slice_set ws j v) windows i
may_store_after ws windows j i v first second at named =
    let f = first at named in
    let s = second at named in
    let not_key : at + KEY_LENGTH ≢ j = λ q. f.key_length (sym q) in
    let not_image : at + IMAGE_LENGTH ≢ j = λ q. f.image_length (sym q) in
    let key : slice_index (slice_set ws j v) (at + KEY_LENGTH) ≡ slice_index ws (at + KEY_LENGTH) = get_or-set_other ws j (at + KEY_LENGTH) v 0 not_key in
    let image : slice_index (slice_set ws j v) (at + IMAGE_LENGTH) ≡ slice_index ws (at + IMAGE_LENGTH) = get_or-set_other ws j (at + IMAGE_LENGTH) v 0 not_image in
    record {
      key_length = s.key_length;
      image_length = s.image_length;
      pin_count = s.pin_count;
      image = rw (key, image) s.image;
    }

-- the words after a cut
abbrev laid : List ℕ → ℕ → ℕ → ℕ → List ℕ
laid ws at size n = slice_set (slice_set ws (at + n) ((size - n) + 1)) ((at + n) + 1) (slice_index ws (at + 1))

laid_count : (ws : List ℕ) (at size n : ℕ) → length (laid ws at size n) ≡ length ws
laid_count ws at size n = length-set (slice_set ws (at + n) ((size - n) + 1)) ((at + n) + 1) (slice_index ws (at + 1)) ∙ length-set ws (at + n) ((size - n) + 1)

pub cut_count : (ws : List ℕ) (at size n : ℕ) → length (cut_words ws at size n) ≡ length ws
cut_count ws at size n = go (ltb n size)
  where
    go : (b : Bool) → length (slice_set (cond b (laid ws at size n) ws) at n) ≡ length ws
    go true = length-set (laid ws at size n) at n ∙ laid_count ws at size n
    go false = length-set ws at n

pub cut_same : (ws : List ℕ) (at size n i : ℕ) → 1 ≤ n → (n < size → n + 2 ≤ size) → (i < at) ⊎ (at + size ≤ i) → n ≤ size → slice_index (cut_words ws at size n) i ≡ slice_index ws i
cut_same ws at size n i some left out enough = elim (cases_lt n size) [
  | inl lt ↦
      let b : ltb n size ≡ true = lt-ltb n size lt in
      let room : n + 2 ≤ size = left lt in
      let first : i ≢ at = elim out [ inl l ↦ (λ q. omega arith) | inr r ↦ (λ q. omega arith) ] in
      let second : i ≢ at + n = elim out [ inl l ↦ (λ q. omega arith) | inr r ↦ (λ q. omega arith) ] in
      let third : i ≢ (at + n) + 1 = elim out [ inl l ↦ (λ q. omega arith) | inr r ↦ (λ q. omega arith) ] in
      rw b (get_or-set_other (laid ws at size n) at i n 0 first ∙ get_or-set_other (slice_set ws (at + n) ((size - n) + 1)) ((at + n) + 1) i (slice_index ws (at + 1)) 0 third ∙ get_or-set_other ws (at + n) i ((size - n) + 1) 0 second)
  | inr ge ↦
      let b : ltb n size ≡ false = le-ltb n size ge in
      let first : i ≢ at = elim out [ inl l ↦ (λ q. omega arith) | inr r ↦ (λ q. omega arith) ] in
      rw b (get_or-set_other ws at i n 0 first)
]

pub cut_first : (ws : List ℕ) (at size n : ℕ) → at < length ws → slice_index (cut_words ws at size n) at ≡ n
cut_first ws at size n inside = go (ltb n size)
  where
    go : (b : Bool) → slice_index (slice_set (cond b (laid ws at size n) ws) at n) at ≡ n
    go true = get_or-set_same (laid ws at size n) at n 0 (omega (arith, laid_count ws at size n))
    go false = get_or-set_same ws at n 0 inside

-- the link of the gap that is left is that of the gap before the cut
pub cut_link : (ws : List ℕ) (at size n : ℕ) → n < size → 2 ≤ n → at + n + 1 < length ws → slice_index (cut_words ws at size n) ((at + n) + 1) ≡ slice_index ws (at + 1)
cut_link ws at size n lt some inside =
    let b : ltb n size ≡ true = lt-ltb n size lt in
    let other : (at + n) + 1 ≢ at = λ q. omega arith in
    let found : slice_index (slice_set (laid ws at size n) at n) ((at + n) + 1) ≡ slice_index ws (at + 1) =
    get_or-set_other (laid ws at size n) at ((at + n) + 1) n 0 other ∙ get_or-set_same (slice_set ws (at + n) ((size - n) + 1)) ((at + n) + 1) (slice_index ws (at + 1)) 0 (omega (arith, length-set ws (at + n) ((size - n) + 1))) in
    rw b found

-- the gap that is left
abbrev pub left_over : ℕ → ℕ → ℕ → List Tile
left_over at size n = cond (ltb n size) (record { place = at + n; size = size - n; live = false } ∷ []) []

abbrev pub taken : ℕ → ℕ → Tile
taken at n = record { place = at; size = n; live = true }

cut_fill : (ws : List ℕ) (at size n : ℕ) → at + size ≤ length ws → 2 ≤ n → n ≤ size → n % 2 ≡ 0 → size % 2 ≡ 0 → Fill (cut_words ws at size n) at (taken at n ∷ left_over at size n) (at + size)
cut_fill ws at size n inside some enough even even_size =
    let word : slice_index (cut_words ws at size n) at ≡ n + 0 = cut_first ws at size n (omega arith) ∙ sym (add-zero n) in (
      record { place = refl; word = word; even = even; enough = some },
      elim (cases_lt n size) [
        | inl lt ↦
            let b : ltb n size ≡ true = lt-ltb n size lt in
            let other : at + n ≢ at = λ q. omega arith in
            let link : at + n ≢ (at + n) + 1 = λ q. omega arith in
            let found : slice_index (slice_set (laid ws at size n) at n) (at + n) ≡ (size - n) + 1 =
            get_or-set_other (laid ws at size n) at (at + n) n 0 other ∙ get_or-set_other (slice_set ws (at + n) ((size - n) + 1)) ((at + n) + 1) (at + n) (slice_index ws (at + 1)) 0 link ∙ get_or-set_same ws (at + n) ((size - n) + 1) 0 (omega arith) in
            let rest_word : slice_index (cut_words ws at size n) (at + n) ≡ (size - n) + 1 = rw b found in
            rw b (record { place = refl; word = rest_word; even = omega arith; enough = omega arith }, omega arith)
        | inr ge ↦
            let b : ltb n size ≡ false = le-ltb n size ge in
            rw b (omega arith)
      ],
    )

-- a gap at an edge, and the tiles round it
pub record Room (bounds : Bounds) (ws : List ℕ) (aside : Aside) (at size n : ℕ) : Type 0 where
  pub ready : IsFilled bounds ws aside
  pub edge : IsEdge ws bounds.from at
  pub is : tiles ws at ≡ record { place = at; size = size; live = false } ∷ tiles ws (at + size)
  pub even : n % 2 ≡ 0
  pub some : 2 ≤ n
  pub enough : n ≤ size

abbrev gap : ℕ → ℕ → Tile
gap at size = record { place = at; size = size; live = false }

pub room_fill : {bounds : Bounds} {ws : List ℕ} {aside : Aside} {at size n : ℕ} → Room bounds ws aside at size n → Fill ws at (gap at size ∷ tiles ws (at + size)) (length ws)
room_fill {bounds} {ws} {aside} {at} {size} {n} h = subst (λ ps. Fill ws at ps (length ws)) h.is h.edge.after

pub room_blocks : {bounds : Bounds} {ws : List ℕ} {aside : Aside} {at size n : ℕ} (h : Room bounds ws aside at size n) → live_blocks ws bounds.from ≡ lives h.edge.passed ++ lives (tiles ws (at + size))
room_blocks {bounds} {ws} {aside} {at} {size} {n} h = blocks_at ws bounds.from at h.edge ∙ ap (λ ps. lives h.edge.passed ++ lives ps) h.is

pub take_change : {bounds : Bounds} {ws : List ℕ} {aside : Aside} {at size n : ℕ} (h : Room bounds ws aside at size n) → Change ws (cut_words ws at size n) bounds.from at (at + size) h.edge.passed (taken at n ∷ left_over at size n) (tiles ws (at + size))
take_change {bounds} {ws} {aside} {at} {size} {n} h =
    let filled = room_fill h in
    let inside : at + size ≤ length ws = Fill-le ws (at + size) (tiles ws (at + size)) (length ws) filled.1 in
    record {
      before = h.edge.before;
      middle = cut_fill ws at size n inside h.some h.enough h.even filled.0.even;
      after = filled.1;
      same = λ i out.
          let size_even = filled.0.even in
          let even = h.even in
          cut_same ws at size n i (omega (arith, h.some)) (λ lt. omega arith) out h.enough;
      count = cut_count ws at size n;
    }

-- a word of the gap may be stored
pub room_apart : {bounds : Bounds} {ws : List ℕ} {aside : Aside} {at size n : ℕ} → Room bounds ws aside at size n → (i : ℕ) → at ≤ i → i < at + size → MayStore ws aside.windows i
room_apart {bounds} {ws} {aside} {at} {size} {n} h i low high =
    let names : NameLive ws aside.windows (lives h.edge.passed ++ lives (tiles ws (at + size))) = subst (λ es. NameLive ws aside.windows es) (room_blocks h) h.ready.windows in
    may_store ws aside.windows (lives h.edge.passed ++ lives (tiles ws (at + size))) at (at + size) i names
    (between ws bounds.from h.edge.passed at (at + size) (tiles ws (at + size)) (length ws) h.edge.before (room_fill h).1) low high

pub lives_left : (at size n : ℕ) → lives (left_over at size n) ≡ []
lives_left at size n = go (ltb n size)
  where
    go : (b : Bool) → lives (cond b (record { place = at + n; size = size - n; live = false } ∷ []) []) ≡ []
    go true = refl
    go false = refl

pub take_blocks : {bounds : Bounds} {ws : List ℕ} {aside : Aside} {at size n : ℕ} (h : Room bounds ws aside at size n) → live_blocks (cut_words ws at size n) bounds.from ≡ lives h.edge.passed ++ record { place = at; size = n } ∷ lives (tiles ws (at + size))
take_blocks {bounds} {ws} {aside} {at} {size} {n} h =
    change_blocks (take_change h) ∙ ap (λ es. lives h.edge.passed ++ (record { place = at; size = n } ∷ (es ++ lives (tiles ws (at + size))))) (lives_left at size n)

-- the live blocks gain the one that is taken
pub take_more : {bounds : Bounds} {ws : List ℕ} {aside : Aside} {at size n : ℕ} (h : Room bounds ws aside at size n) → live_blocks (cut_words ws at size n) bounds.from ≡ with_block (record { place = at; size = n }) (live_blocks ws bounds.from)
take_more {bounds} {ws} {aside} {at} {size} {n} h =
    let filled = room_fill h in
    let e : Extent = record { place = at; size = n } in
    let put : with_block e (lives h.edge.passed ++ lives (tiles ws (at + size))) ≡ lives h.edge.passed ++ e ∷ lives (tiles ws (at + size)) =
    with_block_between ws bounds.from h.edge.passed at (at + size) (tiles ws (at + size)) (length ws) e h.edge.before filled.1 (omega arith) (omega (arith, filled.0.enough)) in
    take_blocks h ∙ sym put ∙ ap (with_block e) (sym (room_blocks h))

pub take_same : {bounds : Bounds} {ws : List ℕ} {aside : Aside} {at size n : ℕ} (h : Room bounds ws aside at size n) → SameBlocks ws (cut_words ws at size n) bounds.from (live_blocks ws bounds.from)
take_same {bounds} {ws} {aside} {at} {size} {n} h =
    subst (λ es. SameBlocks ws (cut_words ws at size n) bounds.from es) (sym (room_blocks h)) (change_same (take_change h))

pub take_merged : {bounds : Bounds} {ws : List ℕ} {aside : Aside} {at size n : ℕ} (h : Room bounds ws aside at size n) → gaps_touch bounds.piece false (h.edge.passed ++ ((taken at n ∷ left_over at size n) ++ tiles ws (at + size))) ≡ false
take_merged {bounds} {ws} {aside} {at} {size} {n} h =
    let s = bounds.piece in
    let rest = tiles ws (at + size) in
    let passed = h.edge.passed in
    let whole : gaps_touch s false (passed ++ (gap at size ∷ rest)) ≡ false = sym (ap (gaps_touch s false) (edge_whole ws bounds.from at h.edge ∙ ap (λ ps. passed ++ ps) h.is)) ∙ h.ready.formatted.merged in
    let parts = merged_gap s (ends_in_gap false passed) (gap at size) rest refl (merged_back s passed (gap at size ∷ rest) whole) in
    let live : gaps_touch s false (left_over at size n ++ rest) ≡ false = go (ltb n size) parts.1 in
    merged_join s passed ((taken at n ∷ left_over at size n) ++ rest) (merged_front s passed (gap at size ∷ rest) whole) (merged_block s (ends_in_gap false passed) (taken at n) (left_over at size n ++ rest) refl live)
  where
    go : (b : Bool) → gaps_touch bounds.piece true (tiles ws (at + size)) ≡ false → gaps_touch bounds.piece false (cond b (record { place = at + n; size = size - n; live = false } ∷ []) [] ++ tiles ws (at + size)) ≡ false
    go true m = m
    go false m = merged_after bounds.piece true (tiles ws (at + size)) m

-- each tile lies in one segment
pub take_whole : {bounds : Bounds} {ws : List ℕ} {aside : Aside} {at size n : ℕ} (h : Room bounds ws aside at size n) → are_whole bounds.piece (h.edge.passed ++ ((taken at n ∷ left_over at size n) ++ tiles ws (at + size))) ≡ true
take_whole {bounds} {ws} {aside} {at} {size} {n} h =
    let s = bounds.piece in
    let rest = tiles ws (at + size) in
    let passed = h.edge.passed in
    let all : are_whole s (passed ++ (gap at size ∷ rest)) ≡ true = sym (ap (are_whole s) (edge_whole ws bounds.from at h.edge ∙ ap (λ ps. passed ++ ps) h.is)) ∙ h.ready.formatted.whole in
    let parts = whole_split s passed (gap at size ∷ rest) all in
    let two = whole_head s (gap at size) rest parts.1 in
    let some = h.some in
    let enough = h.enough in
    let here : is_whole s at n ≡ true = whole_part s at size at n two.0 (omega arith) (omega arith) (omega arith) in
    let left : are_whole s (left_over at size n) ≡ true = elim (cases_lt n size) [
      | inl lt ↦
          let b : ltb n size ≡ true = lt-ltb n size lt in
          let part : is_whole s (at + n) (size - n) ≡ true = whole_part s at size (at + n) (size - n) two.0 (omega arith) (omega arith) (omega arith) in
          rw b (whole_cons s (record { place = at + n; size = size - n; live = false }) [] part refl)
      | inr ge ↦ let b : ltb n size ≡ false = le-ltb n size ge in rw b refl
    ] in
    whole_append s passed ((taken at n ∷ left_over at size n) ++ rest) parts.0 (whole_cons s (taken at n) (left_over at size n ++ rest) here (whole_append s (left_over at size n) rest left two.1))

pub take_ready : {bounds : Bounds} {ws : List ℕ} {aside : Aside} {at size n : ℕ} (h : Room bounds ws aside at size n) → IsFilled bounds (cut_words ws at size n) aside
take_ready {bounds} {ws} {aside} {at} {size} {n} h =
    let names : NameLive ws aside.windows (lives h.edge.passed ++ lives (tiles ws (at + size))) = subst (λ es. NameLive ws aside.windows es) (room_blocks h) h.ready.windows in
    let kept = change_names aside.windows (take_change h) names in
    let more = names_more (cut_words ws at size n) aside.windows (lives h.edge.passed) (record { place = at; size = n }) (lives (tiles ws (at + size))) kept in
    ready_from bounds (cut_words ws at size n) aside (h.ready.end ∙ sym (cut_count ws at size n)) (change_formatted (take_change h) bounds.piece h.ready.formatted.even (take_merged h) (take_whole h))
    (subst (λ es. NameLive (cut_words ws at size n) aside.windows es) (sym (take_blocks h)) more)

-- the place is the least one
pub take_place : FitSome → FitWhole → {bounds : Bounds} {ws : List ℕ} {aside : Aside} {at size n : ℕ} → Room bounds ws aside at size n → ((b : ℕ) → b < at → fits bounds.from bounds.to bounds.piece n (live_blocks ws bounds.from) b ≡ false) → first_fit bounds.from bounds.to bounds.piece n (live_blocks ws bounds.from) ≡ Some at
take_place some fit {bounds} {ws} {aside} {at} {size} {n} h none_below =
    some bounds.from bounds.to bounds.piece n at (live_blocks ws bounds.from)
    (fits_in_gap fit ws bounds.from bounds.to bounds.piece n at size (tiles ws (at + size)) h.ready.formatted h.ready.end h.edge h.is (let more = h.some in omega arith) h.enough) none_below
