-- What giving a block back leaves.
use Rattle.std.proofs.Common.{◌≡◌, ◌≢◌, ◌⊎◌, inl, inr, ℕ, ◌+◌, ◌-◌, ◌%◌, ◌<◌, ◌≤◌, Bool, true, false, not, cond, List, [], ◌∷◌, ◌++◌, length, slice_index, refl, sym, ap, ◌∙◌, subst, arith}
use Rattle.std.proofs.lemmas.Bool.{not-true, cases_lt}
use Rattle.std.specs.List.{Contains}
use Rattle.std.proofs.lemmas.List.Elements.{Contains-append_cases}
use Rattle.seg_words.specs.declared.gaps.Extent.{Extent}
use Rattle.seg_words.specs.Windows.{Aside, is_named}
use Rattle.seg_words.specs.Blocks.{MayStore}
use Rattle.sma_blocks.specs.declared.bounds.Bounds.{Bounds}
use Rattle.sma_blocks.proofs.FilledWords.{IsFilled}
use Rattle.sma_blocks.specs.Tiles.{Tile, tiles, Fill, gaps_touch, are_whole, IsFormatted}
use Rattle.sma_blocks.specs.Live.{lives, live_blocks, IsLive, without_block, SameBlocks}
use Rattle.sma_blocks.specs.Ready.{NameLive}
use Rattle.sma_blocks.specs.Walk.{IsEdge, ends_in_gap, IsFreeBefore, IsFreeAfter, merged_words}
use Rattle.sma_blocks.proofs.MergedWords.{merged_count, merged_first, merged_other}
use Rattle.sma_blocks.proofs.TileLemmas.{Fill-le, Fill-append, tiles-filled, edge_whole}
use Rattle.sma_blocks.proofs.LiveBlocks.{tile_extent, lives-append, lives_between, without_block_between}
use Rattle.seg_words.specs.Members.{Contains-cases}
use Rattle.sma_blocks.proofs.NamedBlocks.{between, may_store, names_less, ready_from}
use Rattle.sma_blocks.proofs.TouchingGaps.{merged_front, merged_back, merged_after, merged_join, merged_gap, merged_live, merged_begin, merged_block, merged_border}
use Rattle.sma_blocks.proofs.FitPlaces.{blocks_at, Fill-even, tile_seen, whole_at}
use Rattle.sma_blocks.proofs.WholeTiles.{whole_split, whole_head, whole_append, whole_cons}
use Rattle.seg_words.specs.Gaps.{is_whole}
use Rattle.seg_words.specs.Segments.{whole_join}
use Rattle.sma_blocks.proofs.TileChanges.{Change, change_blocks, change_same, change_names, change_formatted}

-- a live block ahead of an edge begins there or past the tile there
pub live_ahead : (ws : List ℕ) (from place at : ℕ) (p : Tile) (rest : List Tile) → IsEdge ws from place → tiles ws place ≡ p ∷ rest → IsLive (live_blocks ws from) at → place ≤ at → ((at ≡ place) × (p.live ≡ true)) ⊎ (place + p.size ≤ at)
live_ahead ws from place at p rest h is live ahead =
    let e : Extent = record { place = at; size = live.0 } in
    let all : live_blocks ws from ≡ lives h.passed ++ lives (p ∷ rest) = blocks_at ws from place h ∙ ap (λ ps. lives h.passed ++ lives ps) is in
    let filled : Fill ws place (p ∷ rest) (length ws) = subst (λ ps. Fill ws place ps (length ws)) is h.after in
    elim (Contains-append_cases (lives h.passed) (lives (p ∷ rest)) e (subst (λ es. Contains es e) all live.1)) [
      | inl before ↦ let b = lives_between ws from h.passed place e h.before before in absurd (omega (arith, b.1, b.2))
      | inr here ↦ go p.live filled here
    ]
  where
    go : (kind : Bool) → Fill ws place (p ∷ rest) (length ws) → Contains (cond kind (tile_extent p ∷ lives rest) (lives rest)) (record { place = at; size = live.0 }) → ((at ≡ place) × (kind ≡ true)) ⊎ (place + p.size ≤ at)
    go true f c = elim (Contains-cases (tile_extent p) (lives rest) (record { place = at; size = live.0 }) c) [
      | inl same ↦ inl (sym (ap (λ (x : Extent). x.place) same) ∙ f.0.place, refl)
      | inr later ↦ inr (lives_between ws (place + p.size) rest (length ws) (record { place = at; size = live.0 }) f.1 later).0
    ]
    go false f c = inr (lives_between ws (place + p.size) rest (length ws) (record { place = at; size = live.0 }) f.1 c).0

-- a live block lies before the end
pub live_inside : (bounds : Bounds) (ws : List ℕ) (aside : Aside) (at : ℕ) → IsFilled bounds ws aside → IsLive (live_blocks ws bounds.from) at → (bounds.from ≤ at) × (at + 2 ≤ bounds.to)
live_inside bounds ws aside at h live =
    let b = lives_between ws bounds.from (tiles ws bounds.from) (length ws) (record { place = at; size = live.0 }) h.formatted.full live.1 in
    (b.0, omega (arith, b.1, b.2, h.end))

-- the words before are as free where the words were only read
pub free_seen : {seen ws : List ℕ} {s : ℕ} (from first at : ℕ) → seen ≡ ws → IsFreeBefore seen from s first at → IsFreeBefore ws from s first at
free_seen {seen} {ws} {s} from first at same free = subst (λ xs. IsFreeBefore xs from s first at) same free

pub before_edge : (ws : List ℕ) (from first place : ℕ) {s : ℕ} → IsFreeBefore ws from s first place → IsEdge ws from place
before_edge ws from first place {s} h = record { passed = h.front ++ h.tail; before = Fill-append ws from h.front first h.tail place h.before h.between; after = h.after }

-- the tiles from an edge on: no two gaps touch among them
merged_at : (ws : List ℕ) (from at : ℕ) {s : ℕ} (h : IsEdge ws from at) → IsFormatted ws from s → gaps_touch s false (tiles ws at) ≡ false
merged_at ws from at {s} h formatted =
    let whole : gaps_touch s false (h.passed ++ tiles ws at) ≡ false = sym (ap (gaps_touch s false) (edge_whole ws from at h)) ∙ formatted.merged in
    merged_after s (ends_in_gap false h.passed) (tiles ws at) (merged_back s h.passed (tiles ws at) whole)

-- nothing stands at the end
pub after_end : (ws : List ℕ) (s end : ℕ) → end ≡ length ws → IsFreeAfter ws s end end
after_end ws s end h = record { tail = []; rest = []; between = refl; after = h; free = refl; one = omega arith; whole = λ lt. absurd (omega arith); joined = λ lt. absurd (omega arith); begins_live = refl }

-- a segment begins there
pub after_border : (ws : List ℕ) (from end : ℕ) {s : ℕ} → IsFormatted ws from s → IsEdge ws from end → is_whole s (end - 1) 2 ≡ false → IsFreeAfter ws s end end
after_border ws from end {s} formatted h border =
    record { tail = []; rest = tiles ws end; between = refl; after = h.after; free = refl; one = omega arith; whole = λ lt. absurd (omega arith); joined = λ lt. absurd (omega arith); begins_live = merged_border s ws end (tiles ws end) (length ws) h.after border (merged_at ws from end h formatted) }

-- a live block is there
pub after_live : (ws : List ℕ) (from end size : ℕ) (rest : List Tile) {s : ℕ} → IsFormatted ws from s → IsEdge ws from end → tiles ws end ≡ record { place = end; size = size; live = true } ∷ rest → IsFreeAfter ws s end end
after_live ws from end size rest {s} formatted h is =
    let p : Tile = record { place = end; size = size; live = true } in
    let merged : gaps_touch s false (p ∷ rest) ≡ false = subst (λ ps. gaps_touch s false ps ≡ false) is (merged_at ws from end h formatted) in
    record { tail = []; rest = p ∷ rest; between = refl; after = subst (λ ps. Fill ws end ps (length ws)) is h.after; free = refl; one = omega arith; whole = λ lt. absurd (omega arith); joined = λ lt. absurd (omega arith); begins_live = merged_block s true p rest refl (merged_live s false p rest refl merged) }

-- a gap is there
pub after_gap : (ws : List ℕ) (from end size : ℕ) (rest : List Tile) {s : ℕ} → IsFormatted ws from s → IsEdge ws from end → tiles ws end ≡ record { place = end; size = size; live = false } ∷ rest → is_whole s (end - 1) 2 ≡ true → IsFreeAfter ws s end (end + size)
after_gap ws from end size rest {s} formatted h is joined =
    let p : Tile = record { place = end; size = size; live = false } in
    let merged : gaps_touch s false (p ∷ rest) ≡ false = subst (λ ps. gaps_touch s false ps ≡ false) is (merged_at ws from end h formatted) in
    let filled : Fill ws end (p ∷ rest) (length ws) = subst (λ ps. Fill ws end ps (length ws)) is h.after in
    record { tail = p ∷ []; rest = rest; between = (filled.0, refl); after = filled.1; free = refl; one = omega arith; whole = λ lt. subst (λ (x : ℕ). is_whole s end x ≡ true) (omega arith) (whole_at ws from s end h rest formatted is); joined = λ lt. joined; begins_live = (merged_gap s false p rest refl merged).1 }

-- a live block with the free words round it
pub record Around (bounds : Bounds) (ws : List ℕ) (aside : Aside) (at size first last : ℕ) : Type 0 where
  pub ready : IsFilled bounds ws aside
  pub before : IsFreeBefore ws bounds.from bounds.piece first at
  pub is : tiles ws at ≡ record { place = at; size = size; live = true } ∷ tiles ws (at + size)
  pub after : IsFreeAfter ws bounds.piece (at + size) last
  pub unnamed : is_named aside.windows at ≡ false

abbrev pub block : ℕ → ℕ → Tile
block at size = record { place = at; size = size; live = true }

abbrev pub given : ℕ → ℕ → Extent
given at size = record { place = at; size = size }

abbrev pub gap : ℕ → ℕ → Tile
gap first last = record { place = first; size = last - first; live = false }

pub around_fill : {bounds : Bounds} {ws : List ℕ} {aside : Aside} {at size first last : ℕ} (h : Around bounds ws aside at size first last) → Fill ws at (block at size ∷ tiles ws (at + size)) (length ws)
around_fill {bounds} {ws} {aside} {at} {size} {first} {last} h = subst (λ ps. Fill ws at ps (length ws)) h.is h.before.after

pub around_tiles : {bounds : Bounds} {ws : List ℕ} {aside : Aside} {at size first last : ℕ} (h : Around bounds ws aside at size first last) → tiles ws bounds.from ≡ h.before.front ++ (h.before.tail ++ (block at size ∷ (h.after.tail ++ h.after.rest)))
around_tiles {bounds} {ws} {aside} {at} {size} {first} {last} h =
    let behind : Fill ws (at + size) (h.after.tail ++ h.after.rest) (length ws) = Fill-append ws (at + size) h.after.tail last h.after.rest (length ws) h.after.between h.after.after in
    let here : Fill ws at (block at size ∷ (h.after.tail ++ h.after.rest)) (length ws) = ((around_fill h).0, behind) in
    tiles-filled ws bounds.from (h.before.front ++ (h.before.tail ++ (block at size ∷ (h.after.tail ++ h.after.rest))))
    (Fill-append ws bounds.from h.before.front first (h.before.tail ++ (block at size ∷ (h.after.tail ++ h.after.rest))) (length ws) h.before.before
    (Fill-append ws first h.before.tail at (block at size ∷ (h.after.tail ++ h.after.rest)) (length ws) h.before.between here))

pub around_blocks : {bounds : Bounds} {ws : List ℕ} {aside : Aside} {at size first last : ℕ} (h : Around bounds ws aside at size first last) → live_blocks ws bounds.from ≡ lives h.before.front ++ given at size ∷ lives h.after.rest
around_blocks {bounds} {ws} {aside} {at} {size} {first} {last} h =
    let behind : lives (h.after.tail ++ h.after.rest) ≡ lives h.after.rest = lives-append h.after.tail h.after.rest ∙ ap (λ es. es ++ lives h.after.rest) h.after.free in
    let here : lives (h.before.tail ++ (block at size ∷ (h.after.tail ++ h.after.rest))) ≡ given at size ∷ lives (h.after.tail ++ h.after.rest) =
    lives-append h.before.tail (block at size ∷ (h.after.tail ++ h.after.rest)) ∙ ap (λ es. es ++ (given at size ∷ lives (h.after.tail ++ h.after.rest))) h.before.free in
    ap lives (around_tiles h) ∙ lives-append h.before.front (h.before.tail ++ (block at size ∷ (h.after.tail ++ h.after.rest))) ∙ ap (λ es. lives h.before.front ++ es) (here ∙ ap (λ es. given at size ∷ es) behind)

pub around_order : {bounds : Bounds} {ws : List ℕ} {aside : Aside} {at size first last : ℕ} (h : Around bounds ws aside at size first last) → (first ≤ at) × (at + size ≤ last) × (last ≤ length ws) × (2 ≤ size)
around_order {bounds} {ws} {aside} {at} {size} {first} {last} h =
    (Fill-le ws first h.before.tail at h.before.between, Fill-le ws (at + size) h.after.tail last h.after.between, Fill-le ws last h.after.rest (length ws) h.after.after, (around_fill h).0.enough)

give_middle : {bounds : Bounds} {ws : List ℕ} {aside : Aside} {at size first last : ℕ} (h : Around bounds ws aside at size first last) (next : ℕ) → Fill (merged_words ws first last next) first (gap first last ∷ []) last
give_middle {bounds} {ws} {aside} {at} {size} {first} {last} h next =
    let order = around_order h in
    let low : first % 2 ≡ 0 = Fill-even ws bounds.from h.before.front first h.before.before h.ready.formatted.even in
    let here : at % 2 ≡ 0 = Fill-even ws first h.before.tail at h.before.between low in
    let end : (at + size) % 2 ≡ 0 = omega (arith, (around_fill h).0.even, here) in
    let high : last % 2 ≡ 0 = Fill-even ws (at + size) h.after.tail last h.after.between end in
    let word : slice_index (merged_words ws first last next) first ≡ (last - first) + 1 = merged_first ws first last next (omega (arith, order.0, order.1, order.2, order.3)) in
    (record { place = refl; word = word; even = omega (arith, low, high, order.0, order.1); enough = omega (arith, order.0, order.1, order.3) }, omega (arith, order.0, order.1))

pub give_change : {bounds : Bounds} {ws : List ℕ} {aside : Aside} {at size first last : ℕ} (h : Around bounds ws aside at size first last) (next : ℕ) → Change ws (merged_words ws first last next) bounds.from first last h.before.front (gap first last ∷ []) h.after.rest
give_change {bounds} {ws} {aside} {at} {size} {first} {last} h next =
    let order = around_order h in
    record {
      before = h.before.before;
      middle = give_middle h next;
      after = h.after.after;
      same = λ i out.
          let one : i ≢ first = elim out [ inl l ↦ (λ q. omega arith) | inr r ↦ (λ q. omega (arith, order.0, order.1, order.3)) ] in
          let two : i ≢ first + 1 = elim out [ inl l ↦ (λ q. omega arith) | inr r ↦ (λ q. omega (arith, order.0, order.1, order.3)) ] in
          merged_other ws first last next i one two;
      count = merged_count ws first last next;
    }

give_without : {bounds : Bounds} {ws : List ℕ} {aside : Aside} {at size first last : ℕ} (h : Around bounds ws aside at size first last) → without_block at (live_blocks ws bounds.from) ≡ lives h.before.front ++ lives h.after.rest
give_without {bounds} {ws} {aside} {at} {size} {first} {last} h =
    let order = around_order h in
    ap (without_block at) (around_blocks h) ∙ without_block_between ws bounds.from h.before.front first last h.after.rest (length ws) (given at size) h.before.before h.after.after order.0 (omega (arith, order.1, order.3))

-- the live blocks lose the one that is given
pub give_less : {bounds : Bounds} {ws : List ℕ} {aside : Aside} {at size first last : ℕ} (h : Around bounds ws aside at size first last) (next : ℕ) → live_blocks (merged_words ws first last next) bounds.from ≡ without_block at (live_blocks ws bounds.from)
give_less {bounds} {ws} {aside} {at} {size} {first} {last} h next = change_blocks (give_change h next) ∙ sym (give_without h)

pub give_same : {bounds : Bounds} {ws : List ℕ} {aside : Aside} {at size first last : ℕ} (h : Around bounds ws aside at size first last) (next : ℕ) → SameBlocks ws (merged_words ws first last next) bounds.from (without_block at (live_blocks ws bounds.from))
give_same {bounds} {ws} {aside} {at} {size} {first} {last} h next =
    subst (λ es. SameBlocks ws (merged_words ws first last next) bounds.from es) (sym (give_without h)) (change_same (give_change h next))

give_names : {bounds : Bounds} {ws : List ℕ} {aside : Aside} {at size first last : ℕ} (h : Around bounds ws aside at size first last) → NameLive ws aside.windows (lives h.before.front ++ lives h.after.rest)
give_names {bounds} {ws} {aside} {at} {size} {first} {last} h =
    names_less ws aside.windows (lives h.before.front) (given at size) (lives h.after.rest) (subst (λ es. NameLive ws aside.windows es) (around_blocks h) h.ready.windows) h.unnamed

-- the words of the gap that is made may be stored
pub give_apart : {bounds : Bounds} {ws : List ℕ} {aside : Aside} {at size first last : ℕ} (h : Around bounds ws aside at size first last) (i : ℕ) → first ≤ i → i < last → MayStore ws aside.windows i
give_apart {bounds} {ws} {aside} {at} {size} {first} {last} h i low high =
    may_store ws aside.windows (lives h.before.front ++ lives h.after.rest) first last i (give_names h)
    (between ws bounds.from h.before.front first last h.after.rest (length ws) h.before.before h.after.after) low high

pub give_merged : {bounds : Bounds} {ws : List ℕ} {aside : Aside} {at size first last : ℕ} (h : Around bounds ws aside at size first last) → gaps_touch bounds.piece false (h.before.front ++ ((gap first last ∷ []) ++ h.after.rest)) ≡ false
give_merged {bounds} {ws} {aside} {at} {size} {first} {last} h =
    let s = bounds.piece in
    let front = h.before.front in
    let whole : gaps_touch s false (front ++ (h.before.tail ++ (block at size ∷ (h.after.tail ++ h.after.rest)))) ≡ false = sym (ap (gaps_touch s false) (around_tiles h)) ∙ h.ready.formatted.merged in
    merged_join s front (gap first last ∷ h.after.rest) (merged_front s front (h.before.tail ++ (block at size ∷ (h.after.tail ++ h.after.rest))) whole)
    (merged_begin s (ends_in_gap false front) (gap first last) h.after.rest refl h.before.ends_live h.after.begins_live)

-- each tile lies in one segment
pub give_whole : {bounds : Bounds} {ws : List ℕ} {aside : Aside} {at size first last : ℕ} (h : Around bounds ws aside at size first last) → are_whole bounds.piece (h.before.front ++ ((gap first last ∷ []) ++ h.after.rest)) ≡ true
give_whole {bounds} {ws} {aside} {at} {size} {first} {last} h =
    let s = bounds.piece in
    let o = around_order h in
    let front = h.before.front in
    let all : are_whole s (front ++ (h.before.tail ++ (block at size ∷ (h.after.tail ++ h.after.rest)))) ≡ true = sym (ap (are_whole s) (around_tiles h)) ∙ h.ready.formatted.whole in
    let parts = whole_split s front (h.before.tail ++ (block at size ∷ (h.after.tail ++ h.after.rest))) all in
    let behind = whole_split s h.before.tail (block at size ∷ (h.after.tail ++ h.after.rest)) parts.1 in
    let here = whole_head s (block at size) (h.after.tail ++ h.after.rest) behind.1 in
    let rest = (whole_split s h.after.tail h.after.rest here.1).1 in
    let one : is_whole s first ((at + size) - first) ≡ true = elim (cases_lt first at) [
      | inl lt ↦ whole_join s first (at - first) at size (at + size) (h.before.whole lt) (omega arith) (omega arith) (h.before.joined lt) here.0 refl (omega (arith, o.3))
      | inr ge ↦
          let same : at ≡ first = omega (arith, o.0) in
          let wide : size ≡ (at + size) - first = omega arith in
          subst (λ (x : ℕ). is_whole s first x ≡ true) wide (subst (λ (x : ℕ). is_whole s x size ≡ true) same here.0)
    ] in
    let both : is_whole s first (last - first) ≡ true = elim (cases_lt (at + size) last) [
      | inl lt ↦ whole_join s first ((at + size) - first) (at + size) (last - (at + size)) last one (omega (arith, o.0)) (omega (arith, o.0, o.3)) (h.after.joined lt) (h.after.whole lt) (omega arith) (omega arith)
      | inr ge ↦ subst (λ (x : ℕ). is_whole s first (x - first) ≡ true) (omega (arith, o.1)) one
    ] in
    whole_append s front (gap first last ∷ h.after.rest) parts.0 (whole_cons s (gap first last) h.after.rest both rest)

pub give_ready : {bounds : Bounds} {ws : List ℕ} {aside : Aside} {at size first last : ℕ} (h : Around bounds ws aside at size first last) (next : ℕ) → IsFilled bounds (merged_words ws first last next) aside
give_ready {bounds} {ws} {aside} {at} {size} {first} {last} h next =
    ready_from bounds (merged_words ws first last next) aside (h.ready.end ∙ sym (merged_count ws first last next)) (change_formatted (give_change h next) bounds.piece h.ready.formatted.even (give_merged h) (give_whole h))
    (subst (λ es. NameLive (merged_words ws first last next) aside.windows es) (sym (change_blocks (give_change h next))) (change_names aside.windows (give_change h next) (give_names h)))

pub around_seen : (bounds : Bounds) (ws : List ℕ) (aside : Aside) (at size first last : ℕ) (now later : List ℕ) (is_gap : Bool) → IsFilled bounds ws aside → IsLive (live_blocks ws bounds.from) at → is_named aside.windows at ≡ false → IsFreeBefore ws bounds.from bounds.piece first at → now ≡ ws → tiles now at ≡ record { place = at; size = size; live = not is_gap } ∷ tiles now (at + size) → 2 ≤ size → later ≡ ws → IsFreeAfter later bounds.piece (at + size) last → Around bounds ws aside at size first last
around_seen bounds ws aside at size first last now later is_gap ready live unnamed before same is some same_later after =
    let seen = tile_seen ws now at size is_gap is_gap same refl is in
    let block : is_gap ≡ false = elim (live_ahead ws bounds.from at at (record { place = at; size = size; live = not is_gap }) (tiles ws (at + size)) (before_edge ws bounds.from first at before) seen live (omega arith)) [
      | inl here ↦ not-true is_gap here.1
      | inr past ↦ absurd (omega arith)
    ] in
    record {
      ready = ready;
      before = before;
      is = tile_seen ws now at size is_gap false same block is;
      after = subst (λ xs. IsFreeAfter xs bounds.piece (at + size) last) same_later after;
      unnamed = unnamed;
    }
