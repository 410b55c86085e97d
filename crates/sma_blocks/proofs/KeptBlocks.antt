-- Gaps laid between the blocks that are kept, from the last one on.
use Rattle.std.proofs.Common.{◌≡◌, ◌⊎◌, inl, inr, ℕ, zero, suc, ◌+◌, ◌%◌, ◌<◌, ◌≤◌, Bool, true, false, eqb, leb, ◌&&◌, ◌||◌, cond, List, [], ◌∷◌, length, get_or, slice_index, refl, sym, ap, ◌∙◌, subst, arith}
use Rattle.std.specs.List.{Contains, filter}
use Rattle.std.proofs.lemmas.Bool.{cases_lt, cases_eq, cases_Bool, and_left, and_right, and_from, le-leb, lt-leb, eq-eqb, eqb-true, or_left, or_right, false≢true}
use Rattle.seg_words.specs.declared.gaps.Extent.{Extent}
use Rattle.seg_words.specs.Windows.{Aside, has, is_named}
use Rattle.seg_words.specs.Blocks.{IsTold, MayStore}
use Rattle.seg_words.specs.Gaps.{is_free, meets}
use Rattle.sma_blocks.specs.declared.sma.Sma.{Sma}
use Rattle.sma_blocks.specs.Tiles.{Tile, tiles, Fill, gaps_touch, are_whole}
use Rattle.sma_blocks.specs.Live.{lives, gap_words, live_blocks, IsLive, kept_blocks, SameBlocks}
use Rattle.seg_words.specs.Gaps.{is_whole}
use Rattle.sma_blocks.specs.Index.{size_at, IsIndexed}
use Rattle.sma_blocks.specs.LaidGaps.{IsLaid}
use Rattle.sma_blocks.proofs.WholeTiles.{whole_cons, lives_whole}
use Rattle.sma_blocks.proofs.FrontGap.{laid_nothing}
use Rattle.sma_blocks.proofs.AllocatorAfterTake.{same_sma}
use Rattle.sma_blocks.specs.Chain.{AreLinked}
use Rattle.sma_blocks.specs.Ready.{NameLive, AreBlocks, IsReady}
use Rattle.sma_blocks.specs.Order.{lives_stand, ready_blocks}
use Rattle.sma_blocks.proofs.FilledWords.{IsFilled}
use Rattle.sma_blocks.proofs.TileLemmas.{tiles-end, tiles-filled, edge_start}
use Rattle.sma_blocks.proofs.LiveBlocks.{tile_extent, lives_between, meets_apart}
use Rattle.seg_words.specs.Members.{Contains-cases, Contains-first, Contains-later, Contains-filter, Contains-kept, filter_alike, filter_none}
use Rattle.sma_blocks.proofs.TouchingGaps.{merged_block}
use Rattle.sma_blocks.proofs.NamedBlocks.{Between, names_same, may_store, told_at_edge, ready_from}
use Rattle.sma_blocks.proofs.UnchangedBlocks.{lives_apart}
use Rattle.sma_blocks.proofs.FirstFit.{here_live}
use Rattle.sma_blocks.proofs.GapBeforeBlock.{edge_of_live}
use Rattle.sma_blocks.proofs.ReadyWords.{ready_by}

-- lists
has_index : (x : ℕ) (xs : List ℕ) → has x xs ≡ true → (k : ℕ) × (k < length xs) × (get_or xs k 0 ≡ x)
has_index x [] h = absurd (false≢true h)
has_index x (y ∷ ys) h = elim (cases_eq x y) [
  | inl same ↦ (0, omega arith, sym same)
  | inr other ↦
      let later : has x ys ≡ true = elim (cases_Bool (eqb x y)) [ inl e ↦ absurd (other (eqb-true x y e)) | inr e ↦ ap (λ (b : Bool). b || has x ys) (sym e) ∙ h ] in
      let r = has_index x ys later in (suc r.0, omega (arith, r.1), r.2)
]

pub index_has : (xs : List ℕ) (k : ℕ) → k < length xs → has (get_or xs k 0) xs ≡ true
index_has [] k inside = absurd (omega arith)
index_has (y ∷ ys) zero inside = or_left (eqb y y) (has y ys) (eq-eqb y y refl)
index_has (y ∷ ys) (suc k) inside = or_right (eqb (get_or ys k 0) y) (has (get_or ys k 0) ys) (index_has ys k (omega arith))

pub rises : (xs : List ℕ) → ((i : ℕ) → i + 1 < length xs → get_or xs i 0 < get_or xs (i + 1) 0) → (j k : ℕ) → k < j → j < length xs → get_or xs k 0 < get_or xs j 0
rises xs up zero k low inside = absurd (omega arith)
rises xs up (suc j) k low inside =
    let step : get_or xs j 0 < get_or xs (suc j) 0 = (let e : j + 1 ≡ suc j = omega arith in omega (arith, up j (omega arith), ap (λ (n : ℕ). get_or xs n 0) e)) in
    elim (cases_eq k j) [
      | inl same ↦ omega (arith, ap (λ (n : ℕ). get_or xs n 0) same)
      | inr other ↦ omega (arith, rises xs up j k (omega arith) (omega arith))
    ]

-- blocks
pub blocks_low : (ws : List ℕ) (low : ℕ) (es : List Extent) (high : ℕ) (f : Extent) → AreBlocks ws low es high → Contains es f → (low ≤ f.place) × (2 ≤ f.size) × (slice_index ws f.place ≡ f.size)
blocks_low ws low [] high f h c = absurd (omega (arith, c.1))
blocks_low ws low (e ∷ es) high f h c = elim (Contains-cases e es f c) [
  | inl same ↦
      let place : e.place ≡ f.place = ap (λ (x : Extent). x.place) same in
      let size : e.size ≡ f.size = ap (λ (x : Extent). x.size) same in
      (omega (arith, h.0), omega (arith, h.1), ap (slice_index ws) (sym place) ∙ h.2 ∙ size)
  | inr later ↦
      let r = blocks_low ws (e.place + e.size) es high f h.3 later in (omega (arith, h.0, r.0), r.1, r.2)
]

lives_even : (ws : List ℕ) (a : ℕ) (ps : List Tile) (b : ℕ) (e : Extent) → Fill ws a ps b → a % 2 ≡ 0 → Contains (lives ps) e → (e.place % 2 ≡ 0) × (e.size % 2 ≡ 0)
lives_even ws a [] b e h even c = absurd (omega (arith, c.1))
lives_even ws a (p ∷ ps) b e h even c = go p.live c (λ d. lives_even ws (a + p.size) ps b e h.1 (omega (arith, h.0.even)) d)
  where
    go : (kind : Bool) → Contains (cond kind (tile_extent p ∷ lives ps) (lives ps)) e → (Contains (lives ps) e → (e.place % 2 ≡ 0) × (e.size % 2 ≡ 0)) → (e.place % 2 ≡ 0) × (e.size % 2 ≡ 0)
    go true d rest = elim (Contains-cases (tile_extent p) (lives ps) e d) [
      | inl same ↦
          let place : p.place ≡ e.place = ap (λ (x : Extent). x.place) same in
          let size : p.size ≡ e.size = ap (λ (x : Extent). x.size) same in
          (omega (arith, h.0.place), omega (arith, h.0.even))
      | inr later ↦ rest later
    ]
    go false d rest = rest d

-- words between the blocks are free
between_free : (es : List Extent) (low high i : ℕ) → Between es low high → low ≤ i → i < high → is_free i 1 es ≡ true
unfolding Between
between_free [] low high i out from to = refl
between_free (e ∷ es) low high i out from to =
    let apart : (i + 1 ≤ e.place) ⊎ (e.place + e.size ≤ i) = elim (out e (Contains-first e es)) [ inl l ↦ inr (omega arith) | inr r ↦ inl (omega arith) ] in
    let miss : meets i 1 e ≡ false = meets_apart i 1 e apart in
    rw miss (between_free es low high i (λ f c. out f (Contains-later e es f c)) from to)

-- the kept blocks from a place on
abbrev pub past_end : List ℕ → ℕ → List Extent → List Extent
past_end places end blocks = filter (λ (b : Extent). has b.place places && leb end b.place) blocks

past_step : (ws : List ℕ) (low : ℕ) (es : List Extent) (high : ℕ) (places : List ℕ) (at size : ℕ) → AreBlocks ws low es high → Contains es (record { place = at; size = size }) → has at places ≡ true → past_end places at es ≡ record { place = at; size = size } ∷ past_end places (at + size) es
past_step ws low [] high places at size h c kept = absurd (omega (arith, c.1))
past_step ws low (e ∷ es) high places at size h c kept = elim (Contains-cases e es (record { place = at; size = size }) c) [
  | inl same ↦
      let place : e.place ≡ at = ap (λ (x : Extent). x.place) same in
      let wide : e.size ≡ size = ap (λ (x : Extent). x.size) same in
      let here : (has e.place places && leb at e.place) ≡ true = and_from (has e.place places) (leb at e.place) (ap (λ (x : ℕ). has x places) place ∙ kept) (le-leb at e.place (omega arith)) in
      let gone : (has e.place places && leb (at + size) e.place) ≡ false = and_right (has e.place places) (leb (at + size) e.place) (lt-leb (at + size) e.place (omega (arith, h.1))) in
      let rest : past_end places at es ≡ past_end places (at + size) es = filter_alike (λ (b : Extent). has b.place places && leb at b.place) (λ (b : Extent). has b.place places && leb (at + size) b.place) es (λ f d.
      let low_f = (blocks_low ws (e.place + e.size) es high f h.3 d).0 in
      ap (λ (b : Bool). has f.place places && b) (le-leb at f.place (omega arith) ∙ sym (le-leb (at + size) f.place (omega arith)))) in
      ap (λ (b : Bool). cond b (e ∷ past_end places at es) (past_end places at es)) here
      ∙ ap (λ (x : Extent). x ∷ past_end places at es) same ∙ ap (λ (ys : List Extent). record { place = at; size = size } ∷ ys) (rest ∙ sym (ap (λ (b : Bool). cond b (e ∷ past_end places (at + size) es) (past_end places (at + size) es)) gone))
  | inr later ↦
      let low_c = (blocks_low ws (e.place + e.size) es high (record { place = at; size = size }) h.3 later).0 in
      let one : (has e.place places && leb at e.place) ≡ false = and_right (has e.place places) (leb at e.place) (lt-leb at e.place (omega (arith, h.1))) in
      let two : (has e.place places && leb (at + size) e.place) ≡ false = and_right (has e.place places) (leb (at + size) e.place) (lt-leb (at + size) e.place (omega (arith, h.1))) in
      ap (λ (b : Bool). cond b (e ∷ past_end places at es) (past_end places at es)) one
      ∙ past_step ws (e.place + e.size) es high places at size h.3 later kept
      ∙ ap (λ (ys : List Extent). record { place = at; size = size } ∷ ys) (sym (ap (λ (b : Bool). cond b (e ∷ past_end places (at + size) es) (past_end places (at + size) es)) two))
]

-- between the blocks that are kept none begins
past_same : (old places : List ℕ) (from first end : ℕ) → Between (kept_blocks places (live_blocks old from)) first end → first < end → AreBlocks old from (live_blocks old from) (length old) → past_end places first (live_blocks old from) ≡ past_end places end (live_blocks old from)
unfolding Between
past_same old places from first end between lt ordered = filter_alike (λ (b : Extent). has b.place places && leb first b.place) (λ (b : Extent). has b.place places && leb end b.place) (live_blocks old from) (λ e c. elim (cases_Bool (has e.place places)) [
  | inr none ↦
      and_left (has e.place places) (leb first e.place) none ∙ sym (and_left (has e.place places) (leb end e.place) none)
  | inl kept ↦
      let wide = (blocks_low old from (live_blocks old from) (length old) e ordered c).1 in
      ap (λ (b : Bool). has e.place places && b) (elim (between e (Contains-kept (λ (b : Extent). has b.place places) (live_blocks old from) e c kept)) [
        | inl l ↦ lt-leb first e.place (omega arith) ∙ sym (lt-leb end e.place (omega arith))
        | inr r ↦ le-leb first e.place (omega arith) ∙ sym (le-leb end e.place r)
      ])
])

-- what a loop over the blocks from the last on has laid: all from `end` on
pub record Laid (piece : ℕ) (old new : List ℕ) (aside : Aside) (places : List ℕ) (from end : ℕ) (sizes : List ℕ) (head free : ℕ) (after_gap : Bool) : Type 0 where
  pub count : length new ≡ length old
  pub before : (j : ℕ) → j < end → slice_index new j ≡ slice_index old j
  pub inside : (j : ℕ) → is_free j 1 (kept_blocks places (live_blocks old from)) ≡ false → slice_index new j ≡ slice_index old j
  pub names : NameLive new aside.windows (kept_blocks places (live_blocks old from))
  pub blocks : lives (tiles new end) ≡ past_end places end (live_blocks old from)
  pub laid : IsLaid piece new end sizes head free after_gap

outside : (es : List Extent) (low high j : ℕ) → Between es low high → is_free j 1 es ≡ false → (j < low) ⊎ (high ≤ j)
outside es low high j between taken = elim (cases_lt j low) [
  | inl l ↦ inl l
  | inr from_low ↦ elim (cases_lt j high) [
    | inr r ↦ inr r
    | inl under ↦ absurd (false≢true (sym taken ∙ between_free es low high j between from_low under))
  ]
]

module _ {piece : ℕ} {old new : List ℕ} {aside : Aside} {places : List ℕ} {from end : ℕ} {sizes : List ℕ} {head free : ℕ} where
  pub lay_apart : (h : Laid piece old new aside places from end sizes head free true) (first : ℕ) → Between (kept_blocks places (live_blocks old from)) first end → (i : ℕ) → first ≤ i → i < end → MayStore new aside.windows i
  lay_apart h first out i low high = may_store new aside.windows (kept_blocks places (live_blocks old from)) first end i h.names out low high

  -- gaps are laid in front
  pub laid_after : (h : Laid piece old new aside places from end sizes head free true) (first : ℕ) (new' sizes' : List ℕ) (head' free' : ℕ) → first ≤ end → IsLaid piece new' first sizes' head' free' false → lives (tiles new' first) ≡ lives (tiles new end)
      → ((i : ℕ) → (i < first) ⊎ (end ≤ i) → slice_index new' i ≡ slice_index new i) → length new' ≡ length new → Between (kept_blocks places (live_blocks old from)) first end → AreBlocks old from (live_blocks old from) (length old)
      → Laid piece old new' aside places from first sizes' head' free' false
  laid_after h first new' sizes' head' free' le laid blocks same count out ordered =
      let kept = kept_blocks places (live_blocks old from) in
      record {
        count = count ∙ h.count;
        before = λ j low. same j (inl low) ∙ h.before j (omega arith);
        inside = λ j taken. same j (outside kept first end j out taken) ∙ h.inside j taken;
        names = names_same new new' aside.windows kept first end h.names out same;
        blocks = blocks ∙ h.blocks ∙ elim (cases_lt first end) [
          | inl lt ↦ sym (past_same old places from first end out lt ordered)
          | inr ge ↦ ap (λ (x : ℕ). past_end places x (live_blocks old from)) (omega arith)
        ];
        laid = laid;
      }

-- the block in front is kept
pub laid_block : {piece : ℕ} {old new : List ℕ} {aside : Aside} {places : List ℕ} {from mid : ℕ} {sizes : List ℕ} {head free : ℕ} (h : Laid piece old new aside places from mid sizes head free false) (at size : ℕ) → mid ≡ at + size → AreBlocks old from (live_blocks old from) (length old) → Contains (live_blocks old from) (record { place = at; size = size }) → has at places ≡ true → size % 2 ≡ 0 → is_whole piece at size ≡ true → Laid piece old new aside places from at sizes head free true
laid_block {piece} {old} {new} {aside} {places} {from} {mid} {sizes} {head} {free} h at size is ordered live kept even whole =
    let b = blocks_low old from (live_blocks old from) (length old) (record { place = at; size = size }) ordered live in
    let block : Tile = record { place = at; size = size; live = true } in
    let word : slice_index new at ≡ size + 0 = h.before at (omega (arith, b.1)) ∙ b.2 ∙ omega arith in
    let fill : Fill new at (block ∷ tiles new mid) (length new) = (record { place = refl; word = word; even = even; enough = b.1 }, subst (λ (x : ℕ). Fill new x (tiles new mid) (length new)) is h.laid.full) in
    let all : tiles new at ≡ block ∷ tiles new mid = tiles-filled new at (block ∷ tiles new mid) fill in
    record {
      count = h.count;
      before = λ j low. h.before j (omega arith);
      inside = h.inside;
      names = h.names;
      blocks = ap lives all ∙ ap (λ (es : List Extent). record { place = at; size = size } ∷ es) (h.blocks ∙ ap (λ (x : ℕ). past_end places x (live_blocks old from)) is) ∙ sym (past_step old from (live_blocks old from) (length old) places at size ordered live kept);
      laid = record {
        full = subst (λ (ps : List Tile). Fill new at ps (length new)) (sym all) fill;
        merged = ap (gaps_touch piece true) all ∙ merged_block piece true block (tiles new mid) refl h.laid.merged;
        whole = ap (are_whole piece) all ∙ whole_cons piece block (tiles new mid) whole h.laid.whole;
        linked = subst (λ (ps : List Tile). AreLinked new head ps 0) (sym all) h.laid.linked;
        told = λ i. h.laid.told i ∙ sym (ap (λ (ps : List Tile). size_at ps (i + i)) all ∙ omega (arith, here_live block (i + i) refl));
        counted = h.laid.counted ∙ sym (ap gap_words all);
      };
    }

-- how the places that are left lie before `end`, and the others not
pub record Spread (places : List ℕ) (blocks : List Extent) (i end : ℕ) : Type 0 where
  pub lower : (k size : ℕ) → k < i → Contains blocks (record { place = get_or places k 0; size = size }) → get_or places k 0 + size ≤ end
  pub upper : (k : ℕ) → i ≤ k → k < length places → end ≤ get_or places k 0

-- before the loop
pub laid_start : (sma : Sma) (ws : List ℕ) (aside : Aside) (places sizes : List ℕ) → IsReady sma ws aside → ((at : ℕ) → is_named aside.windows at ≡ true → has at places ≡ true) → ((i : ℕ) → get_or sizes i 0 ≡ 0) → Laid sma.bounds.piece ws ws aside places sma.bounds.from sma.bounds.to sizes 0 0 true
laid_start sma ws aside places sizes ready named zeros =
    let none : tiles ws sma.bounds.to ≡ [] = tiles-end ws sma.bounds.to (omega (arith, ready.end)) in
    record {
      count = refl;
      before = λ j low. refl;
      inside = λ j taken. refl;
      names = λ at is.
          let held = ready.windows at is in
          record { size = held.size; live = Contains-kept (λ (b : Extent). has b.place places) (live_blocks ws sma.bounds.from) (record { place = at; size = held.size }) held.live (named at is); inside = held.inside };
      blocks = ap lives none ∙ sym (filter_none (λ (b : Extent). has b.place places && leb sma.bounds.to b.place) (live_blocks ws sma.bounds.from) (λ e c.
          let b = lives_between ws sma.bounds.from (tiles ws sma.bounds.from) (length ws) e ready.formatted.full c in
          and_right (has e.place places) (leb sma.bounds.to e.place) (lt-leb sma.bounds.to e.place (omega (arith, b.1, b.2, ready.end)))));
      laid = laid_nothing sma.bounds.piece ws sma.bounds.to sizes ready.end zeros;
    }

pub spread_start : (sma : Sma) (ws : List ℕ) (aside : Aside) (places : List ℕ) → IsReady sma ws aside → Spread places (live_blocks ws sma.bounds.from) (length places) sma.bounds.to
spread_start sma ws aside places ready = record {
  lower = λ k size low c. (let b = lives_between ws sma.bounds.from (tiles ws sma.bounds.from) (length ws) (record { place = get_or places k 0; size = size }) ready.formatted.full c in omega (arith, b.1, ready.end));
  upper = λ k high inside. absurd (omega arith);
}

-- one block further
pub record Next (sma : Sma) (ws : List ℕ) (places : List ℕ) (i end at : ℕ) : Type 0 where
  pub size : ℕ
  pub live : Contains (live_blocks ws sma.bounds.from) (record { place = at; size = size })
  pub word : slice_index ws at ≡ size
  pub even_at : at % 2 ≡ 0
  pub even_size : size % 2 ≡ 0
  pub whole : is_whole sma.bounds.piece at size ≡ true
  pub low : sma.bounds.from ≤ at
  pub wide : 2 ≤ size
  pub fits : at + size ≤ end
  pub kept : has at places ≡ true
  pub between : Between (kept_blocks places (live_blocks ws sma.bounds.from)) (at + size) end
  pub spread : Spread places (live_blocks ws sma.bounds.from) i at

pub next_block : (sma : Sma) (ws : List ℕ) (aside : Aside) (places : List ℕ) (i end at : ℕ) → IsReady sma ws aside → ((k : ℕ) → k < length places → IsLive (live_blocks ws sma.bounds.from) (get_or places k 0)) → ((k : ℕ) → k + 1 < length places → get_or places k 0 < get_or places (k + 1) 0) → i < length places → at ≡ get_or places i 0 → Spread places (live_blocks ws sma.bounds.from) (i + 1) end → Next sma ws places i end at
unfolding Between
next_block sma ws aside places i end at ready lives_all up inside is spread =
    let there = lives_all i inside in
    let size : ℕ = there.0 in
    let live : Contains (live_blocks ws sma.bounds.from) (record { place = at; size = size }) = subst (λ (x : ℕ). Contains (live_blocks ws sma.bounds.from) (record { place = x; size = size })) (sym is) there.1 in
    let full = ready.formatted.full in
    let b = lives_between ws sma.bounds.from (tiles ws sma.bounds.from) (length ws) (record { place = at; size = size }) full live in
    let e = lives_even ws sma.bounds.from (tiles ws sma.bounds.from) (length ws) (record { place = at; size = size }) full ready.formatted.even live in
    let o = blocks_low ws sma.bounds.from (live_blocks ws sma.bounds.from) sma.bounds.to (record { place = at; size = size }) (ready_blocks ready) live in
    let fits : at + size ≤ end = omega (arith, spread.lower i size (omega arith) there.1) in
    record {
      size = size;
      live = live;
      word = o.2;
      even_at = e.0;
      even_size = e.1;
      whole = lives_whole sma.bounds.piece (tiles ws sma.bounds.from) (record { place = at; size = size }) ready.formatted.whole live;
      low = b.0;
      wide = b.2;
      fits = fits;
      kept = ap (λ (x : ℕ). has x places) is ∙ index_has places i inside;
      between = λ f c.
          let f_live = Contains-filter (λ (b : Extent). has b.place places) (live_blocks ws sma.bounds.from) f c in
          let k = has_index f.place places f_live.1 in
          let f_bounds = lives_between ws sma.bounds.from (tiles ws sma.bounds.from) (length ws) f full f_live.0 in
          elim (cases_lt i k.0) [
            | inl past ↦ inr (omega (arith, spread.upper k.0 (omega arith) k.1, k.2))
            | inr early ↦
                let at_most : f.place ≤ at = elim (cases_eq k.0 i) [
                  | inl same ↦ omega (arith, ap (λ (n : ℕ). get_or places n 0) same, k.2)
                  | inr other ↦ omega (arith, rises places up i k.0 (omega arith) inside, k.2)
                ] in
                elim (lives_apart ws sma.bounds.from (tiles ws sma.bounds.from) (length ws) f (record { place = at; size = size }) full f_live.0 live) [
                  | inl same ↦
                      inl (omega (arith, ap (λ (x : Extent). x.place) same, ap (λ (x : Extent). x.size) same))
                  | inr apart ↦ elim apart [
                    | inl before ↦ inl (omega arith)
                    | inr after ↦ absurd (omega (arith, b.2))
                  ]
                ]
          ];
      spread = record {
        lower = λ k s low c.
            let below : get_or places k 0 < at = omega (arith, rises places up i k low inside) in
            elim (lives_apart ws sma.bounds.from (tiles ws sma.bounds.from) (length ws) (record { place = get_or places k 0; size = s }) (record { place = at; size = size }) full c live) [
              | inl same ↦ absurd (omega (arith, ap (λ (x : Extent). x.place) same))
              | inr apart ↦ elim apart [
                | inl before ↦ before
                | inr after ↦ absurd (omega (arith, b.2))
              ]
            ];
        upper = λ k high there_k. elim (cases_eq k i) [
          | inl same ↦ omega (arith, ap (λ (n : ℕ). get_or places n 0) same)
          | inr other ↦ omega (arith, spread.upper k (omega arith) there_k)
        ];
      };
    }

-- after the loop nothing is kept before `end`
pub last_between : (sma : Sma) (ws : List ℕ) (places : List ℕ) (i end : ℕ) → i ≡ 0 → Spread places (live_blocks ws sma.bounds.from) i end → Between (kept_blocks places (live_blocks ws sma.bounds.from)) sma.bounds.from end
unfolding Between
last_between sma ws places i end is spread = λ f c.
    let f_live = Contains-filter (λ (b : Extent). has b.place places) (live_blocks ws sma.bounds.from) f c in
    let k = has_index f.place places f_live.1 in
    inr (omega (arith, spread.upper k.0 (omega arith) k.1, k.2))

-- all is laid
pub record Keeps (sma sma' : Sma) (old new : List ℕ) (aside : Aside) (places : List ℕ) : Type 0 where
  pub left : live_blocks new sma.bounds.from ≡ kept_blocks places (live_blocks old sma.bounds.from)
  pub others : SameBlocks old new sma.bounds.from (kept_blocks places (live_blocks old sma.bounds.from))
  pub ready : IsReady sma' new aside

pub keeps : (sma sma' : Sma) (old new : List ℕ) (aside : Aside) (places : List ℕ) → IsReady sma old aside → sma'.bounds ≡ sma.bounds → length sma'.sizes ≡ length sma.sizes → Laid sma.bounds.piece old new aside places sma.bounds.from sma.bounds.from sma'.sizes sma'.head sma'.free false → Keeps sma sma' old new aside places
keeps sma sma' old new aside places ready bounds count h =
    let all : past_end places sma.bounds.from (live_blocks old sma.bounds.from) ≡ kept_blocks places (live_blocks old sma.bounds.from) = filter_alike (λ (b : Extent). has b.place places && leb sma.bounds.from b.place) (λ (b : Extent). has b.place places) (live_blocks old sma.bounds.from) (λ e c.
    let b = lives_between old sma.bounds.from (tiles old sma.bounds.from) (length old) e ready.formatted.full c in
    whole (has e.place places) (leb sma.bounds.from e.place) (le-leb sma.bounds.from e.place b.0)) in
    let left = h.blocks ∙ all in
    let room = ready.indexed.room in
    let filled : IsFilled sma.bounds new aside = ready_from sma.bounds new aside (ready.end ∙ sym h.count) (record { even = ready.formatted.even; full = h.laid.full; merged = h.laid.merged; whole = h.laid.whole }) (subst (λ (es : List Extent). NameLive new aside.windows es) (sym left) h.names) in
    let here : IsIndexed new sma.bounds.from sma'.sizes = record { room = omega (arith, h.count); told = h.laid.told } in
    let made : IsReady (record { bounds = sma.bounds; head = sma'.head; free = sma'.free; sizes = sma'.sizes }) new aside = ready_by (record { bounds = sma.bounds; head = sma'.head; free = sma'.free; sizes = sma'.sizes }) new aside ready.short ready.even filled here h.laid.linked h.laid.counted in
    record {
      left = left;
      others = record { count = h.count; before = h.before; inside = h.inside };
      ready = same_sma sma' new aside sma.bounds sma'.head sma'.free sma'.sizes bounds refl refl refl made;
    }
  where
    whole : (x y : Bool) → y ≡ true → (x && y) ≡ x
    whole true y e = e
    whole false y e = refl

-- the first word of a live block is told
pub told_live : {sma : Sma} {ws : List ℕ} {aside : Aside} (ready : IsReady sma ws aside) (at size : ℕ) → Contains (live_blocks ws sma.bounds.from) (record { place = at; size = size }) → IsTold aside.windows at
told_live {sma} {ws} {aside} ready at size live =
    told_at_edge ws aside.windows sma.bounds.from at ready.windows (edge_of_live ws sma.bounds.from at size (tiles ws sma.bounds.from) sma.bounds.from (edge_start ws sma.bounds.from ready.formatted.full) refl live)

pub in_order : {sma : Sma} {ws : List ℕ} {aside : Aside} → IsReady sma ws aside → AreBlocks ws sma.bounds.from (live_blocks ws sma.bounds.from) (length ws)
in_order {sma} {ws} {aside} ready = lives_stand ws sma.bounds.from (tiles ws sma.bounds.from) (length ws) ready.formatted.full
