-- What the windows name, and which words are told and may be stored because of it.
use Rattle.std.proofs.Common.{◌≡◌, ◌≢◌, ◌⊎◌, inl, inr, ℕ, ◌+◌, ◌<◌, ◌≤◌, true, false, eqb, ltb, ◌&&◌, List, [], ◌∷◌, ◌++◌, length, slice_index, refl, sym, ap, ◌∙◌, subst, arith}
use Rattle.std.proofs.lemmas.Bool.{and_parts, and_from, or_left, or_right, false_from_ne_true, eqb-true, ltb-true, eq-eqb, lt-ltb, false≢true}
use Rattle.std.specs.List.{Contains, list_any}
use Rattle.std.proofs.lemmas.List.Elements.{Contains-append_cases, Contains-append_left, Contains-append_right}
use Rattle.seg_words.specs.declared.gaps.Extent.{Extent}
use Rattle.seg_words.specs.declared.layout.TheConstants.{KEY_LENGTH, IMAGE_LENGTH, PIN_COUNT}
use Rattle.seg_words.specs.Windows.{Aside, has, is_named}
use Rattle.seg_words.specs.Blocks.{image_end, IsTold, MayStore}
use Rattle.sma_blocks.specs.Tiles.{Tile, tiles, Fill, IsFormatted}
use Rattle.sma_blocks.specs.Live.{lives, live_blocks}
use Rattle.sma_blocks.specs.declared.bounds.Bounds.{Bounds}
use Rattle.sma_blocks.proofs.FilledWords.{IsFilled}
use Rattle.sma_blocks.specs.Ready.{NameLive}
use Rattle.sma_blocks.specs.Walk.{IsEdge}
use Rattle.sma_blocks.proofs.TileLemmas.{edge_whole, Part, part}
use Rattle.sma_blocks.proofs.LiveBlocks.{lives-append, lives_between}
use Rattle.seg_words.specs.Members.{Contains-cases, Contains-later}

told_each : (i : ℕ) (ws : List ℕ) → ((x : ℕ) → has x ws ≡ true → 0 < x → i ≢ x + PIN_COUNT) → list_any (λ x. ltb 0 x && eqb i (x + PIN_COUNT)) ws ≡ false
told_each i [] h = refl
told_each i (w ∷ ws) h =
    let first : (ltb 0 w && eqb i (w + PIN_COUNT)) ≡ false = false_from_ne_true (ltb 0 w && eqb i (w + PIN_COUNT)) (λ t.
    let parts = and_parts (ltb 0 w) (eqb i (w + PIN_COUNT)) t in
    h w (or_left (eqb w w) (has w ws) (eq-eqb w w refl)) (ltb-true 0 w parts.0) (eqb-true i (w + PIN_COUNT) parts.1)) in
    rw first (told_each i ws (λ x q some. h x (or_right (eqb x w) (has x ws) q) some))

-- a word that is no named block's pin count is told
pub told_from : (windows : List ℕ) (i : ℕ) → ((x : ℕ) → is_named windows x ≡ true → i ≢ x + PIN_COUNT) → IsTold windows i
told_from windows i other = told_each i windows (λ x h some. other x (and_from (ltb 0 x) (has x windows) (lt-ltb 0 x some) h))

-- no word from `low` up to `high` is in a block of the list
unfoldable pub Between : List Extent → ℕ → ℕ → Type 0
Between blocks low high = (e : Extent) → Contains blocks e → (e.place + e.size ≤ low) ⊎ (high ≤ e.place)

-- blocks before and after
pub between : (ws : List ℕ) (a : ℕ) (ps : List Tile) (b c : ℕ) (qs : List Tile) (d : ℕ) → Fill ws a ps b → Fill ws c qs d → Between (lives ps ++ lives qs) b c
unfolding Between
between ws a ps b c qs d h k e m = elim (Contains-append_cases (lives ps) (lives qs) e m) [
  | inl l ↦ inl (lives_between ws a ps b e h l).1
  | inr r ↦ inr (lives_between ws c qs d e k r).0
]

-- the first word of a tile is told
pub told_at_edge : (ws windows : List ℕ) (from at : ℕ) → NameLive ws windows (live_blocks ws from) → IsEdge ws from at → IsTold windows at
unfolding Between
told_at_edge ws windows from at names h =
    told_from windows at (λ x named.
    let block = names x named in
    let all : live_blocks ws from ≡ lives h.passed ++ lives (tiles ws at) = ap lives (edge_whole ws from at h) ∙ lives-append h.passed (tiles ws at) in
    let member : Contains (lives h.passed ++ lives (tiles ws at)) (record { place = x; size = block.size }) = subst (λ es. Contains es (record { place = x; size = block.size })) all block.live in
    elim (between ws from h.passed at at (tiles ws at) (length ws) h.before h.after (record { place = x; size = block.size }) member) [
      | inl l ↦ (λ q. omega (arith, l, block.inside))
      | inr r ↦ (λ q. omega (arith, r))
    ])

-- a store outside the named blocks is apart from all that their readers rely on
pub may_store : (ws windows : List ℕ) (blocks : List Extent) (low high i : ℕ) → NameLive ws windows blocks → Between blocks low high → low ≤ i → i < high → MayStore ws windows i
unfolding Between
may_store ws windows blocks low high i names out from to at named =
    let block = names at named in
    elim (out (record { place = at; size = block.size }) block.live) [
      | inl l ↦ record { key_length = (λ q. omega (arith, l, block.inside)); image_length = (λ q. omega (arith, l, block.inside)); pin_count = (λ q. omega (arith, l, block.inside)); image = inr (omega (arith, l, block.inside)) }
      | inr r ↦ record { key_length = (λ q. omega (arith, r)); image_length = (λ q. omega (arith, r)); pin_count = (λ q. omega (arith, r)); image = inl (omega (arith, r)) }
    ]

-- the named blocks stay where the words of the blocks stay
pub names_same : (old new windows : List ℕ) (blocks : List Extent) (low high : ℕ) → NameLive old windows blocks → Between blocks low high → ((i : ℕ) → (i < low) ⊎ (high ≤ i) → slice_index new i ≡ slice_index old i) → NameLive new windows blocks
unfolding Between
names_same old new windows blocks low high names out same at named =
    let block = names at named in
    let outside : (i : ℕ) → at ≤ i → i < at + block.size → (i < low) ⊎ (high ≤ i) =
    λ i first last. elim (out (record { place = at; size = block.size }) block.live) [ inl l ↦ inl (omega (arith, l)) | inr r ↦ inr (omega (arith, r)) ] in
    let key : slice_index new (at + KEY_LENGTH) ≡ slice_index old (at + KEY_LENGTH) = same (at + KEY_LENGTH) (outside (at + KEY_LENGTH) (omega arith) (omega (arith, block.inside))) in
    let image : slice_index new (at + IMAGE_LENGTH) ≡ slice_index old (at + IMAGE_LENGTH) = same (at + IMAGE_LENGTH) (outside (at + IMAGE_LENGTH) (omega arith) (omega (arith, block.inside))) in
    let ends : image_end new at ≡ image_end old at = cc (key, image) in
    record { size = block.size; live = block.live; inside = omega (arith, ends, block.inside) }

-- one more block in the list
pub names_more : (ws windows : List ℕ) (xs : List Extent) (e : Extent) (ys : List Extent) → NameLive ws windows (xs ++ ys) → NameLive ws windows (xs ++ e ∷ ys)
names_more ws windows xs e ys names at named =
    let block = names at named in
    let b : Extent = record { place = at; size = block.size } in
    record {
      size = block.size;
      live = elim (Contains-append_cases xs ys b block.live) [
        | inl l ↦ Contains-append_left xs (e ∷ ys) b l
        | inr r ↦ Contains-append_right xs (e ∷ ys) b (Contains-later e ys b r)
      ];
      inside = block.inside;
    }

-- a block less in the list, which no window names
pub names_less : (ws windows : List ℕ) (xs : List Extent) (e : Extent) (ys : List Extent) → NameLive ws windows (xs ++ e ∷ ys) → is_named windows e.place ≡ false → NameLive ws windows (xs ++ ys)
names_less ws windows xs e ys names free at named =
    let block = names at named in
    let b : Extent = record { place = at; size = block.size } in
    record {
      size = block.size;
      live = elim (Contains-append_cases xs (e ∷ ys) b block.live) [
        | inl l ↦ Contains-append_left xs ys b l
        | inr r ↦ elim (Contains-cases e ys b r) [
          | inl same ↦ absurd (false≢true (sym (sym (ap (λ (x : Extent). is_named windows x.place) same) ∙ free) ∙ named))
          | inr later ↦ Contains-append_right xs ys b later
        ]
      ];
      inside = block.inside;
    }

-- the tile at an edge, by the word that was read there
pub part_read : (bounds : Bounds) (ws : List ℕ) (aside : Aside) (a w : ℕ) → IsFilled bounds ws aside → IsEdge ws bounds.from a → a < bounds.to → (IsTold aside.windows a → w ≡ slice_index ws a) → Part ws bounds.from a w
part_read bounds ws aside a w ready edge lt read =
    part ws bounds.from a w edge (omega (arith, ready.end)) (read (told_at_edge ws aside.windows bounds.from a ready.windows edge))

-- words that are formatted, and whose live blocks the windows name, are ready
pub ready_from : (bounds : Bounds) (ws : List ℕ) (aside : Aside) → bounds.to ≡ length ws → IsFormatted ws bounds.from bounds.piece → NameLive ws aside.windows (live_blocks ws bounds.from) → IsFilled bounds ws aside
ready_from bounds ws aside end formatted names = record { end = end; formatted = formatted; windows = names }
