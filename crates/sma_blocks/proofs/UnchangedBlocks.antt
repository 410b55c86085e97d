-- What may change, or close, and leave the live blocks as they are.
use Rattle.std.proofs.Common.{◌≡◌, ◌⊎◌, inl, inr, ℕ, ◌+◌, ◌<◌, ◌≤◌, Bool, true, false, cond, List, [], ◌∷◌, length, slice_index, sym, ap, ◌∙◌, subst, arith}
use Rattle.std.specs.List.{Contains}
use Rattle.seg_words.specs.declared.gaps.Extent.{Extent}
use Rattle.seg_words.specs.declared.layout.TheConstants.{KEY_LENGTH, IMAGE_LENGTH}
use Rattle.seg_words.specs.Windows.{Aside, is_named}
use Rattle.seg_words.specs.Blocks.{image_end}
use Rattle.sma_blocks.specs.declared.sma.Sma.{Sma}
use Rattle.sma_blocks.specs.Tiles.{Tile, tiles, IsTileAt, Fill, gaps_touch, are_whole}
use Rattle.sma_blocks.specs.Live.{lives, gap_words, live_blocks}
use Rattle.sma_blocks.specs.Ready.{NameLive, IsReady, ChangesInside, ChangesBefore, IsInner, ChangesInner, KeepsLengths, Stays}
use Rattle.sma_blocks.proofs.TileLemmas.{Fill-le, Fill-same, tiles-filled}
use Rattle.sma_blocks.proofs.LiveBlocks.{tile_extent, lives_between}
use Rattle.seg_words.specs.Members.{Contains-cases}
use Rattle.sma_blocks.specs.Order.{ready_renamed}
use Rattle.sma_blocks.specs.Index.{size_at}
use Rattle.sma_blocks.specs.Chain.{AreLinked}
use Rattle.sma_blocks.proofs.ChainLemmas.{IsGapWord, gap_word_inside, gap_word_free, link_same}

-- the tiles stay where words change inside a live block, past its first
fill_inside : (old new : List ℕ) (a : ℕ) (ps : List Tile) (b : ℕ) (e : Extent) → ((i : ℕ) → (i ≤ e.place) ⊎ (e.place + e.size ≤ i) → slice_index new i ≡ slice_index old i) → Fill old a ps b → Contains (lives ps) e → Fill new a ps b
fill_inside old new a [] b e same h c = absurd (omega (arith, c.1))
fill_inside old new a (p ∷ ps) b e same h c =
    go p.live (λ d. fill_inside old new (a + p.size) ps b e same h.1 d) c
  where
    here : a ≤ e.place → IsTileAt new a p
    here low = record { place = h.0.place; word = same a (inl low) ∙ h.0.word; even = h.0.even; enough = h.0.enough }

    later : Contains (lives ps) e → (Contains (lives ps) e → Fill new (a + p.size) ps b) → Fill new a (p ∷ ps) b
    later d rest =
        let between = lives_between old (a + p.size) ps b e h.1 d in
        (here (omega (arith, between.0)), rest d)

    go : (live : Bool) → (Contains (lives ps) e → Fill new (a + p.size) ps b) → Contains (cond live (tile_extent p ∷ lives ps) (lives ps)) e → Fill new a (p ∷ ps) b
    go true rest d = elim (Contains-cases (tile_extent p) (lives ps) e d) [
      | inl first ↦
          let place : p.place ≡ e.place = ap (λ (x : Extent). x.place) first in
          let size : p.size ≡ e.size = ap (λ (x : Extent). x.size) first in
          (here (omega (arith, h.0.place)), Fill-same old new (a + p.size) ps b (λ k low high. same k (inr (omega (arith, h.0.place)))) h.1)
      | inr other ↦ later other rest
    ]
    go false rest d = later d rest

-- two live blocks are one, or have no word in common
pub lives_apart : (ws : List ℕ) (a : ℕ) (ps : List Tile) (b : ℕ) (e f : Extent) → Fill ws a ps b → Contains (lives ps) e → Contains (lives ps) f → (e ≡ f) ⊎ ((e.place + e.size ≤ f.place) ⊎ (f.place + f.size ≤ e.place))
lives_apart ws a [] b e f h c d = absurd (omega (arith, c.1))
lives_apart ws a (p ∷ ps) b e f h c d = go p.live (λ u v. lives_apart ws (a + p.size) ps b e f h.1 u v) c d
  where
    go : (live : Bool) → (Contains (lives ps) e → Contains (lives ps) f → (e ≡ f) ⊎ ((e.place + e.size ≤ f.place) ⊎ (f.place + f.size ≤ e.place)))
        → Contains (cond live (tile_extent p ∷ lives ps) (lives ps)) e → Contains (cond live (tile_extent p ∷ lives ps) (lives ps)) f → (e ≡ f) ⊎ ((e.place + e.size ≤ f.place) ⊎ (f.place + f.size ≤ e.place))
    go true rest u v = elim (Contains-cases (tile_extent p) (lives ps) e u) [
      | inl e_first ↦ elim (Contains-cases (tile_extent p) (lives ps) f v) [
        | inl f_first ↦ inl (sym e_first ∙ f_first)
        | inr f_later ↦
            let place : p.place ≡ e.place = ap (λ (x : Extent). x.place) e_first in
            let size : p.size ≡ e.size = ap (λ (x : Extent). x.size) e_first in
            inr (inl (omega (arith, h.0.place, (lives_between ws (a + p.size) ps b f h.1 f_later).0)))
      ]
      | inr e_later ↦ elim (Contains-cases (tile_extent p) (lives ps) f v) [
        | inl f_first ↦
            let place : p.place ≡ f.place = ap (λ (x : Extent). x.place) f_first in
            let size : p.size ≡ f.size = ap (λ (x : Extent). x.size) f_first in
            inr (inr (omega (arith, h.0.place, (lives_between ws (a + p.size) ps b e h.1 e_later).0)))
        | inr f_later ↦ rest e_later f_later
      ]
    ]
    go false rest u v = rest u v

-- a named block stays where the words of its two lengths stay
name_stays : (old new : List ℕ) (at size : ℕ) → image_end old at ≤ at + size → slice_index new (at + KEY_LENGTH) ≡ slice_index old (at + KEY_LENGTH) → slice_index new (at + IMAGE_LENGTH) ≡ slice_index old (at + IMAGE_LENGTH) → image_end new at ≤ at + size
name_stays old new at size inside key image =
    let same : image_end new at ≡ image_end old at = cc (key, image) in
    omega (arith, same, inside)

-- the words that change leave tiles, links and names as they are
stays : (sma : Sma) (old new : List ℕ) (aside : Aside) → IsReady sma old aside → length new ≡ length old → Fill new sma.bounds.from (tiles old sma.bounds.from) (length old) → ((i : ℕ) → IsGapWord (tiles old sma.bounds.from) i → slice_index new i ≡ slice_index old i) → NameLive new aside.windows (live_blocks old sma.bounds.from) → Stays sma old new aside
stays sma old new aside h count filled links names =
    let full : Fill new sma.bounds.from (tiles old sma.bounds.from) (length new) = subst (λ x. Fill new sma.bounds.from (tiles old sma.bounds.from) x) (sym count) filled in
    let all : tiles new sma.bounds.from ≡ tiles old sma.bounds.from = tiles-filled new sma.bounds.from (tiles old sma.bounds.from) full in
    let room = h.indexed.room in
    record {
      blocks = ap lives all;
      ready = record {
        end = h.end ∙ sym count;
        short = h.short;
        even = h.even;
        formatted = record {
          even = h.formatted.even;
          full = subst (λ ps. Fill new sma.bounds.from ps (length new)) (sym all) full;
          merged = ap (gaps_touch sma.bounds.piece false) all ∙ h.formatted.merged;
          whole = ap (are_whole sma.bounds.piece) all ∙ h.formatted.whole;
        };
        windows = subst (λ es. NameLive new aside.windows es) (sym (ap lives all)) names;
        indexed = record { room = omega (arith, count); told = λ i. h.indexed.told i ∙ ap (λ ps. size_at ps (i + i)) (sym all) };
        linked = subst (λ ps. AreLinked new sma.head ps 0) (sym all) (link_same old new sma.bounds.from (tiles old sma.bounds.from) (length old) sma.head 0 h.formatted.full links h.linked);
        counted = h.counted ∙ ap gap_words (sym all);
      };
    }

pub stays_inside : (sma : Sma) (old new : List ℕ) (aside : Aside) (e : Extent) → IsReady sma old aside → Contains (live_blocks old sma.bounds.from) e → ChangesInside old new e → KeepsLengths aside.windows old new e.place → Stays sma old new aside
stays_inside sma old new aside e h live change lengths =
    stays sma old new aside h change.count (fill_inside old new sma.bounds.from (tiles old sma.bounds.from) (length old) e change.outside h.formatted.full live) links names
  where
    links : (i : ℕ) → IsGapWord (tiles old sma.bounds.from) i → slice_index new i ≡ slice_index old i
    links i g = change.outside i (elim (gap_word_free old sma.bounds.from (tiles old sma.bounds.from) (length old) i e h.formatted.full g live) [ inl low ↦ inl (omega arith) | inr high ↦ inr high ])

    names : NameLive new aside.windows (live_blocks old sma.bounds.from)
    names at named =
        let block = h.windows at named in
        let f : Extent = record { place = at; size = block.size } in
        let end : image_end new at ≤ at + block.size = elim (lives_apart old sma.bounds.from (tiles old sma.bounds.from) (length old) e f h.formatted.full live block.live) [
          | inl same ↦
              let place : e.place ≡ at = ap (λ (x : Extent). x.place) same in
              let kept = subst (λ x. KeepsLengths aside.windows old new x) place lengths named in
              name_stays old new at block.size block.inside kept.0 kept.1
          | inr apart ↦ elim apart [
            | inl after ↦ name_stays old new at block.size block.inside (change.outside (at + KEY_LENGTH) (inr (omega (arith, after)))) (change.outside (at + IMAGE_LENGTH) (inr (omega (arith, after))))
            | inr before ↦ name_stays old new at block.size block.inside (change.outside (at + KEY_LENGTH) (inl (omega (arith, before, block.inside)))) (change.outside (at + IMAGE_LENGTH) (inl (omega (arith, before, block.inside))))
          ]
        ] in
        record { size = block.size; live = block.live; inside = end }

pub stays_before : (sma : Sma) (old new : List ℕ) (aside : Aside) → IsReady sma old aside → ChangesBefore old new sma.bounds.from → Stays sma old new aside
stays_before sma old new aside h change =
    stays sma old new aside h change.count (Fill-same old new sma.bounds.from (tiles old sma.bounds.from) (length old) (λ k first last. change.after k first) h.formatted.full) links names
  where
    links : (i : ℕ) → IsGapWord (tiles old sma.bounds.from) i → slice_index new i ≡ slice_index old i
    links i g = change.after i (gap_word_inside old sma.bounds.from (tiles old sma.bounds.from) (length old) i h.formatted.full g).0

    names : NameLive new aside.windows (live_blocks old sma.bounds.from)
    names at named =
        let block = h.windows at named in
        let between = lives_between old sma.bounds.from (tiles old sma.bounds.from) (length old) (record { place = at; size = block.size }) h.formatted.full block.live in
        record { size = block.size; live = block.live; inside = name_stays old new at block.size block.inside (change.after (at + KEY_LENGTH) (omega (arith, between.0))) (change.after (at + IMAGE_LENGTH) (omega (arith, between.0))) }

-- words inside several live blocks change, and words before them
shrink : (p : Tile) (ps : List Tile) (i : ℕ) → p.place + p.size ≤ i → IsInner (lives (p ∷ ps)) i → IsInner (lives ps) i
shrink p ps i past x = go p.live x.live
  where
    go : (live : Bool) → Contains (cond live (tile_extent p ∷ lives ps) (lives ps)) x.block → IsInner (lives ps) i
    go true c = elim (Contains-cases (tile_extent p) (lives ps) x.block c) [
      | inl here ↦
          let place : p.place ≡ x.block.place = ap (λ (y : Extent). y.place) here in
          let size : p.size ≡ x.block.size = ap (λ (y : Extent). y.size) here in
          absurd (omega (arith, x.high))
      | inr later ↦ record { block = x.block; live = later; low = x.low; high = x.high }
    ]
    go false c = record { block = x.block; live = c; low = x.low; high = x.high }

fill_inner : (old new : List ℕ) (a : ℕ) (ps : List Tile) (b : ℕ) → ((i : ℕ) → a ≤ i → i < b → (slice_index new i ≡ slice_index old i) ⊎ IsInner (lives ps) i) → Fill old a ps b → Fill new a ps b
fill_inner old new a [] b same h = h
fill_inner old new a (p ∷ ps) b same h =
    let end : a + p.size ≤ b = Fill-le old (a + p.size) ps b h.1 in
    let here : slice_index new a ≡ slice_index old a = elim (same a (omega arith) (omega (arith, h.0.enough))) [
      | inl e ↦ e
      | inr x ↦ absurd (omega (arith, (lives_between old a (p ∷ ps) b x.block h x.live).0, x.low))
    ] in (
      record { place = h.0.place; word = here ∙ h.0.word; even = h.0.even; enough = h.0.enough },
      fill_inner old new (a + p.size) ps b (λ i low high. elim (same i (omega arith) high) [
        | inl e ↦ inl e
        | inr x ↦ inr (shrink p ps i (omega (arith, h.0.place)) x)
      ]) h.1,
    )

pub stays_inner : (sma : Sma) (old new : List ℕ) (aside : Aside) → IsReady sma old aside → ChangesInner sma old new aside → Stays sma old new aside
stays_inner sma old new aside h change =
    stays sma old new aside h change.count (fill_inner old new sma.bounds.from (tiles old sma.bounds.from) (length old) (λ i low high. change.inner i low) h.formatted.full) links names
  where
    links : (i : ℕ) → IsGapWord (tiles old sma.bounds.from) i → slice_index new i ≡ slice_index old i
    links i g = elim (change.inner i (gap_word_inside old sma.bounds.from (tiles old sma.bounds.from) (length old) i h.formatted.full g).0) [
      | inl same ↦ same
      | inr x ↦
          let low = x.low in
          let high = x.high in
          elim (gap_word_free old sma.bounds.from (tiles old sma.bounds.from) (length old) i x.block h.formatted.full g x.live) [ inl before ↦ absurd (omega arith) | inr after ↦ absurd (omega arith) ]
    ]

    names : NameLive new aside.windows (live_blocks old sma.bounds.from)
    names at named =
        let block = h.windows at named in
        let both = change.named at named in
        record { size = block.size; live = block.live; inside = name_stays old new at block.size block.inside both.0 both.1 }

-- windows close
pub ready_closed : (sma : Sma) (ws : List ℕ) (old new : Aside) → IsReady sma ws old → ((at : ℕ) → is_named new.windows at ≡ true → is_named old.windows at ≡ true) → IsReady sma ws new
ready_closed sma ws old new h fewer = ready_renamed h (λ at named. h.windows at (fewer at named))
