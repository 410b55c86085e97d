-- Live blocks lie apart, and which of their words are told and may be stored.
use Rattle.std.proofs.Common.{◌≡◌, ◌≢◌, ◌⊎◌, inl, inr, ℕ, ◌+◌, ◌<◌, ◌≤◌, Bool, true, eqb, ltb, ◌&&◌, List, [], ◌∷◌, length, slice_index, sym, ap, ◌∙◌, subst, arith}
use Rattle.std.proofs.lemmas.Bool.{and_parts, and_from, or_left, or_right, false_from_ne_true, eqb-true, eq-eqb}
use Rattle.std.specs.List.{Contains, list_any}
use Rattle.seg_words.specs.declared.layout.TheConstants.{PIN_COUNT}
use Rattle.seg_words.specs.declared.gaps.Extent.{Extent}
use Rattle.seg_words.specs.Windows.{Aside, has, is_named}
use Rattle.seg_words.specs.Blocks.{IsTold}
use Rattle.sma_blocks.specs.Order.{ready_blocks}
use Rattle.sma_blocks.specs.declared.sma.Sma.{Sma}
use Rattle.sma_blocks.specs.Live.{live_blocks}
use Rattle.sma_blocks.specs.Ready.{AreBlocks, IsReady}
use Rattle.seg_words.specs.Members.{Contains-cases, none_in_nil, any_there}

-- they are one, or no word is in both
unfoldable pub Apart : Extent → Extent → Type 0
Apart e f = (e ≡ f) ⊎ ((e.place + e.size ≤ f.place) ⊎ (f.place + f.size ≤ e.place))

pub blocks_end : (ws : List ℕ) (low : ℕ) (es : List Extent) (high : ℕ) → AreBlocks ws low es high → low ≤ high
blocks_end ws low [] high h = h
blocks_end ws low (x ∷ es) high h = omega (arith, h.0, h.1, blocks_end ws (x.place + x.size) es high h.3)

-- what one of the blocks is
pub blocks_between : (ws : List ℕ) (low : ℕ) (es : List Extent) (high : ℕ) (e : Extent) → AreBlocks ws low es high → Contains es e → (low ≤ e.place) × (e.place + e.size ≤ high) × (2 ≤ e.size) × (slice_index ws e.place ≡ e.size)
blocks_between ws low [] high e h c = absurd (none_in_nil e c)
blocks_between ws low (x ∷ es) high e h c = elim (Contains-cases x es e c) [
  | inl here ↦
      let place : x.place ≡ e.place = ap (λ (y : Extent). y.place) here in
      let size : x.size ≡ e.size = ap (λ (y : Extent). y.size) here in
      let end : x.place + x.size ≤ high = blocks_end ws (x.place + x.size) es high h.3 in
      (omega (arith, h.0), omega arith, omega (arith, h.1), ap (slice_index ws) (sym place) ∙ (h.2 ∙ size))
  | inr later ↦ let r = blocks_between ws (x.place + x.size) es high e h.3 later in (omega (arith, h.0, r.0), r.1, r.2, r.3)
]

pub blocks_apart : (ws : List ℕ) (low : ℕ) (es : List Extent) (high : ℕ) (e f : Extent) → AreBlocks ws low es high → Contains es e → Contains es f → Apart e f
unfolding Apart
blocks_apart ws low [] high e f h x y = absurd (none_in_nil e x)
blocks_apart ws low (b ∷ es) high e f h x y = elim (Contains-cases b es e x) [
  | inl here ↦
      let place : b.place ≡ e.place = ap (λ (z : Extent). z.place) here in
      let size : b.size ≡ e.size = ap (λ (z : Extent). z.size) here in
      elim (Contains-cases b es f y) [
        | inl too ↦ inl (sym here ∙ too)
        | inr later ↦ inr (inl (omega (arith, (blocks_between ws (b.place + b.size) es high f h.3 later).0)))
      ]
  | inr other ↦ elim (Contains-cases b es f y) [
    | inl here ↦
        let place : b.place ≡ f.place = ap (λ (z : Extent). z.place) here in
        let size : b.size ≡ f.size = ap (λ (z : Extent). z.size) here in
        inr (inr (omega (arith, (blocks_between ws (b.place + b.size) es high e h.3 other).0)))
    | inr later ↦ blocks_apart ws (b.place + b.size) es high e f h.3 other later
  ]
]

pub live_apart : (sma : Sma) (ws : List ℕ) (aside : Aside) (e f : Extent) → IsReady sma ws aside → Contains (live_blocks ws sma.bounds.from) e → Contains (live_blocks ws sma.bounds.from) f → Apart e f
live_apart sma ws aside e f ready x y = blocks_apart ws sma.bounds.from (live_blocks ws sma.bounds.from) sma.bounds.to e f (ready_blocks ready) x y

-- a live block lies past the slots and before the end
pub live_bounds : (sma : Sma) (ws : List ℕ) (aside : Aside) (e : Extent) → IsReady sma ws aside → Contains (live_blocks ws sma.bounds.from) e → (sma.bounds.from ≤ e.place) × (e.place + e.size ≤ length ws) × (2 ≤ e.size)
live_bounds sma ws aside e ready x =
    let r = blocks_between ws sma.bounds.from (live_blocks ws sma.bounds.from) sma.bounds.to e (ready_blocks ready) x in
    (r.0, omega (arith, r.1, ready.end), r.2)

-- and its first word is its size
pub live_word : (sma : Sma) (ws : List ℕ) (aside : Aside) (e : Extent) → IsReady sma ws aside → Contains (live_blocks ws sma.bounds.from) e → slice_index ws e.place ≡ e.size
live_word sma ws aside e ready x = (blocks_between ws sma.bounds.from (live_blocks ws sma.bounds.from) sma.bounds.to e (ready_blocks ready) x).3

has_there : (x : ℕ) (ws : List ℕ) → Contains ws x → has x ws ≡ true
has_there x [] c = absurd (none_in_nil x c)
has_there x (y ∷ ys) c = elim (Contains-cases y ys x c) [
  | inl same ↦ or_left (eqb x y) (has x ys) (eq-eqb x y (sym same))
  | inr later ↦ or_right (eqb x y) (has x ys) (has_there x ys later)
]

-- a word that is no named block's pin count is told
pub told_from : (windows : List ℕ) (i : ℕ) → ((x : ℕ) → is_named windows x ≡ true → i ≢ x + PIN_COUNT) → IsTold windows i
told_from windows i other =
    let pins : ℕ → Bool = λ at. ltb 0 at && eqb i (at + PIN_COUNT) in
    false_from_ne_true (list_any pins windows) (λ t.
    let r = any_there pins windows t in
    let parts = and_parts (ltb 0 r.0) (eqb i (r.0 + PIN_COUNT)) r.2 in
    other r.0 (and_from (ltb 0 r.0) (has r.0 windows) parts.0 (has_there r.0 windows r.1)) (eqb-true i (r.0 + PIN_COUNT) parts.1))

-- each word of a live block is told, except its pin count
pub told_in : (sma : Sma) (ws : List ℕ) (aside : Aside) (e : Extent) (i : ℕ) → IsReady sma ws aside → Contains (live_blocks ws sma.bounds.from) e → e.place ≤ i → i < e.place + e.size → i ≢ e.place + PIN_COUNT → IsTold aside.windows i
unfolding Apart
told_in sma ws aside e i ready live low high other =
    told_from aside.windows i (λ x named.
    let block = ready.windows x named in
    let f : Extent = record { place = x; size = block.size } in
    elim (live_apart sma ws aside e f ready live block.live) [
      | inl same ↦ let place : e.place ≡ x = ap (λ (y : Extent). y.place) same in (λ q. other (q ∙ ap (λ (n : ℕ). n + PIN_COUNT) (sym place)))
      | inr apart ↦ elim apart [
        | inl before ↦ (λ q. omega (arith, before))
        | inr after ↦ (λ q. omega (arith, after, block.inside))
      ]
    ])

-- and so is each slot word
pub told_slot : (sma : Sma) (ws : List ℕ) (aside : Aside) (i : ℕ) → IsReady sma ws aside → i < sma.bounds.from → IsTold aside.windows i
told_slot sma ws aside i ready low =
    told_from aside.windows i (λ x named.
    let block = ready.windows x named in
    let bounds = live_bounds sma ws aside (record { place = x; size = block.size }) ready block.live in
    (λ q. omega (arith, bounds.0)))

-- a word that was read after calls that changed nothing
pub read_along : (ws ws' : List ℕ) (aside aside' : Aside) (i w : ℕ) → ws' ≡ ws → aside' ≡ aside → IsTold aside.windows i → (IsTold aside'.windows i → w ≡ slice_index ws' i) → w ≡ slice_index ws i
read_along ws ws' aside aside' i w ew ea told read =
    read (subst (λ a. IsTold a.windows i) (sym ea) told) ∙ ap (λ v. slice_index v i) ew
