-- Which words may be stored.
use Rattle.std.proofs.Common.{◌≡◌, ◌≢◌, inl, inr, ℕ, ◌+◌, ◌<◌, ◌≤◌, true, List, sym, ap, subst, arith}
use Rattle.std.specs.List.{Contains}
use Rattle.seg_words.specs.declared.layout.TheConstants.{KEY_LENGTH, IMAGE_LENGTH, PIN_COUNT}
use Rattle.seg_words.specs.declared.gaps.Extent.{Extent}
use Rattle.seg_words.specs.Windows.{Aside, is_named}
use Rattle.seg_words.specs.Blocks.{IsApart, MayStore}
use Rattle.sma_blocks.specs.declared.sma.Sma.{Sma}
use Rattle.sma_blocks.specs.Live.{live_blocks}
use Rattle.sma_blocks.specs.Ready.{IsReady}
use Rattle.apcu_model.specs.Cache.{Row, extent_of}
use Rattle.entry_slots.specs.declared.slots.EntrySlots.{EntrySlots}
use Rattle.entry_slots.proofs.Blocks.{Apart, live_apart, live_bounds}
use Rattle.entry_slots.proofs.RowBlocks.{IsHome, room}

-- a word of a block on which no reader of the block relies
pub may_store_in : (sma : Sma) (ws : List ℕ) (aside : Aside) (e : Extent) (i : ℕ) → IsReady sma ws aside → Contains (live_blocks ws sma.bounds.from) e → e.place ≤ i → i < e.place + e.size
    → (is_named aside.windows e.place ≡ true → IsApart ws e.place i) → MayStore ws aside.windows i
unfolding Apart
may_store_in sma ws aside e i ready live low high own x named =
    let block = ready.windows x named in
    let f : Extent = record { place = x; size = block.size } in
    elim (live_apart sma ws aside e f ready live block.live) [
      | inl same ↦ (let place : e.place ≡ x = ap (λ (y : Extent). y.place) same in
          subst (λ (n : ℕ). IsApart ws n i) place (own (subst (λ (n : ℕ). is_named aside.windows n ≡ true) (sym place) named)))
      | inr apart ↦ elim apart [
        | inl before ↦ record { key_length = omega arith; image_length = omega arith; pin_count = omega arith; image = inl (omega arith) }
        | inr after ↦ record { key_length = omega (arith, block.inside); image_length = omega (arith, block.inside); pin_count = omega (arith, block.inside); image = inr (omega (arith, block.inside)) }
      ]
    ]

-- the head of a row, and its link
pub may_date : {e : EntrySlots} {ws : List ℕ} {aside : Aside} (row : Row) → IsHome e ws aside row → (at k : ℕ) → row.place ≡ at → k < PIN_COUNT → k ≢ KEY_LENGTH → k ≢ IMAGE_LENGTH → MayStore ws aside.windows (at + k)
may_date {e} {ws} {aside} row h at k place few two three =
    let w = room h in
    may_store_in e.sma ws aside (extent_of row) (at + k) h.ready h.live (omega arith) (omega (arith, w.enough)) (λ named. record {
      key_length = (λ q. two (omega arith));
      image_length = (λ q. three (omega arith));
      pin_count = omega arith;
      image = inl (omega arith);
    })

-- a slot word
pub may_slot : (sma : Sma) (ws : List ℕ) (aside : Aside) (i : ℕ) → IsReady sma ws aside → i < sma.bounds.from → MayStore ws aside.windows i
may_slot sma ws aside i ready low x named =
    let block = ready.windows x named in
    let bounds = live_bounds sma ws aside (record { place = x; size = block.size }) ready block.live in
    record { key_length = omega (arith, bounds.0); image_length = omega (arith, bounds.0); pin_count = omega (arith, bounds.0); image = inl (omega (arith, bounds.0)) }

pub may_along : (ws ws' : List ℕ) (aside aside' : Aside) (i : ℕ) → ws' ≡ ws → aside' ≡ aside → MayStore ws aside.windows i → MayStore ws' aside'.windows i
may_along ws ws' aside aside' i ew ea may =
    subst (λ a. MayStore ws' a.windows i) (sym ea) (subst (λ w. MayStore w aside.windows i) (sym ew) may)
