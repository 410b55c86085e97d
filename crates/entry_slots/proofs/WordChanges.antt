-- Changes of words that leave every block at its place.
use Rattle.std.proofs.Common.{◌≡◌, ◌≢◌, ◌⊎◌, inl, inr, ℕ, ◌+◌, ◌<◌, ◌≤◌, true, List, length, slice_index, slice_set, refl, ap, ◌∙◌, arith}
use Rattle.std.specs.List.{Contains}
use Rattle.std.proofs.lemmas.List.{get_or-set_other, length-set}
use Rattle.seg_words.specs.declared.layout.TheConstants.{KEY_LENGTH, IMAGE_LENGTH}
use Rattle.entry_slots.specs.declared.head.TheConstants.{TTL}
use Rattle.seg_words.specs.declared.gaps.Extent.{Extent}
use Rattle.seg_words.specs.Windows.{Aside, is_named}
use Rattle.sma_blocks.specs.declared.sma.Sma.{Sma}
use Rattle.sma_blocks.specs.Live.{live_blocks}
use Rattle.sma_blocks.specs.Ready.{IsReady}
use Rattle.entry_slots.proofs.Blocks.{Apart, live_apart}

-- only words from `low` up to `high` changed
pub record OnlyIn (ws ws' : List ℕ) (low high : ℕ) : Type 0 where
  pub count : length ws' ≡ length ws
  pub same : (i : ℕ) → (i < low) ⊎ (high ≤ i) → slice_index ws' i ≡ slice_index ws i

pub only_none : (ws : List ℕ) (low high : ℕ) → OnlyIn ws ws low high
only_none ws low high = record { count = refl; same = λ i out. refl }

pub only_set : (ws ws' : List ℕ) (low high i v : ℕ) → OnlyIn ws ws' low high → low ≤ i → i < high → OnlyIn ws (slice_set ws' i v) low high
only_set ws ws' low high i v h l k = record {
  count = length-set ws' i v ∙ h.count;
  same = λ j out.
      let other : j ≢ i = elim out [ inl low ↦ (λ q. omega arith) | inr past ↦ (λ q. omega arith) ] in
      get_or-set_other ws' i j v 0 other ∙ h.same j out;
}

-- the lengths in a block that a window names stay where words change from word 4 of a block on
pub named_same : (sma : Sma) (ws : List ℕ) (aside : Aside) (e : Extent) → IsReady sma ws aside → Contains (live_blocks ws sma.bounds.from) e → (ws' : List ℕ) → OnlyIn ws ws' (e.place + TTL) (e.place + e.size)
    → (x : ℕ) → is_named aside.windows x ≡ true → (slice_index ws' (x + KEY_LENGTH) ≡ slice_index ws (x + KEY_LENGTH)) × (slice_index ws' (x + IMAGE_LENGTH) ≡ slice_index ws (x + IMAGE_LENGTH))
unfolding Apart
named_same sma ws aside e ready live ws' only x named =
    let block = ready.windows x named in
    let f : Extent = record { place = x; size = block.size } in
    elim (live_apart sma ws aside e f ready live block.live) [
      | inl same ↦ (let place : e.place ≡ x = ap (λ (y : Extent). y.place) same in (only.same (x + KEY_LENGTH) (inl (omega arith)), only.same (x + IMAGE_LENGTH) (inl (omega arith))))
      | inr apart ↦ elim apart [
        | inl before ↦ (only.same (x + KEY_LENGTH) (inr (omega arith)), only.same (x + IMAGE_LENGTH) (inr (omega arith)))
        | inr after ↦ (only.same (x + KEY_LENGTH) (inl (omega (arith, block.inside))), only.same (x + IMAGE_LENGTH) (inl (omega (arith, block.inside))))
      ]
    ]
