-- Windows on the blocks of rows and removed rows.
use Rattle.std.proofs.Common.{◌≡◌, inl, inr, ℕ, ◌+◌, ◌/◌, ◌<◌, ◌≤◌, true, List, length, slice_index, sym, ap, ◌∙◌, subst, refl, arith}
use Rattle.std.specs.List.{Contains}
use Rattle.std.proofs.lemmas.Bool.{eqb-true, false≢true, false_from_ne_true}
use Rattle.std.proofs.lemmas.List.Elements.{Contains-append_cases}
use Rattle.seg_words.specs.declared.layout.TheConstants.{HEAD_WORDS, PIN_COUNT}
use Rattle.seg_words.specs.declared.gaps.Extent.{Extent}
use Rattle.seg_words.specs.Windows.{Aside, is_named}
use Rattle.seg_words.specs.Blocks.{MayProbe, image_place, image_end}
use Rattle.sma_blocks.specs.Order.{ready_renamed}
use Rattle.sma_blocks.specs.Live.{live_blocks}
use Rattle.sma_blocks.specs.Ready.{Holds}
use Rattle.apcu_model.specs.Cache.{Row, extent_of}
use Rattle.entry_slots.specs.declared.slots.EntrySlots.{EntrySlots}
use Rattle.entry_slots.specs.Lists.{is_at, begins_at, has_place}
use Rattle.entry_slots.specs.Entries.{Entries, listed, blocks_of}
use Rattle.entry_slots.specs.Standing.{Stands}
use Rattle.entry_slots.specs.Facts.{OnlyClose, OnlyOpensAt, LieApart, IsCopyable, IsSound}
use Rattle.seg_words.specs.Members.{any_there, counted_some}
use Rattle.entry_slots.proofs.ExtentLists.{same_there}
use Rattle.entry_slots.proofs.Blocks.{Apart, live_apart, live_bounds}
use Rattle.entry_slots.proofs.RowBlocks.{IsHome, room, home_listed}
use Rattle.entry_slots.proofs.DistinctPlaces.{at_itself, once}

-- the row that is listed at a place
listed_at : {e : EntrySlots} {ws : List ℕ} {aside : Aside} (s : Entries) (at : ℕ) → Stands e ws aside s → has_place at (listed s) ≡ true → (row : Row) × Contains (listed s) row × (row.place ≡ at) × IsHome e ws aside row
listed_at s at h there = let r = any_there (is_at at) (listed s) there in (r.0, r.1, eqb-true r.0.place at r.2, home_listed r.0 h r.1)

-- its image ends in its block
image_inside : {e : EntrySlots} {ws : List ℕ} {aside : Aside} (row : Row) → IsHome e ws aside row → image_end ws row.place ≤ row.place + row.size
image_inside {ws = ws} row h =
    let r = room h in
    let p : image_place ws row.place ≡ row.place + HEAD_WORDS + (length row.key + 7) / 8 = ap (λ n. row.place + HEAD_WORDS + (n + 7) / 8) h.entry.key_length in
    omega (arith, p, h.entry.value_length, r.enough)

-- a block that was taken is elsewhere
not_taken : {e : EntrySlots} {ws : List ℕ} {aside : Aside} (s : Entries) → Stands e ws aside s → (row : Row) → Contains (listed s) row → (block : Extent) → Contains s.taken block → block.place ≡ row.place → ⊥
not_taken s h row c block t same =
    let taken = counted_some (begins_at row.place) s.taken block t (at_itself (record row { place = block.place }) row.place same) in
    let self = at_itself row row.place refl in
    elim (Contains-append_cases s.rows s.removed row c) [
      | inl l ↦ omega (arith, once h row.place, counted_some (is_at row.place) s.rows row l self, taken)
      | inr r ↦ omega (arith, once h row.place, counted_some (is_at row.place) s.removed row r self, taken)
    ]

-- windows close
pub closed_stands : (e : EntrySlots) (ws : List ℕ) (old new : Aside) (s : Entries) → OnlyClose old new → Stands e ws old s → Stands e ws new s
closed_stands e ws old new s fewer h = record {
  chains = h.chains;
  removed_chain = h.removed_chain;
  rows = h.rows;
  removed = h.removed;
  unlinked = h.unlinked;
  taken = λ block there. false_from_ne_true (is_named new.windows block.place) (λ named. false≢true (sym (h.taken block there) ∙ fewer block.place named));
  ready = ready_renamed h.ready (λ at named. h.ready.windows at (fewer at named));
  blocks = h.blocks;
  apart = h.apart;
  number = h.number;
  count = h.count;
  limit = h.limit;
  unexpired = h.unexpired;
  usable = h.usable;
  from = h.from;
  to = h.to;
  piece = h.piece;
}

-- a window opens
pub opened_stands : (e : EntrySlots) (ws : List ℕ) (old new : Aside) (s : Entries) (at : ℕ) → has_place at (listed s) ≡ true → OnlyOpensAt at old new → Stands e ws old s → Stands e ws new s
opened_stands e ws old new s at there more h =
    let own = listed_at s at h there in
    record {
      chains = h.chains;
      removed_chain = h.removed_chain;
      rows = h.rows;
      removed = h.removed;
      unlinked = h.unlinked;
      taken = λ block t. false_from_ne_true (is_named new.windows block.place) (λ named. elim (more block.place named) [
        | inl same ↦ not_taken s h own.0 own.1 block t (same ∙ sym own.2)
        | inr before ↦ false≢true (sym (h.taken block t) ∙ before)
      ]);
      ready = ready_renamed h.ready (λ x named. elim (more x named) [
        | inl same ↦ subst (Holds ws (live_blocks ws e.sma.bounds.from)) (own.2 ∙ sym same) (record { size = own.0.size; live = own.3.live; inside = image_inside own.0 own.3 })
        | inr before ↦ h.ready.windows x before
      ]);
      blocks = h.blocks;
      apart = h.apart;
      number = h.number;
      count = h.count;
      limit = h.limit;
      unexpired = h.unexpired;
      usable = h.usable;
      from = h.from;
      to = h.to;
      piece = h.piece;
    }

pub listed_probed : (e : EntrySlots) (ws : List ℕ) (aside : Aside) (s : Entries) (at : ℕ) → Stands e ws aside s → has_place at (listed s) ≡ true → (windows : List ℕ) → MayProbe ws windows at
listed_probed e ws aside s at h there windows =
    let own = listed_at s at h there in
    let w = room own.3 in
    record {
      inside = omega (arith, w.high, w.enough, own.2);
      count = λ none. ap (λ n. slice_index ws (n + PIN_COUNT)) (sym own.2) ∙ own.3.entry.pin_count;
    }

row_copied : {e : EntrySlots} {ws : List ℕ} {aside : Aside} (row : Row) → IsHome e ws aside row → IsCopyable ws aside.windows row.place
unfolding Apart
row_copied {e} {ws} {aside} row h =
    let w = room h in
    let end = image_inside row h in
    record {
      positive = omega (arith, w.some);
      zero_count = h.entry.pin_count;
      inside = omega (arith, end, w.high);
      clear = λ b named.
          let held = h.ready.windows b named in
          let other : Extent = record { place = b; size = held.size } in
          elim (live_apart e.sma ws aside (extent_of row) other h.ready h.live held.live) [
            | inl one ↦ inl (ap (λ (x : Extent). x.place) one)
            | inr apart ↦ inr (elim apart [
              | inl before ↦ inl (omega (arith, before, end))
              | inr after ↦ inr (omega (arith, after, held.inside))
            ])
          ];
      told = λ i low high. w.told i (omega (arith, low)) (omega (arith, high, end)) (λ q. omega (arith, q, low));
    }

pub listed_copied : (e : EntrySlots) (ws : List ℕ) (aside : Aside) (s : Entries) (at : ℕ) → Stands e ws aside s → has_place at (listed s) ≡ true → IsCopyable ws aside.windows at
listed_copied e ws aside s at h there =
    let own = listed_at s at h there in
    subst (IsCopyable ws aside.windows) own.2 (row_copied own.0 own.3)

pub block_inside : (e : EntrySlots) (ws : List ℕ) (aside : Aside) (s : Entries) (block : Extent) → Stands e ws aside s → Contains (blocks_of s) block → (0 < block.place) × (block.place + block.size ≤ length ws)
block_inside e ws aside s block h c =
    let b = live_bounds e.sma ws aside block h.ready (same_there (live_blocks ws e.sma.bounds.from) (blocks_of s) block h.blocks c) in
    (omega (arith, b.0, h.from, h.usable.slots_least), b.1)

pub blocks_lie_apart : (e : EntrySlots) (ws : List ℕ) (aside : Aside) (s : Entries) (one other : Extent) → Stands e ws aside s → Contains (blocks_of s) one → Contains (blocks_of s) other → LieApart one other
unfolding Apart
blocks_lie_apart e ws aside s one other h c d =
    let live : List Extent = live_blocks ws e.sma.bounds.from in
    live_apart e.sma ws aside one other h.ready (same_there live (blocks_of s) one h.blocks c) (same_there live (blocks_of s) other h.blocks d)

pub sound : (e : EntrySlots) (ws : List ℕ) (aside : Aside) (s : Entries) → Stands e ws aside s → IsSound s ws aside.windows
sound e ws aside s h = record {
  usable = h.usable;
  apart = h.apart;
  once = once h;
  placed = false_from_ne_true (has_place 0 (listed s)) (λ there. let own = listed_at s 0 h there in omega (arith, own.2, (room own.3).some));
  probed = λ at there. listed_probed e ws aside s at h there aside.windows;
}
