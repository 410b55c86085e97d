-- The places of the blocks of rows.
use Rattle.std.proofs.Common.{◌≡◌, ◌≢◌, inl, inr, ℕ, ◌+◌, ◌%◌, ◌<◌, ◌≤◌, List, ◌++◌, length, map, arith}
use Rattle.std.proofs.lemmas.Bool.{eqb-true}
use Rattle.std.specs.List.{Contains}
use Rattle.std.proofs.lemmas.List.Elements.{Contains-append_left, Contains-append_right, Contains-append_cases}
use Rattle.seg_words.specs.declared.layout.TheConstants.{HEAD_WORDS, PIN_COUNT}
use Rattle.seg_words.specs.Windows.{Aside}
use Rattle.seg_words.specs.Blocks.{IsTold}
use Rattle.sma_blocks.specs.Live.{live_blocks}
use Rattle.sma_blocks.specs.Ready.{IsReady}
use Rattle.seg_words.specs.Layout.{words_in}
use Rattle.php_graph.specs.Size.{image_length}
use Rattle.apcu_model.specs.declared.conf.TheConstants.{MOST_USABLE_WORDS}
use Rattle.apcu_model.specs.Cache.{Row, extent_of}
use Rattle.entry_slots.specs.declared.slots.EntrySlots.{EntrySlots}
use Rattle.entry_slots.specs.Lists.{is_at}
use Rattle.entry_slots.specs.Entries.{Entries, blocks_of}
use Rattle.entry_slots.specs.Standing.{IsEntry, Stands}
use Rattle.entry_slots.proofs.PresentRows.{HasEntryAt}
use Rattle.seg_words.specs.Members.{Contains-map, any_there}
use Rattle.entry_slots.proofs.ExtentLists.{same_there}
use Rattle.entry_slots.proofs.Blocks.{live_bounds, told_in}

-- the row's block is live, and as the row says
pub record IsHome (e : EntrySlots) (ws : List ℕ) (aside : Aside) (row : Row) : Type 0 where
  pub ready : IsReady e.sma ws aside
  pub live : Contains (live_blocks ws e.sma.bounds.from) (extent_of row)
  pub entry : IsEntry ws row
  pub past : 2 ≤ e.sma.bounds.from
  pub short : length ws ≤ MOST_USABLE_WORDS

stands_short : {e : EntrySlots} {ws : List ℕ} {aside : Aside} {s : Entries} → Stands e ws aside s → (2 ≤ e.sma.bounds.from) × (length ws ≤ MOST_USABLE_WORDS)
stands_short h = (omega (arith, h.from, h.usable.slots_least), omega (arith, h.to, h.usable.words_most, h.ready.end))

pub home_row : {e : EntrySlots} {ws : List ℕ} {aside : Aside} {s : Entries} (row : Row) → Stands e ws aside s → Contains s.rows row → IsHome e ws aside row
home_row {s = s} row h c = record {
  ready = h.ready;
  live = same_there _ (blocks_of s) (extent_of row) h.blocks (Contains-append_left (map extent_of s.rows) _ (extent_of row) (Contains-map extent_of s.rows row c));
  entry = h.rows row c;
  past = (stands_short h).0;
  short = (stands_short h).1;
}

pub home_removed : {e : EntrySlots} {ws : List ℕ} {aside : Aside} {s : Entries} (row : Row) → Stands e ws aside s → Contains s.removed row → IsHome e ws aside row
home_removed {s = s} row h c = record {
  ready = h.ready;
  live = same_there _ (blocks_of s) (extent_of row) h.blocks (Contains-append_right (map extent_of s.rows) _ (extent_of row) (Contains-append_left (map extent_of s.removed) _ (extent_of row) (Contains-map extent_of s.removed row c)));
  entry = h.removed row c;
  past = (stands_short h).0;
  short = (stands_short h).1;
}

pub home_unlinked : {e : EntrySlots} {ws : List ℕ} {aside : Aside} {s : Entries} (row : Row) → Stands e ws aside s → Contains s.unlinked row → IsHome e ws aside row
home_unlinked {s = s} row h c = record {
  ready = h.ready;
  live = same_there _ (blocks_of s) (extent_of row) h.blocks (Contains-append_right (map extent_of s.rows) _ (extent_of row) (Contains-append_right (map extent_of s.removed) _ (extent_of row) (Contains-append_left (map extent_of s.unlinked) _ (extent_of row) (Contains-map extent_of s.unlinked row c))));
  entry = h.unlinked row c;
  past = (stands_short h).0;
  short = (stands_short h).1;
}

pub home_listed : {e : EntrySlots} {ws : List ℕ} {aside : Aside} {s : Entries} (row : Row) → Stands e ws aside s → Contains (s.rows ++ s.removed) row → IsHome e ws aside row
home_listed {s = s} row h c = elim (Contains-append_cases s.rows s.removed row c) [ inl l ↦ home_row row h l | inr r ↦ home_removed row h r ]

-- the words of a row's block
pub record IsRoom (from : ℕ) (ws windows : List ℕ) (row : Row) : Type 0 where
  pub low : from ≤ row.place
  pub some : 2 ≤ row.place
  pub high : row.place + row.size ≤ length ws
  pub short : length ws ≤ MOST_USABLE_WORDS
  pub enough : HEAD_WORDS + words_in (length row.key) + image_length row.graph ≤ row.size
  pub told : (i : ℕ) → row.place ≤ i → i < row.place + row.size → i ≢ row.place + PIN_COUNT → IsTold windows i

size_enough : (n size : ℕ) → size ≡ n + n % 2 → n ≤ size
size_enough n size h = omega arith

pub room : {e : EntrySlots} {ws : List ℕ} {aside : Aside} {row : Row} → IsHome e ws aside row → IsRoom e.sma.bounds.from ws aside.windows row
room {e = e} {ws = ws} {aside = aside} {row = row} h =
    let bounds = live_bounds e.sma ws aside (extent_of row) h.ready h.live in
    record {
      low = bounds.0;
      some = omega (arith, bounds.0, h.past);
      high = bounds.1;
      short = h.short;
      enough = size_enough (HEAD_WORDS + words_in (length row.key) + image_length row.graph) row.size h.entry.whole;
      told = λ i low high other. told_in e.sma ws aside (extent_of row) i h.ready h.live low high other;
    }

-- the row at a place if there is one
pub row_there : {e : EntrySlots} {ws : List ℕ} {aside : Aside} {at : ℕ} → HasEntryAt e ws aside at → (row : Row) × IsHome e ws aside row × (row.place ≡ at)
row_there {at = at} h =
    let r = any_there (is_at at) (h.entries.rows ++ h.entries.removed) h.there in
    (r.0, home_listed r.0 h.stand r.1, eqb-true r.0.place at r.2)

-- the words before the key are told, except the pin count
pub told_at : {e : EntrySlots} {ws : List ℕ} {aside : Aside} {row : Row} → IsHome e ws aside row → (at k : ℕ) → row.place ≡ at → k < HEAD_WORDS → k ≢ PIN_COUNT → IsTold aside.windows (at + k)
told_at h at k e few other =
    let w = room h in
    w.told (at + k) (omega arith) (omega (arith, w.enough)) (λ q. other (omega arith))
