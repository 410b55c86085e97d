-- The entries that are kept outside the words.
use Rattle.std.proofs.Common.{◌≡◌, ℕ, true, List, sym, ap, subst, ◌∙◌}
use Rattle.seg_words.specs.Windows.{Aside}
use Rattle.sma_blocks.specs.Live.{live_blocks}
use Rattle.sma_blocks.specs.Ready.{IsReady}
use Rattle.entry_slots.specs.declared.slots.EntrySlots.{EntrySlots}
use Rattle.entry_slots.specs.Lists.{HaveSame, has_place}
use Rattle.entry_slots.specs.Entries.{Entries, blocks_of, listed}
use Rattle.entry_slots.specs.Standing.{IsRowChain, AreUnexpired, Stands, entries}
use Rattle.entry_slots.proofs.PresentRows.{HasEntryAt, HasRowAt}

-- what is kept of the slots, whatever entries are kept outside them
pub restand : {e e' : EntrySlots} {words : List ℕ} {aside : Aside} {s : Entries} → Stands e words aside s → e'.sma ≡ e.sma → e'.removed ≡ e.removed → e'.next_number ≡ e.next_number → e'.count ≡ e.count → e'.limit ≡ e.limit → e'.soonest ≡ e.soonest → Stands e' words aside s
restand {e} {e'} {words} {aside} {s} h sma removed number count limit soonest = record {
  chains = h.chains;
  removed_chain = subst (λ at. IsRowChain words at s.removed) (sym removed) h.removed_chain;
  rows = h.rows;
  removed = h.removed;
  unlinked = h.unlinked;
  taken = h.taken;
  ready = subst (λ a. IsReady a words aside) (sym sma) h.ready;
  blocks = subst (λ a. HaveSame (live_blocks words a.bounds.from) (blocks_of s)) (sym sma) h.blocks;
  apart = h.apart;
  number = number ∙ h.number;
  count = count ∙ h.count;
  limit = limit ∙ h.limit;
  unexpired = subst (λ n. AreUnexpired s.conf n s.rows) (sym soonest) h.unexpired;
  usable = h.usable;
  from = ap (λ a. a.bounds.from) sma ∙ h.from;
  to = ap (λ a. a.bounds.to) sma ∙ h.to;
  piece = ap (λ a. a.bounds.piece) sma ∙ h.piece;
}

-- what is at a place, of the entries that the words stand for
pub row_now : {e : EntrySlots} {ws : List ℕ} {aside : Aside} {at : ℕ} → Stands e ws aside (entries e) → has_place at (entries e).rows ≡ true → HasRowAt e ws aside at
row_now {e = e} h there = record { entries = entries e; stand = h; there = there }

pub entry_now : {e : EntrySlots} {ws : List ℕ} {aside : Aside} {at : ℕ} → Stands e ws aside (entries e) → has_place at (listed (entries e)) ≡ true → HasEntryAt e ws aside at
entry_now {e = e} h there = record { entries = entries e; stand = h; there = there }
