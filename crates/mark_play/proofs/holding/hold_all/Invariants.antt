use Rattle.std.proofs.Common.{◌≡◌, ℕ, ◌<◌, length, None}
use Rattle.std.specs.Prelude.{slice_index, slice_index_or}
use Rattle.std.specs.Int.{bit_at}
use Rattle.seg_words.specs.contracts.held_words.HeldWordsWordsIn.TheImpl.{ghosts}
use Rattle.entry_slots.specs.Entries.{listed}
use Rattle.entry_slots.specs.Standing.{entries}
use Rattle.mark_play.specs.HeldPlaces.{IsHeldFor}
use Rattle.mark_play.proofs.holding.hold_all.Given as goal

abbrev pub invariant-loop-worker : goal.invariant-loop-worker
invariant-loop-worker l = record {
  held : (v : ℕ) → v < l.worker → bit_at l.mask v ≡ 1
      → IsHeldFor (listed (entries l.slots)) (slice_index_or l.windows v None) (slice_index (ghosts.rest l.words) v);
  seats : length (ghosts.rest l.words) ≡ 64;
  words : ghosts.words l.words ≡ ghosts.words l.fn.words;
  aside : ghosts.aside l.words ≡ ghosts.aside l.fn.words;
}
