use Rattle.std.specs.Prelude.{◌≡◌, ℕ, ◌<◌, ◌≤◌, false}
use Rattle.std.specs.List.{list_any}
use Rattle.seg_words.specs.Kept.{Kept}
use Rattle.apcu_model.specs.Expiry.{is_expired}
use Rattle.entry_slots.specs.Entries.{chain_of}
use Rattle.entry_slots.specs.Standing.{entries}
use Rattle.entry_slots.proofs.slots.EntrySlots.note_soonest.Given as goal

abbrev pub invariant-loop-slot : goal.invariant-loop-slot
invariant-loop-slot g l = record {
  unexpired : (now slot : ℕ) → now ≤ l.soonest → slot < l.slot → list_any (is_expired (entries l.self).conf now) (chain_of (entries l.self) slot) ≡ false;
  kept : Kept g.S.WordsIn l.fn.seg l.seg;
}
