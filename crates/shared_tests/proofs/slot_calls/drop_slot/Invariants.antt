use Rattle.std.proofs.Common.{◌≡◌, length}
use Rattle.seg_words.specs.Kept.{KeptBeside}
use Rattle.entry_slots.specs.Lists.{first_place}
use Rattle.entry_slots.specs.Entries.{chain_of}
use Rattle.entry_slots.specs.Standing.{Stand, entries}
use Rattle.shared_tests.proofs.slot_calls.drop_slot.Given as goal

abbrev pub invariant-loop-at : goal.invariant-loop-at
invariant-loop-at g l = record {
  first : l.at ≡ first_place (chain_of (entries l.slots) l.slot);
  conf : (entries l.slots).conf ≡ (entries l.fn.slots).conf;
  stand : Stand g.S.WordsIn l.slots l.seg;
  beside : KeptBeside g.S.WordsIn l.fn.seg l.seg;
}

abbrev pub decreases-loop-at : goal.decreases-loop-at
decreases-loop-at g l = length (chain_of (entries l.slots) l.slot)
