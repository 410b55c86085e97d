use Rattle.std.proofs.Common.{◌≤◌}
use Rattle.seg_words.specs.Kept.{Kept}
use Rattle.entry_slots.specs.Standing.{entries}
use Rattle.ttl_expunge.proofs.ExpiredChains.{AreOver}
use Rattle.ttl_expunge.proofs.expired.are_all_expired.Given as goal

abbrev pub invariant-loop-slot : goal.invariant-loop-slot
invariant-loop-slot g l = record {
  over : AreOver (entries l.slots) l.t l.slot;
  kept : Kept g.S.WordsIn l.fn.seg l.seg;
}
