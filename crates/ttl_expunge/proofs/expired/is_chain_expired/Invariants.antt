use Rattle.seg_words.specs.Kept.{Kept}
use Rattle.entry_slots.specs.Standing.{entries}
use Rattle.ttl_expunge.proofs.SlotDrops.{chain_left}
use Rattle.ttl_expunge.proofs.ExpiredChains.{Asking}
use Rattle.ttl_expunge.proofs.expired.is_chain_expired.Given as goal

abbrev pub invariant-loop-at : goal.invariant-loop-at
invariant-loop-at g l = record {
  asking : Asking (entries l.slots) l.t l.slot l.at;
  kept : Kept g.S.WordsIn l.fn.seg l.seg;
}

abbrev pub decreases-loop-at : goal.decreases-loop-at
decreases-loop-at g l = chain_left (entries l.slots) l.slot l.at
