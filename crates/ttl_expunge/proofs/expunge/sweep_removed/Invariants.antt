use Rattle.std.proofs.Common.{◌≡◌}
use Rattle.ttl_expunge.proofs.SweptRows.{Sweeping, sweep_left}
use Rattle.entry_slots.specs.Standing.{Stand, entries}
use Rattle.ttl_expunge.proofs.expunge.sweep_removed.Given as goal

abbrev pub invariant-loop-at : goal.invariant-loop-at
invariant-loop-at g l = record {
  sweeping : Sweeping (entries l.fn.slots) (entries l.slots) (g.S.WordsIn.aside l.fn.seg) (g.S.WordsIn.aside l.seg) l.at;
  stand : Stand g.S.WordsIn l.slots l.seg;
  rest : g.S.WordsIn.rest l.seg ≡ g.S.WordsIn.rest l.fn.seg;
}

abbrev pub decreases-loop-at : goal.decreases-loop-at
decreases-loop-at g l = sweep_left (entries l.slots) l.at
