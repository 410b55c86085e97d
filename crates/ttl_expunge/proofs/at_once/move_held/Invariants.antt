use Rattle.std.proofs.Common.{◌≡◌, ◌≤◌}
use Rattle.ttl_expunge.proofs.SlotMoves.{Passing}
use Rattle.entry_slots.specs.Standing.{Stand, entries}
use Rattle.ttl_expunge.proofs.at_once.move_held.Given as goal

abbrev pub invariant-loop-slot : goal.invariant-loop-slot
invariant-loop-slot g l = record {
  passing : Passing l.t (entries l.fn.slots) (entries l.slots) (g.S.WordsIn.aside l.fn.seg) (g.S.WordsIn.aside l.seg) l.slot;
  within : l.slot ≤ l.end;
  stand : Stand g.S.WordsIn l.slots l.seg;
  rest : g.S.WordsIn.rest l.seg ≡ g.S.WordsIn.rest l.fn.seg;
}
