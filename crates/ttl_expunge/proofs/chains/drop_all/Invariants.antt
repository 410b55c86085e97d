use Rattle.std.proofs.Common.{◌≡◌, ◌≤◌}
use Rattle.ttl_expunge.specs.DropRules.{is_to_drop}
use Rattle.ttl_expunge.proofs.SlotOrder.{Expunging}
use Rattle.entry_slots.specs.Standing.{Stand, entries}
use Rattle.ttl_expunge.proofs.chains.drop_all.Given as goal

abbrev pub invariant-loop-slot : goal.invariant-loop-slot
invariant-loop-slot g l = record {
  expunging : Expunging (is_to_drop l.rule l.t) l.t (entries l.fn.slots) (entries l.slots) (g.S.WordsIn.aside l.fn.seg) (g.S.WordsIn.aside l.seg) l.slot;
  within : l.slot ≤ l.end;
  stand : Stand g.S.WordsIn l.slots l.seg;
  rest : g.S.WordsIn.rest l.seg ≡ g.S.WordsIn.rest l.fn.seg;
}
