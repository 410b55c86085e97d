use Rattle.std.proofs.Common.{◌≡◌}
use Rattle.ttl_expunge.specs.DropRules.{is_to_drop}
use Rattle.ttl_expunge.proofs.SlotDrops.{Chaining, chain_left}
use Rattle.entry_slots.specs.Standing.{Stand, entries}
use Rattle.ttl_expunge.proofs.chains.drop_chain.Given as goal

abbrev pub invariant-loop-at : goal.invariant-loop-at
invariant-loop-at g l = record {
  chaining : Chaining (is_to_drop l.rule l.t) l.t (entries l.fn.slots) (entries l.slots) (g.S.WordsIn.aside l.fn.seg) (g.S.WordsIn.aside l.seg) l.slot l.at l.link;
  stand : Stand g.S.WordsIn l.slots l.seg;
  rest : g.S.WordsIn.rest l.seg ≡ g.S.WordsIn.rest l.fn.seg;
}

abbrev pub decreases-loop-at : goal.decreases-loop-at
decreases-loop-at g l = chain_left (entries l.slots) l.slot l.at
