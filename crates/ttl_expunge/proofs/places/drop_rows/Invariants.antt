use Rattle.std.proofs.Common.{◌≡◌, List, take}
use Rattle.apcu_model.specs.Cache.{Row}
use Rattle.entry_slots.specs.Standing.{Stand, entries}
use Rattle.ttl_expunge.specs.ProbedRows.{Drops}
use Rattle.ttl_expunge.specs.Lists.{AreRowsAt}
use Rattle.ttl_expunge.proofs.places.drop_rows.Given as goal

abbrev pub invariant-loop-at : goal.invariant-loop-at
invariant-loop-at g l = record {
  drops : (gone : List Row) → AreRowsAt (entries l.fn.slots).rows l.places gone
      → Drops (entries l.fn.slots) (entries l.slots) (g.S.WordsIn.aside l.fn.seg) (g.S.WordsIn.aside l.seg) l.t (take l.at-index gone);
  stand : Stand g.S.WordsIn l.slots l.seg;
  rest : g.S.WordsIn.rest l.seg ≡ g.S.WordsIn.rest l.fn.seg;
}
