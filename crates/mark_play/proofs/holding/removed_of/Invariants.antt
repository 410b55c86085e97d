use Rattle.std.proofs.Common.{◌≡◌, ℕ, length, drop}
use Rattle.std.specs.Prelude.{Contains}
use Rattle.seg_words.specs.Kept.{Kept}
use Rattle.apcu_model.specs.Cache.{Row}
use Rattle.entry_slots.specs.Lists.{first_place}
use Rattle.entry_slots.specs.Standing.{entries}
use Rattle.mark_play.proofs.RowPlaces.{rows_from}
use Rattle.mark_play.proofs.holding.removed_of.Given as goal

abbrev pub invariant-loop-at : goal.invariant-loop-at
invariant-loop-at g l = record {
  passed : ℕ;
  at : l.at ≡ first_place (drop passed (entries l.slots).removed);
  later : (row : Row) → Contains (entries l.slots).removed row → row.number ≡ l.number → Contains (drop passed (entries l.slots).removed) row;
  kept : Kept g.S.WordsIn l.fn.seg l.seg;
}

abbrev pub decreases-loop-at : goal.decreases-loop-at
decreases-loop-at g l = length (rows_from l.at (entries l.slots).removed)
