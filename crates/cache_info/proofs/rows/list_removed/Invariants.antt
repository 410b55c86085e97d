use Rattle.std.proofs.Common.{◌≡◌, ◌++◌, drop, map, length}
use Rattle.seg_words.specs.Kept.{Kept}
use Rattle.apcu_model.specs.Infos.{listed_of}
use Rattle.entry_slots.specs.Lists.{first_place}
use Rattle.entry_slots.specs.Standing.{entries}
use Rattle.cache_info.proofs.rows.list_removed.Given as goal

abbrev pub invariant-loop-at : goal.invariant-loop-at
invariant-loop-at g l = record {
  at : l.at ≡ first_place (drop (length l.list.items) (entries l.slots).removed);
  rows : l.list.items ++ map listed_of (drop (length l.list.items) (entries l.slots).removed)
      ≡ map listed_of (entries l.slots).removed;
  kept : Kept g.S.WordsIn l.fn.seg l.seg;
}

abbrev pub decreases-loop-at : goal.decreases-loop-at
decreases-loop-at g l = length (drop (length l.list.items) (entries l.slots).removed)
