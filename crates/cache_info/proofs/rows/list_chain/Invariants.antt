use Rattle.std.proofs.Common.{◌≡◌, ◌++◌, drop, map}
use Rattle.seg_words.specs.Kept.{Kept}
use Rattle.apcu_model.specs.Infos.{listed_of}
use Rattle.entry_slots.specs.Lists.{first_place}
use Rattle.entry_slots.specs.Entries.{chain_of}
use Rattle.entry_slots.specs.Standing.{entries}
use Rattle.cache_info.proofs.rows.list_chain.Given as goal

abbrev pub invariant-loop-passed : goal.invariant-loop-passed
invariant-loop-passed g l = record {
  at : l.at ≡ first_place (drop l._passed (chain_of (entries l.slots) l.slot));
  rows : l.list.items ++ map listed_of (drop l._passed (chain_of (entries l.slots) l.slot))
      ≡ l.initial.list.items ++ map listed_of (chain_of (entries l.slots) l.slot);
  kept : Kept g.S.WordsIn l.fn.seg l.seg;
}
