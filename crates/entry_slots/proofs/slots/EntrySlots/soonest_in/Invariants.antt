use Rattle.std.specs.Prelude.{ℕ, ◌≤◌}
use Rattle.seg_words.specs.Kept.{Kept}
use Rattle.entry_slots.specs.Standing.{entries}
use Rattle.entry_slots.proofs.SpotSearch.{Rest}
use Rattle.entry_slots.proofs.slots.EntrySlots.soonest_in.Given as goal

abbrev pub invariant-loop-passed : goal.invariant-loop-passed
invariant-loop-passed g l = record {
  low : l.last ≤ l.fn.soonest;
  rest_of : (now : ℕ) → now ≤ l.last → Rest (g.S.WordsIn.words l.fn.seg) (entries l.self) l.fn.slot now l.at l._passed;
  kept : Kept g.S.WordsIn l.fn.seg l.seg;
}
