use Rattle.std.proofs.Common.{◌≡◌, ◌-◌, ◌++◌, length}
use Rattle.std.specs.List.{flat_map}
use Rattle.seg_words.specs.Kept.{Kept}
use Rattle.notation.specs.Appending.{Extends}
use Rattle.entry_slots.specs.Standing.{entries}
use Rattle.seg_report.specs.Lines.{part_line}
use Rattle.seg_report.specs.Parts.{parts_in}
use Rattle.seg_report.specs.PartWalks.{IsAtPart, lines_from}
use Rattle.seg_report.proofs.parts.put_all.Given as goal

abbrev pub invariant-loop-at : goal.invariant-loop-at
invariant-loop-at g l = record {
  here : IsAtPart (g.S.WordsIn.words l.fn.seg) (entries l.slots) l.slots.sma.bounds.from l.at l.gap;
  text : l.out ++ lines_from (g.S.WordsIn.words l.fn.seg) (entries l.slots) l.at
      ≡ l.fn.out ++ flat_map part_line
      (parts_in (entries l.slots).conf (entries l.slots).rows (entries l.slots).removed);
  grown : Extends l.fn.out l.out;
  kept : Kept g.S.WordsIn l.fn.seg l.seg;
}

abbrev pub decreases-loop-at : goal.decreases-loop-at
decreases-loop-at g l = length (g.S.WordsIn.words l.fn.seg) - l.at
