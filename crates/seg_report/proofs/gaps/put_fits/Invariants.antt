use Rattle.std.proofs.Common.{◌≡◌, ◌-◌, ◌++◌}
use Rattle.std.specs.List.{flat_map, range_with_len}
use Rattle.seg_words.specs.Kept.{Kept}
use Rattle.sma_blocks.specs.Live.{free_runs_in}
use Rattle.notation.specs.Appending.{Extends}
use Rattle.seg_report.specs.Lines.{fits_text, power_line}
use Rattle.seg_report.proofs.gaps.put_fits.Given as goal

abbrev pub invariant-loop-bit : goal.invariant-loop-bit
invariant-loop-bit g l = record {
  text : l.out ++ flat_map (power_line (free_runs_in l.sma.bounds (g.S.WordsIn.words l.fn.seg)))
      (range_with_len l.bit (32 - l.bit))
      ≡ l.fn.out ++ fits_text (free_runs_in l.sma.bounds (g.S.WordsIn.words l.fn.seg));
  grown : Extends l.fn.out l.out;
  kept : Kept g.S.WordsIn l.fn.seg l.seg;
}
