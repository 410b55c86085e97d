use Rattle.std.proofs.Common.{◌≡◌, ◌∙◌, ◌+◌, ◌-◌, suc, List, ◌++◌, ap, arith}
use Rattle.std.specs.Prelude.{ℕ}
use Rattle.std.specs.List.{flat_map, range_with_len}
use Rattle.seg_words.specs.declared.gaps.Extent.{Extent}
use Rattle.sma_blocks.specs.Live.{free_runs_in}
use Rattle.seg_report.specs.Lines.{fits_text, power_line}
use Rattle.seg_report.proofs.AppendedText.{extends_by, extends_on, piece_on}
use Rattle.seg_report.proofs.gaps.put_fits.Goals as goal

pub loop-bit-preserved : goal.loop-bit-preserved
loop-bit-preserved g c =
    let sma = c.args.sma.now in
    let runs_in : List ℕ → List Extent = free_runs_in sma.bounds in
    let runs = runs_in (g.S.WordsIn.words c.args.seg.now) in
    let i = c.loop-bit.invariant in
    let bit = c.loop-bit.bit in
    let now = c.loop-bit.out in
    let next = c.put_power.new.out in
    let seen = c.in_ok-put_power.ensures.kept in
    let rest = flat_map (power_line runs) (range_with_len (bit + 1) (32 - (bit + 1))) in
    let many : suc (32 - (bit + 1)) ≡ 32 - bit = omega (arith, c.loop-bit-test.true) in
    let was : now ++ (power_line runs bit ++ rest) ≡ c.args.out.now ++ fits_text runs =
    ap (λ k. now ++ flat_map (power_line runs) (range_with_len bit k)) many ∙ i.text in
    let written : next ≡ now ++ power_line runs bit =
    c.in_ok-put_power.ensures.ok ∙ ap (λ w. now ++ power_line (runs_in w) bit) i.kept.words in
    record {
      text = piece_on (c.args.out.now ++ fits_text runs) now next (power_line runs bit) rest was written;
      grown = extends_on i.grown (extends_by now next (power_line runs bit) written);
      kept = record { words = seen.words ∙ i.kept.words; aside = seen.aside ∙ i.kept.aside; rest = seen.rest ∙ i.kept.rest };
    }
