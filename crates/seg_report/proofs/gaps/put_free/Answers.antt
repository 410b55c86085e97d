use Rattle.std.proofs.Common.{◌∙◌, ℕ, List, ap}
use Rattle.std.specs.Prelude.{codes, sum_by}
use Rattle.seg_words.specs.declared.gaps.Extent.{Extent}
use Rattle.sma_blocks.specs.Live.{free_runs_in, largest_of}
use Rattle.seg_report.specs.Lines.{number_line}
use Rattle.seg_report.proofs.AppendedText.{extends_by, extends_on, on_err, on_ok}
use Rattle.seg_report.proofs.MapPieces.{free_told}
use Rattle.seg_report.proofs.gaps.put_free.Goals as goal

pub returns-clause-ok : goal.returns-clause-ok
returns-clause-ok g c =
    let sma = c.args.sma.now in
    let runs_in : List ℕ → List Extent = free_runs_in sma.bounds in
    let runs = runs_in (g.S.WordsIn.words c.args.seg.now) in
    let first = c.count_gaps-blocks.ensures.kept.words in
    let second = c.free_words.ensures.kept.words ∙ first in
    let third = c.largest.ensures.kept.words ∙ second in
    on_ok c.put_fits.result (λ written. free_told c.args.out.now c.put_count.new.out c.put_count-2.new.out c.put_count-3.new.out c.put_fits.new.out runs
    (runs_in (g.S.WordsIn.words c.largest.new.seg)) c.from.result c.from-2.result c.from-3.result
    c.in_ok-put_count.ensures.ok c.in_ok-put_count-2.ensures.ok c.in_ok-put_count-3.ensures.ok written
    (c.from.ensures ∙ c.free_words.ensures.value ∙ ap (λ w. sum_by (λ (run : Extent). run.size) (runs_in w)) first)
    (c.from-2.ensures ∙ c.largest.ensures.value ∙ ap (λ w. largest_of (runs_in w)) second)
    (c.from-3.ensures ∙ c.count_gaps-blocks.ensures.gaps)
    (ap runs_in third)) c.put_fits.ensures.ok

pub returns-clause-err : goal.returns-clause-err
returns-clause-err g c =
    on_err c.put_fits.result (λ grown. extends_on
    (extends_by c.args.out.now c.put_count.new.out (number_line (codes "free words ") c.from.result) c.in_ok-put_count.ensures.ok)
    (extends_on (extends_by c.put_count.new.out c.put_count-2.new.out (number_line (codes "largest ") c.from-2.result) c.in_ok-put_count-2.ensures.ok)
    (extends_on (extends_by c.put_count-2.new.out c.put_count-3.new.out (number_line (codes "runs ") c.from-3.result) c.in_ok-put_count-3.ensures.ok) grown)))
    c.put_fits.ensures.err
