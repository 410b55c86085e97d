use Rattle.std.proofs.Common.{◌∙◌, ℕ, List, ap}
use Rattle.std.specs.Prelude.{codes}
use Rattle.std.specs.List.{flat_map}
use Rattle.seg_words.specs.declared.gaps.Extent.{Extent}
use Rattle.sma_blocks.specs.declared.sma.Sma.{Sma}
use Rattle.sma_blocks.specs.Live.{free_runs_in}
use Rattle.entry_slots.specs.declared.slots.EntrySlots.{EntrySlots}
use Rattle.entry_slots.specs.Standing.{entries}
use Rattle.cache_core.specs.CoreCache.{cache_of}
use Rattle.seg_report.specs.Lines.{free_text, part_line}
use Rattle.seg_report.specs.Parts.{gaps_in, parts_in, parts_of}
use Rattle.seg_report.proofs.AppendedText.{extends_by, extends_on, on_err, on_ok}
use Rattle.seg_report.proofs.MapPieces.{three_pieces}
use Rattle.seg_report.proofs.CacheTiles.{core_parts, core_runs}
use Rattle.seg_report.proofs.map.put_map.Goals as goal

pub returns-clause-ok : goal.returns-clause-ok
returns-clause-ok g c =
    let core = c.args.core.now in
    let ws = g.S.WordsIn.words c.args.seg.now in
    let aside = g.S.WordsIn.aside c.args.seg.now in
    let runs_in : Sma → List ℕ → List Extent = λ m w. free_runs_in m.bounds w in
    let parts : EntrySlots → List ℕ = λ x. flat_map part_line (parts_in (entries x).conf (entries x).rows (entries x).removed) in
    let lent = c.slots-slots.ensures.value in
    let last = g.S.WordsIn.words c.put_parts.new.seg in
    let sma = c.sma.ensures ∙ ap (λ (x : EntrySlots). x.sma) lent in
    on_ok c.put_free.result (λ written. three_pieces c.args.out.now c.push.new.self c.put_parts.new.out c.put_free.new.out
    (codes "map\n") (parts c.slots-slots.result.now) (free_text (runs_in c.sma.result.now last))
    (flat_map part_line (parts_of (cache_of core))) (free_text (gaps_in core.conf (entries core.slots).rows (entries core.slots).removed))
    c.in_ok-push.ensures.ok c.in_ok-put_parts.ensures.ok written
    (ap parts lent ∙ ap (flat_map part_line) (core_parts core ws aside c.requires.stand))
    (ap free_text (ap (λ m. runs_in m last) sma ∙ ap (runs_in core.slots.sma) c.in_ok-put_parts.ensures.kept.words ∙ core_runs core ws aside c.requires.stand)))
    c.put_free.ensures.ok

pub returns-clause-err : goal.returns-clause-err
returns-clause-err g c =
    on_err c.put_free.result (λ grown. extends_on
    (extends_by c.args.out.now c.push.new.self (codes "map\n") c.in_ok-push.ensures.ok)
    (extends_on (extends_by c.push.new.self c.put_parts.new.out (flat_map part_line (parts_in (entries c.slots-slots.result.now).conf (entries c.slots-slots.result.now).rows (entries c.slots-slots.result.now).removed)) c.in_ok-put_parts.ensures.ok) grown))
    c.put_free.ensures.err
