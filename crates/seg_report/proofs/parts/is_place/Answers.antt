use Rattle.std.proofs.Common.{◌∙◌}
use Rattle.seg_report.proofs.SortedPlaces.{found_place}
use Rattle.seg_report.proofs.parts.is_place.Goals as goal

pub returns : goal.returns
returns c = λ rows are.
    c.is_ok.ensures.value ∙ found_place c.args.removed.now rows c.args.at c.binary_search.result are c.binary_search.ensures.position
