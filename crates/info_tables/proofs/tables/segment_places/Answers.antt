use Rattle.std.proofs.Common.{◌≡◌, ◌++◌, sym, subst}
use Rattle.apcu_model.specs.Infos.{info_words, info_array, info_gaps}
use Rattle.apcu_model.specs.InfoGraphs.{IsTellable}
use Rattle.info_tables.proofs.ValueRuns.{gaps_told}
use Rattle.info_tables.proofs.TableValues.{gaps_tellable}
use Rattle.info_tables.proofs.tables.segment_places.Goals as goal

all_told : (c : goal.In_ok-push_segments)
    → c.push_segments.new.telling ≡ info_array (info_words c.args.conf c.args.free ++ info_gaps c.args.conf c.args.gaps.now) 1
all_told c =
    rw (c.in_ok-push_segments.ensures.info, c.in_ok-push_numbers.ensures, c.new-telling.ensures, c.in_ok-first.ensures.kind, c.bytes_in.ensures, c.bytes_in-2.ensures, c.piece-piece.ensures, c.from.ensures)
    (gaps_told c.args.conf c.args.free c.args.gaps.now)

pub returns-clause-tellable : goal.returns-clause-tellable
returns-clause-tellable c =
    subst IsTellable (sym (all_told c)) (gaps_tellable c.args.conf c.args.free c.args.gaps.now c.in_ok-push_segments.ensures.few c.requires.segments_most)
