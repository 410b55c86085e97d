use Rattle.std.proofs.Common.{◌∙◌, ◌+◌, ◌-◌, ◌∷◌, [], ◌++◌, ap, sym, refl, arith, append-nil}
use Rattle.std.proofs.lemmas.List.{append_assoc}
use Rattle.std.specs.Prelude.{nat_le, find, option_map}
use Rattle.seg_words.specs.declared.gaps.Extent.{Extent}
use Rattle.sma_blocks.specs.Live.{free_runs_in, live_blocks}
use Rattle.cache_info.proofs.GapRuns.{left_from, pair_of, all_left, gap_found, gap_none, gaps_behind}
use Rattle.cache_info.proofs.segment.list_gaps.Goals as goal

pub loop-place-init : goal.loop-place-init
loop-place-init g c =
    let from = c.args.sma.now.bounds.from in
    let to = c.args.sma.now.bounds.to in
    let blocks = live_blocks (g.S.WordsIn.words c.args.seg.now) from in
    let runs = free_runs_in c.args.sma.now.bounds (g.S.WordsIn.words c.args.seg.now) in
    record {
      gaps = ap (λ l. l ++ left_from 0 runs) c.new-list.ensures.items ∙ all_left 0 from (from + (to - from)) runs (omega arith) (gaps_behind from to c.args.sma.now.bounds.piece blocks);
      low = omega arith;
      kept = record { words = refl; aside = refl; rest = refl };
    }

pub overflow_add-from : goal.overflow_add-from
overflow_add-from g c =
    let from = c.args.sma.now.bounds.from in
    let to = c.args.sma.now.bounds.to in
    let runs = free_runs_in c.args.sma.now.bounds (g.S.WordsIn.words c.args.seg.now) in
    let i = c.loop-place.invariant in
    let told = sym c.in-Some.is ∙ c.gap_from.ensures.value ∙ ap (λ w. option_map pair_of (find (λ run. nat_le c.loop-place.from run.place) (free_runs_in c.args.sma.now.bounds w))) i.kept.words in
    let next = gap_found c.loop-place.from from (from + (to - from)) runs (gaps_behind from to c.args.sma.now.bounds.piece (live_blocks (g.S.WordsIn.words c.args.seg.now) from)) (record { place = c.in-Some.place; size = c.in-Some.size }) told in
    omega (arith, next.end)

pub loop-place-smaller : goal.loop-place-smaller
loop-place-smaller g c =
    let from = c.args.sma.now.bounds.from in
    let to = c.args.sma.now.bounds.to in
    let runs = free_runs_in c.args.sma.now.bounds (g.S.WordsIn.words c.args.seg.now) in
    let i = c.loop-place.invariant in
    let told = sym c.in-Some.is ∙ c.gap_from.ensures.value ∙ ap (λ w. option_map pair_of (find (λ run. nat_le c.loop-place.from run.place) (free_runs_in c.args.sma.now.bounds w))) i.kept.words in
    let next = gap_found c.loop-place.from from (from + (to - from)) runs (gaps_behind from to c.args.sma.now.bounds.piece (live_blocks (g.S.WordsIn.words c.args.seg.now) from)) (record { place = c.in-Some.place; size = c.in-Some.size }) told in
    omega (arith, next.up, next.some, next.end)

pub loop-place-preserved : goal.loop-place-preserved
loop-place-preserved g c =
    let from = c.args.sma.now.bounds.from in
    let to = c.args.sma.now.bounds.to in
    let runs = free_runs_in c.args.sma.now.bounds (g.S.WordsIn.words c.args.seg.now) in
    let i = c.loop-place.invariant in
    let told = sym c.in-Some.is ∙ c.gap_from.ensures.value ∙ ap (λ w. option_map pair_of (find (λ run. nat_le c.loop-place.from run.place) (free_runs_in c.args.sma.now.bounds w))) i.kept.words in
    let next = gap_found c.loop-place.from from (from + (to - from)) runs (gaps_behind from to c.args.sma.now.bounds.piece (live_blocks (g.S.WordsIn.words c.args.seg.now) from)) (record { place = c.in-Some.place; size = c.in-Some.size }) told in
    let gap : Extent = record { place = c.in-Some.place; size = c.in-Some.size } in
    let rest = left_from (c.in-Some.place + c.in-Some.size) runs in
    let old = c.loop-place.list.items in
    let seen = c.gap_from.ensures in
    record {
      gaps = ap (λ l. l ++ rest) c.in_ok-push.ensures.items ∙ append_assoc old (gap ∷ []) rest ∙ sym (ap (λ l. old ++ l) next.left) ∙ i.gaps;
      low = next.end;
      kept = record { words = seen.kept.words ∙ i.kept.words; aside = seen.kept.aside ∙ i.kept.aside; rest = seen.kept.rest ∙ i.kept.rest };
    }

pub returns-clause-gaps : goal.returns-clause-gaps
returns-clause-gaps g c =
    let from = c.args.sma.now.bounds.from in
    let to = c.args.sma.now.bounds.to in
    let runs = free_runs_in c.args.sma.now.bounds (g.S.WordsIn.words c.args.seg.now) in
    let i = c.loop-place.invariant in
    let old = c.loop-place.list.items in
    let told = sym c.in_default.is ∙ c.gap_from.ensures.value ∙ ap (λ w. option_map pair_of (find (λ run. nat_le c.loop-place.from run.place) (free_runs_in c.args.sma.now.bounds w))) i.kept.words in
    let none = gap_none c.loop-place.from runs told in
    sym (append-nil old) ∙ sym (ap (λ l. old ++ l) none) ∙ i.gaps
