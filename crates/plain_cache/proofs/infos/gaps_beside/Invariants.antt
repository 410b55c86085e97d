use Rattle.std.proofs.Common.{◌≡◌, ◌-◌, ◌≤◌, filter, reverse}
use Rattle.std.specs.Prelude.{sum_by}
use Rattle.std.specs.List.{range_with_len}
use Rattle.seg_words.specs.declared.gaps.Extent.{Extent}
use Rattle.seg_words.specs.Gaps.{is_free, runs_of}
use Rattle.plain_cache.proofs.infos.gaps_beside.Given as goal

abbrev pub invariant-loop-i : goal.invariant-loop-i
invariant-loop-i l = record {
  gaps : reverse l.gaps.items ≡ runs_of l.piece (filter (λ word. is_free word 1 l.extents) (range_with_len (l.conf.words - l.i) l.i));
  free : l.free ≡ sum_by (λ (gap : Extent). gap.size) l.gaps.items;
  few : l.free ≤ l.i;
}
