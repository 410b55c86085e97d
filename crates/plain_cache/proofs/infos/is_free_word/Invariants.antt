use Rattle.std.proofs.Common.{◌≡◌, drop}
use Rattle.seg_words.specs.Gaps.{is_free}
use Rattle.plain_cache.proofs.infos.is_free_word.Given as goal

abbrev pub invariant-loop-extent : goal.invariant-loop-extent
invariant-loop-extent l = is_free l.word 1 (drop l.extent-index l.extents) ≡ is_free l.word 1 l.extents
