use Rattle.std.proofs.Common.{List, ℕ, slice_index, ap, ◌∙◌}
use Rattle.cache_tests.proofs.TwoHeldBlocks.{zero_at}
use Rattle.cache_tests.proofs.held.Held.new.Goals as goal

pub invariant_of-result : goal.invariant_of-result
invariant_of-result c = record {
  stand = c.format-core.ensures.stand;
  others = λ i high. ap (λ (h : List ℕ). slice_index h i) (c.format-core.ensures.beside.rest ∙ c.in_ok-words.ensures.held) ∙ zero_at 64 i;
}
