use Rattle.std.proofs.Common.{◌≡◌, ℕ, ◌+◌, ◌<◌, ◌∷◌, length, slice_index}
use Rattle.php_graph.specs.PlaceOffsets.{offsets_at}
use Rattle.value_image.proofs.numbers.table_of.Given as goal

abbrev pub invariant-loop-i : goal.invariant-loop-i
invariant-loop-i l = record {
  len : length l.table.items ≡ l.len;
  filled : (k : ℕ) → k < l.i + 1 → slice_index l.table.items (slice_index (0 ∷ offsets_at l.others) k) ≡ k + 1;
}
