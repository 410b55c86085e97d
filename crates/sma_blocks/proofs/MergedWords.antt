-- The words after the stores of a merge.
use Rattle.std.proofs.Common.{◌≡◌, ◌≢◌, ℕ, ◌+◌, ◌-◌, ◌<◌, List, length, slice_index, slice_set, ◌∙◌, arith}
use Rattle.std.proofs.lemmas.List.{get_or-set_same, get_or-set_other, length-set}
use Rattle.sma_blocks.specs.Walk.{merged_words}

pub merged_count : (ws : List ℕ) (first last next : ℕ) → length (merged_words ws first last next) ≡ length ws
merged_count ws first last next = length-set (slice_set ws first ((last - first) + 1)) (first + 1) next ∙ length-set ws first ((last - first) + 1)

pub merged_first : (ws : List ℕ) (first last next : ℕ) → first < length ws → slice_index (merged_words ws first last next) first ≡ (last - first) + 1
merged_first ws first last next inside =
    get_or-set_other (slice_set ws first ((last - first) + 1)) (first + 1) first next 0 (λ e. omega arith) ∙ get_or-set_same ws first ((last - first) + 1) 0 inside

pub merged_link : (ws : List ℕ) (first last next : ℕ) → first + 1 < length ws → slice_index (merged_words ws first last next) (first + 1) ≡ next
merged_link ws first last next inside =
    get_or-set_same (slice_set ws first ((last - first) + 1)) (first + 1) next 0 (omega (arith, length-set ws first ((last - first) + 1)))

pub merged_other : (ws : List ℕ) (first last next i : ℕ) → i ≢ first → i ≢ first + 1 → slice_index (merged_words ws first last next) i ≡ slice_index ws i
merged_other ws first last next i one two =
    get_or-set_other (slice_set ws first ((last - first) + 1)) (first + 1) i next 0 two ∙ get_or-set_other ws first i ((last - first) + 1) 0 one
