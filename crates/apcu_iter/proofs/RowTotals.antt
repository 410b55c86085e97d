-- What rows come to, where no number is at its last.
use Rattle.std.proofs.Common.{◌≡◌, ◌∙◌, ℕ, ◌+◌, ◌-◌, ◌^◌, ◌≤◌, List, length, filter, min, refl, ap, arith}
use Rattle.std.specs.Prelude.{sum_by, Option}
use Rattle.apcu_model.specs.declared.conf.TheConstants.{MOST_USABLE_WORDS}
use Rattle.apcu_model.specs.declared.searching.List.{List as RowList}
use Rattle.apcu_model.specs.declared.searching.List.TheVariants.{Active, Deleted}
use Rattle.apcu_model.specs.declared.searching.Pattern.{Pattern}
use Rattle.apcu_model.specs.declared.request.Reply.TheVariants as replies
use Rattle.apcu_model.specs.Cache.{Row}
use Rattle.apcu_model.specs.Chunks.{all_items, totals_of}
use Rattle.apcu_model.specs.Infos.{word_bytes}
use Rattle.entry_slots.specs.declared.slots.EntrySlots.{EntrySlots}
use Rattle.entry_slots.specs.Entries.{Entries}
use Rattle.entry_slots.specs.Standing.{entries}
use Rattle.cache_core.specs.declared.cache.Core.{Core}
use Rattle.cache_core.specs.CoreCache.{cache_of}
use Rattle.apcu_iter.specs.declared.summing.Sums.{Sums}
use Rattle.apcu_iter.specs.RowSums.{within, with_rows, no_sums}
use Rattle.row_search.specs.Choices.{Choice, is_chosen, rows_in}
use Rattle.apcu_iter.proofs.RowBounds.{AreFew, size_of, some_of, fewer}

pub record AreTotals (sums : Sums) (rows : List Row) : Type 0 where
  pub count : sums.count ≡ length rows
  pub hits : sums.hits ≡ min (sum_by (λ (row : Row). row.hits) rows) (2 ^ 64 - 1)
  pub words : sums.words ≡ sum_by (λ (row : Row). row.size) rows
  pub small : sums.words ≤ MOST_USABLE_WORDS

few_within : (n k : ℕ) → n ≡ within (0 + k) → k ≤ MOST_USABLE_WORDS → n ≡ k
few_within n k is few = grind (arith, is, few)

zero_within : (n k : ℕ) → n ≡ within (0 + k) → n ≡ min k (2 ^ 64 - 1)
zero_within n k is = grind (arith, is)

sums_few : (s : Entries) (choice : Choice) (rows : List Row) (sums : Sums)
    → length rows ≤ MOST_USABLE_WORDS → sum_by size_of rows ≤ MOST_USABLE_WORDS
    → sums ≡ with_rows no_sums (filter (is_chosen choice) rows)
    → AreTotals sums (filter (is_chosen choice) rows)
sums_few s choice rows sums count words is =
    let some = filter (is_chosen choice) rows in
    let size : sums.words ≡ sum_by size_of some =
    few_within sums.words (sum_by size_of some) (ap (λ (x : Sums). x.words) is) (omega (arith, some_of size_of (is_chosen choice) rows, words)) in
    record {
      count = few_within sums.count (length some) (ap (λ (x : Sums). x.count) is) (omega (arith, fewer (is_chosen choice) rows, count));
      hits = zero_within sums.hits (sum_by (λ (row : Row). row.hits) some) (ap (λ (x : Sums). x.hits) is);
      words = size;
      small = omega (arith, size, some_of size_of (is_chosen choice) rows, words);
    }

pub totals_are : (s : Entries) (choice : Choice) (list : RowList) (sums : Sums)
    → AreFew s.conf.words s.rows s.removed
    → sums ≡ with_rows no_sums (filter (is_chosen choice) (rows_in list s))
    → AreTotals sums (filter (is_chosen choice) (rows_in list s))
totals_are s choice Active sums few is =
    sums_few s choice s.rows sums (omega (arith, few.count, few.most)) (omega (arith, few.words, few.most)) is
totals_are s choice Deleted sums few is =
    sums_few s choice s.removed sums (omega (arith, few.count, few.most)) (omega (arith, few.words, few.most)) is

all_told : (core : Core) (wanted : Option Pattern) (list : RowList) (t : ℕ)
    → filter (is_chosen (record { pattern = wanted; list = list; t = t })) (rows_in list (entries core.slots))
    ≡ all_items wanted list t (cache_of core)
all_told core wanted Active t = refl
all_told core wanted Deleted t = refl

-- the reply
pub totals_told : (core : Core) (slots : EntrySlots) (choice : Choice) (wanted : Option Pattern)
    (list : RowList) (t : ℕ) (sums : Sums) → slots ≡ core.slots
    → choice ≡ record { pattern = wanted; list = list; t = t }
    → AreTotals sums (filter (is_chosen choice) (rows_in list (entries slots)))
    → replies.Totals sums.count sums.hits (word_bytes sums.words)
    ≡ totals_of (all_items wanted list t (cache_of core))
totals_told core slots choice wanted list t sums same is are =
    let rows : filter (is_chosen choice) (rows_in list (entries slots)) ≡ all_items wanted list t (cache_of core) =
    ap (λ (c : Choice). filter (is_chosen c) (rows_in list (entries slots))) is
    ∙ ap (λ (e : EntrySlots). filter (is_chosen (record { pattern = wanted; list = list; t = t })) (rows_in list (entries e))) same
    ∙ all_told core wanted list t in
    ap (λ n. replies.Totals n sums.hits (word_bytes sums.words)) are.count
    ∙ ap (λ n. replies.Totals (length (filter (is_chosen choice) (rows_in list (entries slots)))) n (word_bytes sums.words)) are.hits
    ∙ ap (λ n. replies.Totals (length (filter (is_chosen choice) (rows_in list (entries slots)))) (min (sum_by (λ (row : Row). row.hits) (filter (is_chosen choice) (rows_in list (entries slots)))) (2 ^ 64 - 1)) (word_bytes n)) are.words
    ∙ ap totals_of rows
