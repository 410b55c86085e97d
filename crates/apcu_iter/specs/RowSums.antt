-- Totals over rows.
use Rattle.std.specs.Prelude.{ℕ, ◌+◌, ◌-◌, ◌^◌, min, List, length, sum_by}
use Rattle.apcu_model.specs.Cache.{Row}
use Rattle.apcu_iter.specs.declared.summing.Sums.{Sums}

-- as far as 64 bits can hold it
abbrev pub within : ℕ → ℕ
within n = min n (2 ^ 64 - 1)

-- with these rows
abbrev pub with_rows : Sums → List Row → Sums
with_rows sums rows = record {
  count = within (sums.count + length rows);
  hits = within (sums.hits + sum_by (λ (row : Row). row.hits) rows);
  words = within (sums.words + sum_by (λ (row : Row). row.size) rows);
}

-- the totals of no rows
abbrev pub no_sums : Sums
no_sums = record { count = 0; hits = 0; words = 0 }

-- the totals of both
abbrev pub sums_of_both : Sums → Sums → Sums
sums_of_both sums more = record {
  count = within (sums.count + more.count);
  hits = within (sums.hits + more.hits);
  words = within (sums.words + more.words);
}
