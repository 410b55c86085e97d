use Rattle.std.proofs.Common.{◌≡◌, ◌∙◌, ◌+◌, ℕ, [], ◌∷◌, ap, arith}
use Rattle.std.specs.Prelude.{sum_by}
use Rattle.apcu_model.specs.Cache.{Row}
use Rattle.apcu_iter.specs.RowSums.{within}
use Rattle.apcu_iter.specs.declared.summing.Sums.{Sums}
use Rattle.apcu_iter.proofs.summing.Sums.with.Goals as goal

same_sums : (x y : Sums) → x.count ≡ y.count → x.hits ≡ y.hits → x.words ≡ y.words → x ≡ y
same_sums x y count hits words = λ i. record { count = count i; hits = hits i; words = words i }

one_row : (f : Row → ℕ) (row : Row) → f row ≡ sum_by f (row ∷ [])
one_row f row = grind arith

pub returns : goal.returns
returns c = λ row hits size.
    let self = c.args.self in
    same_sums _ _ c.saturating_add.ensures
    (c.saturating_add-2.ensures ∙ ap (λ n. within (self.hits + n)) (hits ∙ one_row (λ (r : Row). r.hits) row))
    (c.saturating_add-3.ensures ∙ ap (λ n. within (self.words + n)) (c.from.ensures ∙ (size ∙ one_row (λ (r : Row). r.size) row)))
