-- Which places rows have: facts that proofs of the crates above cite.
use Rattle.std.proofs.Common.{◌≡◌, ℕ, true, false, not, List, [], refl, sym, ap, ◌∙◌}
use Rattle.std.proofs.lemmas.Bool.{eqb-true, eq-eqb, false≢true, false_from_ne_true}
use Rattle.std.specs.List.{Contains}
use Rattle.seg_words.specs.Members.{any_there, any_from, filter_all, filter_none}
use Rattle.apcu_model.specs.Cache.{Row}
use Rattle.entry_slots.specs.Lists.{is_at, has_place, only_at, without_place}

-- those of the rows of the list
pub place_there : (rows : List Row) (row : Row) → Contains rows row
    → has_place row.place rows ≡ true
place_there rows row c = any_from (is_at row.place) rows row c (eq-eqb row.place row.place refl)

-- and no others
pub place_from : (at : ℕ) (rows : List Row) → has_place at rows ≡ true
    → (row : Row) × Contains rows row × (row.place ≡ at)
place_from at rows h =
    let r = any_there (is_at at) rows h in (r.0, r.1, eqb-true r.0.place at r.2)

-- a row is not at a place that the list does not have
pub not_at : (at : ℕ) (rows : List Row) → has_place at rows ≡ false
    → (row : Row) → Contains rows row → is_at at row ≡ false
not_at at rows none row c =
    false_from_ne_true (is_at at row) (λ t.
    false≢true (sym none ∙ any_from (is_at at) rows row c t))

-- without it nothing changes
pub without_none : (at : ℕ) (rows : List Row) → has_place at rows ≡ false
    → without_place at rows ≡ rows
without_none at rows none =
    filter_all (λ row. not (is_at at row)) rows (λ row c. ap not (not_at at rows none row c))

pub only_none : (at : ℕ) (rows : List Row) → has_place at rows ≡ false → only_at at rows ≡ []
only_none at rows none = filter_none (is_at at) rows (λ row c. not_at at rows none row c)
