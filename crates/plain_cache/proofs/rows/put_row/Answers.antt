use Rattle.std.proofs.Common.{◌≡◌, ◌<◌, true, length, get_or, ap, ◌∙◌, subst}
use Rattle.apcu_model.specs.Cache.{Row, has_key}
use Rattle.apcu_model.proofs.RowsApart.{with_row-set}
use Rattle.plain_cache.proofs.rows.put_row.Goals as goal

pub returns-in-Some-clause-items : goal.returns-in-Some-clause-items
returns-in-Some-clause-items c =
    let key : c.as_slice.result.now ≡ c.args.new.key = c.as_slice.ensures.bytes ∙ ap (λ (r : Row). r.key) c.new.view_is in
    let i = c.in-Some.i in
    let at = subst
    (λ xs. (i < length xs) × ((d : Row) → has_key c.args.new.key (get_or xs i d) ≡ true))
    c.deref.ensures.value
    (subst (λ k. (i < length c.deref.result.now) × ((d : Row) → has_key k (get_or c.deref.result.now i d) ≡ true)) key c.in-Some.ensures) in
    with_row-set c.args.new c.args.rows.now.items i c.requires.apart at.0 at.1
