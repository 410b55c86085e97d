use Rattle.std.proofs.Common.{ℕ, List, [], sym, ap, ap₂, ◌∙◌}
use Rattle.apcu_model.specs.Cache.{Row, Cache, risen}
use Rattle.apcu_model.specs.Change.{leaving}
use Rattle.plain_cache.specs.States.{cache_in}
use Rattle.apcu_model.proofs.RowsApart.{left_none}
use Rattle.plain_cache.proofs.PlacedRows.{dropped_of}
use Rattle.plain_cache.proofs.state.State.expunge.Goals as goal

pub returns-clause-cache : goal.returns-clause-cache
returns-clause-cache c = λ t.
    let s = c.args.self.now in
    ap₂
    (λ (rows : List Row) (expunges : ℕ). let d : Cache = record (cache_in s) { rows = rows; hits = 0; misses = 0; inserts = 0; expunges = expunges } in d)
    c.clear.ensures.items
    c.saturating_add-self.ensures
    ∙ sym
    (ap (λ (d : Cache). let e : Cache = record d { hits = 0; misses = 0; inserts = 0; expunges = risen s.expunges } in e) (dropped_of t (leaving s.conf s.rows.items) [] s (left_none s.conf s.rows.items c.requires.usable.slots_least)))
