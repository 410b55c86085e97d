use Rattle.std.proofs.Common.{not, Bool, cond, List, [], filter, sym, ap, ◌∙◌}
use Rattle.std.proofs.lemmas.Bool.{cond-true}
use Rattle.std.specs.Prelude.{is_some}
use Rattle.apcu_model.specs.Cache.{Row, Cache, has_key}
use Rattle.apcu_model.specs.Change.{dropped}
use Rattle.apcu_model.specs.Expiry.{live_row}
use Rattle.apcu_model.specs.Rows.{are_apart}
use Rattle.plain_cache.specs.States.{cache_in}
use Rattle.apcu_model.proofs.RowsApart.{left_passing, are_apart-filter}
use Rattle.plain_cache.proofs.PlacedRows.{dropped_of}
use Rattle.plain_cache.proofs.state.State.delete.Goals as goal

pub returns-clause-cache : goal.returns-clause-cache
returns-clause-cache c =
    let s = c.args.self.now in
    let key = c.args.key.now in
    let gone = filter (has_key key) s.rows.items in
    ap (λ (rows : List Row). let d : Cache = record (cache_in s) { rows = rows } in d) c.drop_key.ensures
    ∙ (sym (dropped_of c.args.t gone (filter (λ row. not (has_key key row)) s.rows.items) s (left_passing (has_key key) s.rows.items c.requires.apart))
    ∙ sym (cond-true (is_some (live_row key c.args.t (cache_in s))) (dropped [] c.args.t gone (cache_in s)) (cache_in s) (sym c.is_live.ensures ∙ c.if-not-is_live.false)))

pub returns-clause-valid : goal.returns-clause-valid
returns-clause-valid c =
    let s = c.args.self.now in
    record {
      usable = c.requires.usable;
      apart = ap are_apart c.drop_key.ensures ∙ are_apart-filter (λ row. not (has_key c.args.key.now row)) s.rows.items c.requires.apart;
    }

pub returns-then-not-is_live-clause-reply : goal.returns-then-not-is_live-clause-reply
returns-then-not-is_live-clause-reply c = sym c.if-not-is_live.true ∙ c.is_live.ensures

pub returns-then-not-is_live-clause-cache : goal.returns-then-not-is_live-clause-cache
returns-then-not-is_live-clause-cache c =
    let s = cache_in c.args.self.now in
    ap (λ (b : Bool). cond b (dropped [] c.args.t (filter (has_key c.args.key.now) s.rows) s) s) (sym c.if-not-is_live.true ∙ c.is_live.ensures)

pub returns-clause-reply : goal.returns-clause-reply
returns-clause-reply c = sym c.if-not-is_live.false ∙ c.is_live.ensures
