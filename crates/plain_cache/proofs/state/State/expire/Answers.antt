use Rattle.std.proofs.Common.{◌≡◌, Bool, true, false, cond, not, List, [], filter, nat_lt, sym, ap, ◌∙◌, arith}
use Rattle.std.proofs.lemmas.Bool.{le-ltb, lt-ltb, cond-true}
use Rattle.apcu_model.specs.Cache.{Row, Cache}
use Rattle.apcu_model.specs.Change.{dropped, leaving}
use Rattle.apcu_model.specs.Expiry.{is_expired}
use Rattle.apcu_model.specs.Facts.{left_all}
use Rattle.apcu_model.specs.Rows.{are_apart}
use Rattle.plain_cache.specs.States.{cache_in}
use Rattle.apcu_model.proofs.RowsApart.{left_in_order, are_apart-filter}
use Rattle.plain_cache.proofs.PlacedRows.{dropped_of}
use Rattle.plain_cache.proofs.state.State.expire.Goals as goal

pub returns-then-self-gt0-clause-cache : goal.returns-then-self-gt0-clause-cache
returns-then-self-gt0-clause-cache c =
    let s = c.args.self.now in
    let limited : nat_lt 0 s.conf.ttl ≡ true = lt-ltb 0 s.conf.ttl c.if-self-gt0.true in
    let over = is_expired s.conf c.args.t in
    let gone = leaving s.conf (filter over s.rows.items) in
    let left = filter (λ row. not (over row)) s.rows.items in
    ap (λ (rows : List Row). let d : Cache = record (cache_in s) { rows = rows } in d) c.drop_expired.ensures.items
    ∙ (sym (dropped_of c.args.t gone left s (left_in_order s.conf over s.rows.items c.requires.apart c.requires.usable.slots_least))
    ∙ ap (λ (l : List Row). dropped [] c.args.t l (cache_in s)) (sym (cond-true (nat_lt 0 s.conf.ttl) gone [] limited)))

pub returns-then-self-gt0-clause-valid : goal.returns-then-self-gt0-clause-valid
returns-then-self-gt0-clause-valid c =
    let s = c.args.self.now in
    record {
      usable = c.requires.usable;
      apart = ap are_apart c.drop_expired.ensures.items ∙ are_apart-filter (λ row. not (is_expired s.conf c.args.t row)) s.rows.items c.requires.apart;
    }

pub returns-else-self-gt0-clause-cache : goal.returns-else-self-gt0-clause-cache
returns-else-self-gt0-clause-cache c =
    let s = c.args.self.now in
    let gone = leaving s.conf (filter (is_expired s.conf c.args.t) s.rows.items) in
    let none : nat_lt 0 s.conf.ttl ≡ false = le-ltb 0 s.conf.ttl (omega (arith, c.if-self-gt0.false)) in
    sym (dropped_of c.args.t [] s.rows.items s (left_all s.rows.items))
    ∙ ap (λ (b : Bool). dropped [] c.args.t (cond b gone []) (cache_in s)) (sym none)
