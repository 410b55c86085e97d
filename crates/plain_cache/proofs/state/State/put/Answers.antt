use Rattle.std.proofs.Common.{◌≡◌, ℕ, ◌%◌, ◌&&◌, not, List, refl, sym, ap, ap₂, ◌∙◌}
use Rattle.apcu_model.specs.Cache.{Row, Cache}
use Rattle.apcu_model.specs.Change.{with_row}
use Rattle.apcu_model.specs.Expiry.{is_expired}
use Rattle.apcu_model.specs.Rows.{are_apart}
use Rattle.plain_cache.specs.States.{cache_in}
use Rattle.apcu_model.specs.SlotOrder.{is_in_slot, slot_of}
use Rattle.apcu_model.proofs.RowsApart.{are_apart-filter, are_apart-with_row}
use Rattle.plain_cache.proofs.PlacedRows.{swept_rows, new_row, placed_of}
use Rattle.plain_cache.proofs.state.State.put.Goals as goal

pub returns-clause-cache : goal.returns-clause-cache
returns-clause-cache c =
    let s = c.args.self.now in
    let d = c.args.draft in
    let new = new_row s d.key d.graph d.ttl c.args.t d.size c.args.place in
    let slot : c.hash_of.result % c.from.result ≡ slot_of s.conf d.key = rw (c.hash_of.ensures, c.from.ensures, c.as_slice.ensures.bytes) refl in
    let rows : c.put_row.new.rows.items ≡ with_row new (swept_rows s (slot_of s.conf d.key) c.args.t) =
    c.put_row.ensures.items ∙ ap (with_row new) (c.drop_expired_in.ensures.items ∙ ap (λ (k : ℕ). swept_rows s k c.args.t) slot) in
    ap
    (λ (xs : List Row). let e : Cache = record (cache_in s) { rows = xs; next_number = c.saturating_add-self.result; inserts = c.saturating_add-self-2.result } in e)
    rows
    ∙ (ap₂
    (λ (number inserts : ℕ). let e : Cache = record (cache_in s) { rows = with_row new (swept_rows s (slot_of s.conf d.key) c.args.t); next_number = number; inserts = inserts } in e)
    c.saturating_add-self.ensures
    c.saturating_add-self-2.ensures
    ∙ sym (placed_of d.key d.graph d.ttl c.args.t d.size c.args.place s c.requires.valid.apart))

pub returns-clause-valid : goal.returns-clause-valid
returns-clause-valid c =
    let s = c.args.self.now in
    let d = c.args.draft in
    let slot = c.hash_of.result % c.from.result in
    let new = new_row s d.key d.graph d.ttl c.args.t d.size c.args.place in
    let after_sweep = ap are_apart c.drop_expired_in.ensures.items ∙ are_apart-filter (λ row. not (is_in_slot s.conf slot row && is_expired s.conf c.args.t row)) s.rows.items c.requires.valid.apart in
    record {
      usable = c.requires.valid.usable;
      apart = ap are_apart c.put_row.ensures.items ∙ are_apart-with_row new c.drop_expired_in.new.rows.items after_sweep;
    }

pub put_row-requires-clause-apart : goal.put_row-requires-clause-apart
put_row-requires-clause-apart c =
    let s = c.args.self.now in
    let slot = c.hash_of.result % c.from.result in
    ap are_apart c.drop_expired_in.ensures.items ∙ are_apart-filter (λ row. not (is_in_slot s.conf slot row && is_expired s.conf c.args.t row)) s.rows.items c.requires.valid.apart
