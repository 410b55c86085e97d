use Rattle.std.proofs.Common.{◌≡◌, true, ◌++◌, length, take, drop, ap, ◌∙◌, arith, w64, to_z, of_z}
use Rattle.std.proofs.lemmas.Grind.{common_steps}
use Rattle.apcu_model.specs.Rows.{are_apart}
use Rattle.apcu_model.proofs.RowsApart.{are_apart-map}
use Rattle.apcu_model.specs.Counters.{with_integer_at}
use Rattle.apcu_model.proofs.Scalars.{set_key}
use Rattle.plain_cache.proofs.state.State.set_integer.Goals as goal

pub returns-clause-valid : goal.returns-clause-valid
returns-clause-valid c =
    let key = c.args.key.now in
    let old = c.args.self.now.rows.items in
    let new = c.set_in.new.rows in
    let whole : take c.args.self.now.rows.len (new ++ drop (length new) old) ≡ new = grind (arith, common_steps) in
    let kept : are_apart new ≡ true =
    ap are_apart c.set_in.ensures ∙ (are_apart-map (with_integer_at key (to_z w64 (of_z w64 c.args.n)) c.args.t) (set_key key (to_z w64 (of_z w64 c.args.n)) c.args.t) c.deref_mut.result.now ∙ (ap are_apart c.deref_mut.ensures.value ∙ c.requires.apart)) in
    record { usable = c.requires.usable; apart = ap are_apart whole ∙ kept }
