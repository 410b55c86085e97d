use Rattle.std.proofs.Common.{◌≡◌, true, ◌++◌, length, take, drop, ap, ◌∙◌, arith}
use Rattle.std.proofs.lemmas.Grind.{common_steps}
use Rattle.apcu_model.specs.Rows.{are_apart, touched_at}
use Rattle.apcu_model.proofs.RowsApart.{are_apart-map, touched_key}
use Rattle.plain_cache.proofs.state.State.count_fetch.Goals as goal

pub returns-then-is_live-clause-valid : goal.returns-then-is_live-clause-valid
returns-then-is_live-clause-valid c =
    let key = c.args.key.now in
    let old = c.args.self.now.rows.items in
    let new = c.touch_in.new.rows in
    let whole : take c.args.self.now.rows.len (new ++ drop (length new) old) ≡ new = grind (arith, common_steps) in
    let kept : are_apart new ≡ true =
    ap are_apart c.touch_in.ensures ∙ (are_apart-map (touched_at key c.args.t) (touched_key key c.args.t) c.deref_mut.result.now ∙ (ap are_apart c.deref_mut.ensures.value ∙ c.requires.apart)) in
    record { usable = c.requires.usable; apart = ap are_apart whole ∙ kept }

pub returns-then-is_live-clause-cache : goal.returns-then-is_live-clause-cache
returns-then-is_live-clause-cache c = grind (arith, common_steps)
