use Rattle.std.proofs.Common.{◌≡◌, ℕ, List, ◌&&◌, not, Some, sym, ap, ◌∙◌}
use Rattle.std.specs.Prelude.{Option, find, option_map}
use Rattle.apcu_model.specs.Cache.{Row, has_key}
use Rattle.apcu_model.specs.Counters.{integer_in}
use Rattle.apcu_model.specs.Expiry.{is_hard_expired, live_row}
use Rattle.plain_cache.specs.States.{cache_in}
use Rattle.plain_cache.proofs.state.State.integer_at.Goals as goal

first_live : ℕ → List ℕ → List Row → Option Row
first_live t key rows = find (λ row. has_key key row && not (is_hard_expired t row)) rows

pub returns-in-Some : goal.returns-in-Some
unfolding first_live
returns-in-Some c =
    let here : live_row c.args.key.now c.args.t (cache_in c.args.self.now) ≡ _ =
    ap (first_live c.args.t c.args.key.now) (sym c.deref.ensures.value) ∙ c.in-Some.ensures in
    ap Some (c.integer_of.ensures ∙ ap (λ (row : Row). integer_in row.graph) c.row.view_is)
    ∙ sym (ap (option_map (λ (row : Row). integer_in row.graph)) here)

pub returns-in-None : goal.returns-in-None
unfolding first_live
returns-in-None c =
    let here : live_row c.args.key.now c.args.t (cache_in c.args.self.now) ≡ _ =
    ap (first_live c.args.t c.args.key.now) (sym c.deref.ensures.value) ∙ c.in-None.ensures in
    sym (ap (option_map (λ (row : Row). integer_in row.graph)) here)
