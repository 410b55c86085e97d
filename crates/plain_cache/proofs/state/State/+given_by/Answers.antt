use Rattle.std.proofs.Common.{◌≡◌, ℕ, List, ◌&&◌, not, sym, ap, ap₂, ◌∙◌}
use Rattle.std.specs.Prelude.{Option, find}
use Rattle.apcu_model.specs.Cache.{Row, has_key}
use Rattle.apcu_model.specs.Expiry.{is_hard_expired, live_row}
use Rattle.apcu_model.specs.Levels.{Generator}
use Rattle.apcu_model.specs.GeneratorKinds.{generator_of}
use Rattle.apcu_model.specs.Generators.{given_by}
use Rattle.plain_cache.specs.States.{cache_in}
use Rattle.plain_cache.proofs.state.State.+given_by.Goals as goal

first_live : ℕ → List ℕ → List Row → Option Row
first_live t key rows = find (λ row. has_key key row && not (is_hard_expired t row)) rows

pub returns-in-Some : goal.returns-in-Some
unfolding first_live
returns-in-Some t c =
    let e = c.in-Entry in
    let same = sym c.kind.ensures ∙ ap generator_of e.is in
    let here : live_row e.key c.args.t (cache_in c.args.self.now) ≡ _ =
    ap₂ (first_live c.args.t) (sym c.as_slice.ensures.bytes) (sym c.deref.ensures.value) ∙ c.in-Some.ensures in
    sym (rw (same, here) (sym (ap (λ (row : Row). row.graph) c.row.view_is)))

pub returns-in-None : goal.returns-in-None
unfolding first_live
returns-in-None t c =
    let e = c.in-Entry in
    let same = sym c.kind.ensures ∙ ap generator_of e.is in
    let here : live_row e.key c.args.t (cache_in c.args.self.now) ≡ _ =
    ap₂ (first_live c.args.t) (sym c.as_slice.ensures.bytes) (sym c.deref.ensures.value) ∙ c.in-None.ensures in
    let inner = c.given_by.ensures ∙ ap (λ (g : Generator). given_by g c.args.t (cache_in c.args.self.now)) c.deref-in-None.ensures in
    sym (rw (same, here) (sym inner))
