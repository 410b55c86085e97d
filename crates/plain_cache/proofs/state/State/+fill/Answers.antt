use Rattle.std.proofs.Common.{◌≡◌, ℕ, Bool, true, false, if◌then◌else◌, List, [], ◌∷◌, sym, ap}
use Rattle.std.proofs.Common.{ap₂, ◌∙◌}
use Rattle.std.specs.Prelude.{is_some}
use Rattle.php_graph.specs.declared.kind.Kind.{Kind}
use Rattle.apcu_model.specs.Cache.{Cache}
use Rattle.apcu_model.specs.Change.{inserted}
use Rattle.apcu_model.specs.Expiry.{live_row}
use Rattle.apcu_model.specs.Generators.{filled, looked_for, missed_levels}
use Rattle.apcu_model.specs.Levels.{EntryLevel, Generator}
use Rattle.apcu_model.specs.GeneratorKinds.{generator_of}
use Rattle.plain_cache.specs.States.{cache_in}
use Rattle.plain_cache.proofs.state.State.+fill.Goals as goal

-- a missed level is filled after those inside it
filled_outer : (level : EntryLevel) (levels inner : List EntryLevel) (value : List Kind) (t : ℕ)
    (first looked now new : Cache) → levels ≡ level ∷ inner
    → is_some (live_row level.key t first) ≡ false
    → now ≡ (filled [] value t (missed_levels inner t first) looked).cache
    → new ≡ (inserted [] level.key value level.ttl true t now).cache
    → new ≡ (filled [] value t (missed_levels levels t first) looked).cache
filled_outer level levels inner value t first looked now new are dead inside put =
    put ∙ ap (λ (c : Cache). (inserted [] level.key value level.ttl true t c).cache) inside
    ∙ ap (λ (b : Bool).
    (filled [] value t (if b then [] else level ∷ missed_levels inner t first) looked).cache)
    (sym dead)
    ∙ ap (λ (l : List EntryLevel). (filled [] value t (missed_levels l t first) looked).cache)
    (sym are)

pub returns-in_ok-extents-in-Entry-clause-cache : goal.returns-in_ok-extents-in-Entry-clause-cache
returns-in_ok-extents-in-Entry-clause-cache n c =
    let e = c.in-Entry in
    let t = c.args.t in
    let value = c.args.value.now in
    let first = cache_in c.args.self.now in
    let looked = looked_for c.args.whole.now.levels t first in
    let same = sym c.kind.ensures ∙ ap generator_of e.is in
    let dead = ap (λ (k : List ℕ). is_some (live_row k t first)) (sym c.as_slice.ensures.bytes)
    ∙ (sym c.is_live.ensures ∙ c.if-is_live.false) in
    let inside = c.in_ok-extents-in-Entry.ensures.cache
    ∙ ap (λ (g : Generator).
    (filled [] value t (missed_levels g.levels t first) looked).cache) c.deref.ensures in
    let put = c.add_reserved.ensures.after
    ∙ ap₂ (λ (k : List ℕ) (g : List Kind).
    (inserted [] k g e.ttl true t (cache_in c.fill.new.self)).cache)
    (c.in_ok-own-in-Entry.ensures ∙ c.as_slice-in-Entry.ensures.bytes)
    c.in_ok-copy-in-Entry.ensures in
    filled_outer (record { key = e.key; ttl = e.ttl }) c.args.generator.now.levels _ value t first
    looked (cache_in c.fill.new.self) (cache_in c.add_reserved.new.self)
    (ap (λ (g : Generator). g.levels) same) dead inside put
