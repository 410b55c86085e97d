use Rattle.std.proofs.Common.{◌≡◌, suc, length, sym, ap, ◌∙◌, arith}
use Rattle.apcu_model.specs.Levels.{Generator}
use Rattle.apcu_model.specs.GeneratorKinds.{generator_of}
use Rattle.cache_core.specs.CoreCache.{cache_of}
use Rattle.counter_entry.proofs.Levels.{few_missed}
use Rattle.counter_entry.proofs.generating.+look_through.Goals as goal

pub overflow_add-result : goal.overflow_add-result
overflow_add-result g n c =
    let inner : Generator = c.deref.result.now in
    let more : length c.args.generator.now.levels ≡ suc (length c.in-Entry.inner.value.levels) = ap (λ (x : Generator). length x.levels) (sym c.kind.ensures ∙ ap generator_of c.in-Entry.is) in
    let same : length inner.levels ≡ length c.in-Entry.inner.value.levels = ap (λ (x : Generator). length x.levels) c.deref.ensures in
    let found = c.in_ok-origin-in-Entry.ensures.missing in
    omega (arith, c.requires.levels, more, same, found, few_missed inner.levels c.args.t (cache_of c.args.core.now))
