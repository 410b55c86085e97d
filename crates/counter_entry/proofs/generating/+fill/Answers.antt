use Rattle.std.proofs.Common.{◌≡◌, ℕ, ◌∷◌, true, List, take, sym, ap, ◌∙◌}
use Rattle.seg_words.specs.Windows.{held_blocks}
use Rattle.seg_words.specs.Probing.{goes_on}
use Rattle.apcu_model.specs.Change.{inserted}
use Rattle.apcu_model.specs.Generators.{filled}
use Rattle.apcu_model.specs.Levels.{EntryLevel, Generator}
use Rattle.apcu_model.specs.GeneratorKinds.{generator_of}
use Rattle.cache_core.specs.CoreCache.{cache_of}
use Rattle.cache_core.proofs.Events.{steps}
use Rattle.counter_entry.proofs.Levels.{filled_first}
use Rattle.counter_entry.proofs.generating.+fill.Goals as goal

pub returns-in-Entry-clause-filled : goal.returns-in-Entry-clause-filled
returns-in-Entry-clause-filled g n c = λ later on.
    let held = held_blocks later in
    let value = c.args.value.now in
    let old = cache_of c.args.core.now in
    let mid = cache_of c.fill-before.new.core in
    let inner : Generator = c.deref.result.now in
    let level : EntryLevel = record { key = c.in-Entry.key; ttl = c.in-Entry.ttl } in
    let levels : c.args.generator.now.levels ≡ level ∷ inner.levels = ap (λ (x : Generator). x.levels) (sym c.kind.ensures ∙ ap generator_of c.in-Entry.is) ∙ ap (λ (x : Generator). level ∷ x.levels) (sym c.deref.ensures) in
    let before = sym (c.fill-before.ensures.filled later (goes_on (g.S.WordsIn.aside c.fill-before.new.seg) (g.S.WordsIn.aside c.insert-answer.new.seg) later c.insert-answer.ensures.step.goes on)) in
    let outer = ap (λ (k : List ℕ). inserted held k value level.ttl true c.args.t mid) (sym c.as_slice.ensures.bytes) ∙ sym (c.insert-answer.ensures.inserted later on) in
    sym (ap (λ (l : List EntryLevel). filled held value c.args.t (take c.args.missing l) old) levels
    ∙ filled_first held value c.args.t c.args.missing level inner.levels old mid (cache_of c.insert-answer.new.core) c.fill-before.result.last c.insert-answer.result c.if-missing-eq0.false before outer)

pub returns-in-Entry-clause-step : goal.returns-in-Entry-clause-step
returns-in-Entry-clause-step g n c = steps c.fill-before.ensures.step c.insert-answer.ensures.step
