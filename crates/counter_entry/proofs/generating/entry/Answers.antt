use Rattle.std.proofs.Common.{◌≡◌, sym, ap, ◌∙◌, arith}
use Rattle.seg_words.specs.Windows.{Aside, held_blocks}
use Rattle.seg_words.specs.Probing.{Goes}
use Rattle.apcu_model.specs.declared.request.Reply.TheVariants.{Gave}
use Rattle.apcu_model.specs.Generators.{Filling, entered}
use Rattle.cache_core.specs.CoreCache.{cache_of}
use Rattle.cache_core.proofs.Events.{still, steps}
use Rattle.counter_entry.specs.Generating.{fate_of}
use Rattle.counter_entry.proofs.Besides.{beside_kept, both_beside, none_kept, found_none}
use Rattle.counter_entry.proofs.Levels.{few_missed, filled_missed}
use Rattle.counter_entry.proofs.generating.entry.Goals as goal
use Rattle.counter_entry.proofs.generating.entry.Given as given

pub fill-progress-requires-clause-missing : goal.fill-progress-requires-clause-missing
fill-progress-requires-clause-missing g c = omega (arith, c.in_ok-origin.ensures.missing, few_missed c.args.generator.now.levels c.args.t (cache_of c.args.core.now))

progressed : (g : given.Over) (c : goal.After-fate g) (later : Aside) → Goes (g.S.WordsIn.aside c.fill-progress.new.seg) later
    → record { outermost = c.fill-progress.result.last; cache = cache_of c.fill-progress.new.core } ≡ entered (held_blocks later) c.args.generator.now c.args.t (cache_of c.args.core.now)
progressed g c later on =
    let origin = c.in_ok-origin.origin in
    let found = c.in_ok-origin.ensures in
    c.fill-progress.ensures.filled later on
    ∙ sym (filled_missed (held_blocks later) c.args.generator.now c.args.t (cache_of c.args.core.now) (cache_of c.count_lookups.new.core) origin.value origin.missing found.value found.missing
    (c.count_lookups.ensures.cache c.args.generator.now.levels found.found found.missing))

pub returns-clause-fate : goal.returns-clause-fate
returns-clause-fate g c = λ later on. c.fate.ensures ∙ ap (λ (f : Filling). fate_of f.outermost) (progressed g c later on)

pub returns-clause-beside : goal.returns-clause-beside
returns-clause-beside g c = λ found.
    both_beside (beside_kept c.look_through.ensures.kept)
    (both_beside c.count_lookups.ensures.beside
    (beside_kept (none_kept c.fill-progress.result.last (found_none c.fill-progress.result.last (sym c.fate.ensures ∙ found)) c.fill-progress.ensures.kept)))

pub returns-clause-does : goal.returns-clause-does
returns-clause-does g c = record {
  done = record {
    reply = λ later on. ap Gave c.in_ok-origin.ensures.value;
    cache = λ later on. ap (λ (f : Filling). f.cache) (progressed g c later on);
    step = steps (still c.args.core.now c.look_through.ensures.kept c.requires.ready.stand) (steps c.count_lookups.ensures.step c.fill-progress.ensures.step);
  };
  same = tt;
}
