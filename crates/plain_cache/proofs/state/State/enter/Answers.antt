use Rattle.std.proofs.Common.{rules, ap, ◌∙◌, List, []}
use Rattle.php_graph.specs.declared.kind.Kind.{Kind}
use Rattle.apcu_model.specs.Generators.{missed_levels, looked_for, filled}
use Rattle.plain_cache.specs.States.{cache_in}
use Rattle.plain_cache.proofs.state.State.enter.Goals as goal

pub returns-clause-cache : goal.returns-clause-cache
returns-clause-cache c =
    let s = cache_in c.args.self.now in
    let levels = c.args.generator.now.levels in
    search (rules, c.in_ok-fill.ensures.cache ∙ ap (λ (v : List Kind). (filled [] v c.args.t (missed_levels levels c.args.t s) (looked_for levels c.args.t s)).cache) (c.in_ok-value.ensures ∙ c.given_by.ensures))

pub returns-in_err-fill-clause-err : goal.returns-in_err-fill-clause-err
returns-in_err-fill-clause-err c = search (rules, c.in_err-fill.ensures.err)
