use Rattle.std.proofs.Common.{◌≡◌, ℕ, ◌+◌, ◌*◌, ◌≤◌, List, length, refl, sym, ap, subst, ◌∙◌}
use Rattle.script_read.specs.GeneratedScripts.{generated}
use Rattle.crew_play.specs.GeneratedRuns.{HaveEnough}
use Rattle.crew_play.proofs.GeneratedScripts.{budgets_counted, enough_drawn, without_nine}
use Rattle.script_read.specs.Budgets.{most_events}
use Rattle.crew_play.proofs.generated.play_generated.Goals as goal

pub play_watched-requires-clause-workers : goal.play_watched-requires-clause-workers
play_watched-requires-clause-workers g c = λ κs within.
    let budgets = c.in-Ok.ensures.budgets ∙ (c.deref.ensures.value ∙ c.in_ok-budgets.ensures) in
    ap (λ (l : List ℕ). length l) budgets ∙ budgets_counted c.args.workers c.args.calls c.requires.some

pub play_watched-requires-clause-enough : goal.play_watched-requires-clause-enough
play_watched-requires-clause-enough g c = λ κs within.
    let slots = c.args.conf.now.slots in
    let budgets = c.in-Ok.ensures.budgets ∙ (c.deref.ensures.value ∙ c.in_ok-budgets.ensures) in
    subst (λ (l : List ℕ). HaveEnough slots l (generated c.args.seed c.args.workers c.args.calls)) (sym budgets) (enough_drawn slots c.args.seed c.args.workers c.args.calls)

pub play_watched-requires-clause-run : goal.play_watched-requires-clause-run
play_watched-requires-clause-run g c = λ κs within.
    let few : c.args.workers * (c.args.calls + 1) ≤ most_events = without_nine (c.args.workers * (c.args.calls + 1)) most_events (c.if-are_too_many.ensures.no refl) in
    record {
      large = c.requires.large;
      some = c.requires.some;
      most = c.requires.most;
      few = few;
    }
