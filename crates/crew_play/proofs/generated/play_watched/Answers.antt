use Rattle.std.proofs.Common.{◌≡◌, ◌++◌, ◌∷◌, [], inl, inr, true, List, length, sym, ap, subst, ◌∙◌}
use Rattle.std.proofs.lemmas.Bool.{cases_Bool}
use Rattle.apcu_model.specs.declared.conf.Clock.TheVariants.{Line}
use Rattle.apcu_model.specs.declared.conf.Conf.{Conf}
use Rattle.pin_table.specs.Values.{PassView}
use Rattle.script_read.specs.declared.script.Step.{Step}
use Rattle.script_read.specs.Clock.{all_timed}
use Rattle.script_read.specs.GeneratedScripts.{generated}
use Rattle.shared_cache.specs.ClosedCaches.{IsClosed}
use Rattle.worker_play.specs.Looks.{Observes}
use Rattle.crew_play.specs.GeneratedRuns.{IsRun, IsWatched, HaveMade}
use Rattle.crew_play.proofs.GeneratedScripts.{all_lines}
use Rattle.crew_play.proofs.EndedCrews.{OthersLaw, PlayLaws}
use Rattle.crew_play.proofs.WishCounts.{WishLaws}
use Rattle.crew_play.proofs.WatchedRuns.{SummaryLaws, of_table, each_there, watched}
use Rattle.crew_play.proofs.generated.play_watched.Goals as goal

pub close-requires-clause-table : goal.close-requires-clause-table
close-requires-clause-table g c =
    let table = g.N.TableName.table in
    let conf = g.N.TableName.conf in
    let draws = c.args.draws.now in
    let scripts = all_timed Line (generated draws.seed draws.workers draws.calls) in
    rw c.push.ensures.ended
    (of_table table conf scripts c.args.draws.now.workers (length g.N.TableName.budgets) c.play_drawn-first.result.0 c.observe-end.result.0 c.play_drawn-first.result.1.ended c.play_drawn-first.result.2 c.observe-end.result.1 c.play_drawn-first.ensures.made c.observe-end.ensures)

pub close-requires-clause-every : goal.close-requires-clause-every
close-requires-clause-every g c =
    let table = g.N.TableName.table in
    let conf = g.N.TableName.conf in
    let draws = c.args.draws.now in
    let scripts = all_timed Line (generated draws.seed draws.workers draws.calls) in
    let workers : length g.N.TableName.budgets ≡ c.args.draws.now.workers = ap length c.requires.budgets ∙ c.requires.workers in
    rw (c.push.ensures.ended, workers)
    (each_there table conf scripts c.args.draws.now.workers (length g.N.TableName.budgets) c.play_drawn-first.result.0 c.observe-end.result.0 c.play_drawn-first.result.1.ended c.play_drawn-first.result.2 c.observe-end.result.1 c.play_drawn-first.ensures.made c.observe-end.ensures)

pub returns-clause-watched : goal.returns-clause-watched
returns-clause-watched g c =
    let table = g.N.TableName.table in
    let conf = g.N.TableName.conf in
    let draws = c.args.draws.now in
    let scripts : List (List Step) = generated draws.seed draws.workers draws.calls in
    let shape : conf ≡ draws.conf.now = c.requires.conf ∙ c.requires.shape in
    let budgets : length g.N.TableName.budgets ≡ draws.workers = ap length c.requires.budgets ∙ c.requires.workers in
    let first = c.play_drawn-first.result.0 in
    let others : List PassView = c.play_drawn-first.result.1.ended in
    let all = c.play_drawn-first.result.2 in
    let end = c.observe-end.result.0 in
    let numbers = c.observe-end.result.1 in
    let law : OthersLaw = record { others = c.one_event_own.ensures.others } in
    let plays : PlayLaws = record { play = c.histories_are_plays.ensures.play; complete = c.histories_are_plays.ensures.complete } in
    let wishes : WishLaws = record { others = c.generated_wishes.ensures.others; observer = c.generated_wishes.ensures.observer } in
    let sums : SummaryLaws = record { summary = c.summaries_agree.ensures.summary; last = c.looks_come_last.ensures } in
    let made = subst (λ (l : List (List Step)). HaveMade table conf l draws.workers first others all) (all_lines scripts) c.play_drawn-first.ensures.made in
    let looks = subst (λ n. Observes conf n first end numbers) budgets c.observe-end.ensures in
    let closed = subst (λ n. IsClosed conf n (others ++ end ∷ []) c.close.result) budgets
    (subst (λ (l : List PassView). IsClosed conf (length g.N.TableName.budgets) l c.close.result) c.push.ensures.ended c.close.ensures) in
    let so : all ≡ true = elim (cases_Bool all) [
      | inl h ↦ h
      | inr h ↦ absurd (cc (h, c.if-not-all.false))
    ] in
    subst (λ (f : Conf). IsWatched f draws.seed draws.workers draws.calls (record { inserts = c.close.result.counts.inserts; counters = numbers })) shape
    (watched law plays wishes sums table conf draws.seed draws.workers draws.calls first end others all numbers c.close.result (subst (λ (f : Conf). IsRun f draws.workers draws.calls) (sym shape) c.requires.run) made so looks closed)
