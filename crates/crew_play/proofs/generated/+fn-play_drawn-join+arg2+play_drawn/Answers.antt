use Rattle.std.proofs.Common.{◌≡◌, ◌-◌, ◌<◌, true, suc, ℕ, List, [], ◌∷◌, ◌++◌, Some, length, slice_get, slice_index, sym, ap, ◌∙◌, subst, arith}
use Rattle.pin_table.specs.Values.{PassView}
use Rattle.apcu_model.specs.declared.conf.Clock.TheVariants.{Line}
use Rattle.script_read.specs.declared.script.Step.{Step}
use Rattle.script_read.specs.Budgets.{events_in}
use Rattle.script_read.specs.Clock.{timed, all_timed}
use Rattle.script_read.specs.GeneratedScripts.{generated}
use Rattle.worker_play.specs.declared.script.Lines.TheVariants.{Dropped}
use Rattle.worker_play.specs.Ends.{HasEnded, HasMade}
use Rattle.crew_play.specs.GeneratedRuns.{HaveMade}
use Rattle.crew_play.proofs.Crews.{get-map}
use Rattle.crew_play.proofs.EndedCrews.{OthersLaw, get_some}
use Rattle.crew_play.proofs.GeneratedScripts.{workers_counted}
use Rattle.crew_play.proofs.LearnedEnds.{first_alone, one_more, others_made, own_made, all_played}
use Rattle.crew_play.proofs.generated.+fn-play_drawn-join+arg2+play_drawn.Goals as goal

pub play_lines-pass-requires-clause-left : goal.play_lines-pass-requires-clause-left
play_lines-pass-requires-clause-left g t c = λ κs within.
    let none : c.args.count - 1 ≡ 0 = omega (arith, c.if-before-eq0.true) in
    let left = c.last_pass-pass.ensures.left ∙ ap (slice_index g.N.TableName.budgets) none in
    subst (λ n. events_in g.N.TableName.conf.slots c.of-steps.result < n) (sym left) (c.requires.enough.each 0 c.of-steps.result c.of-steps.ensures)

pub returns-then-before-eq0-clause-made : goal.returns-then-before-eq0-clause-made
returns-then-before-eq0-clause-made g t c =
    let table = g.N.TableName.table in
    let conf = g.N.TableName.conf in
    let drawn = generated c.args.draws.now.seed c.args.draws.now.workers c.args.draws.now.calls in
    let scripts = all_timed Line drawn in
    let script : List Step = c.of-steps.result in
    let none : c.args.count - 1 ≡ 0 = omega (arith, c.if-before-eq0.true) in
    let one : 1 ≡ c.args.count = omega (arith, c.requires.some, none) in
    let goes = c.play_lines-pass.ensures.reaches.goes in
    let at : slice_get drawn 0 ≡ Some script = c.of-steps.ensures in
    let enough = c.requires.enough.first script at in
    let left : c.last_pass-pass.result.known.left ≡ slice_index g.N.TableName.budgets 0 = c.last_pass-pass.ensures.left ∙ ap (slice_index g.N.TableName.budgets) none in
    let taken = c.play_lines-pass.ensures.left in
    let alone = first_alone table conf scripts c.play_lines-pass.result.0 c.and_made.result (goes.table ∙ c.last_pass-pass.ensures.table) (goes.worker ∙ (c.last_pass-pass.ensures.worker ∙ none)) goes.all_own (omega (arith, enough, left, taken))
    (λ s hs yes.
    let same : Some (timed Line script) ≡ Some s = sym (get-map (timed Line) drawn 0 script at) ∙ hs in
    let whose : timed Line script ≡ s = cc (same) in
    subst (λ (l : List Step). HasMade conf l c.play_lines-pass.result.0) whose (own_made true c.play_lines-pass.result.1 (sym c.and_made.ensures ∙ yes) c.play_lines-pass.ensures.made)) in
    subst (λ k. HaveMade table conf scripts k c.play_lines-pass.result.0 c.args.ended.ended c.and_made.result) one
    (subst (λ (l : List PassView). HaveMade table conf scripts 1 c.play_lines-pass.result.0 l c.and_made.result) (sym {A = List PassView} c.requires.none_ended) alone)

pub learn-first-requires-clause-other : goal.learn-first-requires-clause-other
learn-first-requires-clause-other g t c =
    let draws = c.args.draws.now in
    let drawn = generated draws.seed draws.workers draws.calls in
    let n : ℕ = c.args.count - 1 in
    let few : n < length drawn = omega (arith, c.requires.some, c.requires.few, workers_counted draws.seed draws.workers draws.calls) in
    let script = get_some drawn n few in
    (c.join-front.ensures.second script.0 script.1).ended.table

pub returns-clause-made : goal.returns-clause-made
returns-clause-made g t c =
    let table = g.N.TableName.table in
    let conf = g.N.TableName.conf in
    let drawn = generated c.args.draws.now.seed c.args.draws.now.workers c.args.draws.now.calls in
    let scripts = all_timed Line drawn in
    let front = c.join-front.result.0 in
    let last = c.join-front.result.1 in
    let n : ℕ = c.args.count - 1 in
    let count : suc n ≡ c.args.count = omega (arith, c.requires.some) in
    let few : n < length drawn = omega (arith, count, c.requires.few, workers_counted c.args.draws.now.seed c.args.draws.now.workers c.args.draws.now.calls) in
    let script = get_some drawn n few in
    let law : OthersLaw = record { others = c.one_event_own.ensures.others } in
    let ends = c.join-front.ensures.second script.0 script.1 in
    let ended : HasEnded table n last.0 = subst (λ v. HasEnded table v last.0) c.last_pass-pass.ensures.worker ends.ended in
    let there = get-map (timed Line) drawn n script.0 script.1 in
    let made = one_more law table conf (length g.N.TableName.budgets) scripts n front.0 c.learn-first.result.0 last.0 front.1.ended (timed Line script.0) front.2 c.and_made-2.result c.join-front.ensures.first.0 c.learn-first.ensures.learns ended there
    (λ yes. others_made front.2 last.1 (sym c.and_made-2.ensures ∙ yes)) (λ yes. own_made front.2 last.1 (sym c.and_made-2.ensures ∙ yes) (all_played conf Dropped (timed Line script.0) last.0 last.1 ends.plays)) in
    rw (c.push.ensures.ended, c.learn-first.ensures.same) (subst (λ k. HaveMade table conf scripts k c.learn-first.result.0 (front.1.ended ++ last.0 ∷ []) c.and_made-2.result) count made)
