use Rattle.std.proofs.Common.{◌≡◌, ℕ, ◌-◌, suc, List, length, map, sym, subst, ◌∙◌, arith}
use Rattle.std.proofs.lemmas.List.{length-map}
use Rattle.std.proofs.lemmas.Result.{err_from_is_err_and}
use Rattle.std.specs.Prelude.{Result, Ok, IfSome}
use Rattle.worker_play.specs.declared.script.PlayFault.{PlayFault}
use Rattle.apcu_model.specs.declared.conf.Conf.{Conf}
use Rattle.script_read.specs.Clock.{timed, all_timed}
use Rattle.crew_play.specs.Crew.{AllEnd, LastEndsFirst}
use Rattle.crew_play.specs.PlayedScripts.{IsPlayed, IsLeftByPlay}
use Rattle.crew_play.proofs.FirstEvents.{come_first}
use Rattle.crew_play.proofs.EndedCrews.{OthersLaw, PlayLaws, all_of, every, all_seen, budgets_for_each, is_played, any_left}
use Rattle.crew_play.proofs.play.play_named.Goals as goal

pub close-journal-requires-clause-table : goal.close-journal-requires-clause-table
close-journal-requires-clause-table g c =
    let table = g.N.TableName.table in
    let conf = g.N.TableName.conf in
    let scripts = all_timed c.args.cast.now.clock c.args.cast.now.scripts.now in
    let ended = c.play_all-ended.result.0.ended in
    let texts = c.play_all-ended.result.1.items in
    all_of table conf scripts ended texts (all_seen table conf c.args.cast.now.clock c.args.cast.now.scripts.now ended texts c.play_all-ended.ensures.all)

pub close-journal-requires-clause-every : goal.close-journal-requires-clause-every
close-journal-requires-clause-every g c =
    let table = g.N.TableName.table in
    let conf = g.N.TableName.conf in
    let scripts = all_timed c.args.cast.now.clock c.args.cast.now.scripts.now in
    let ended = c.play_all-ended.result.0.ended in
    let texts = c.play_all-ended.result.1.items in
    let workers = budgets_for_each c.args.cast.now.conf.now.slots c.args.cast.now.clock c.args.cast.now.scripts.now g.N.TableName.budgets (c.requires.budgets ∙ c.requires.events) in
    rw workers (every table conf scripts ended texts (all_seen table conf c.args.cast.now.clock c.args.cast.now.scripts.now ended texts c.play_all-ended.ensures.all))

pub returns-clause-played : goal.returns-clause-played
returns-clause-played g c =
    let table = g.N.TableName.table in
    let conf = g.N.TableName.conf in
    let scripts = all_timed c.args.cast.now.clock c.args.cast.now.scripts.now in
    let ended = c.play_all-ended.result.0.ended in
    let closed = c.close-journal.result in
    let texts = c.in_ok-texts.texts.items in
    let all = all_seen table conf c.args.cast.now.clock c.args.cast.now.scripts.now ended c.play_all-ended.result.1.items c.play_all-ended.ensures.all in
    let whole : AllEnd table conf scripts (length scripts) ended (map Ok texts) =
    subst (λ (l : List (Result (List ℕ) PlayFault)). AllEnd table conf scripts (length scripts) ended l) (sym c.in_ok-texts.ensures.all) all in
    let workers = budgets_for_each c.args.cast.now.conf.now.slots c.args.cast.now.clock c.args.cast.now.scripts.now g.N.TableName.budgets (c.requires.budgets ∙ c.requires.events) in
    let others : OthersLaw = record { others = c.one_event_own.ensures.others } in
    let plays : PlayLaws = record { play = c.histories_are_plays.ensures.play; complete = c.histories_are_plays.ensures.complete } in
    subst (λ (f : Conf). IsPlayed f scripts closed.0.journal.marks texts closed.0.counts) (c.requires.conf ∙ c.requires.shape)
    (is_played others plays table conf (length g.N.TableName.budgets) scripts ended texts closed.0 workers whole c.close-journal.ensures.closed)

pub returns-clause-left : goal.returns-clause-left
returns-clause-left g c =
    let table = g.N.TableName.table in
    let conf = g.N.TableName.conf in
    let scripts = all_timed c.args.cast.now.clock c.args.cast.now.scripts.now in
    let ended = c.play_all-ended.result.0.ended in
    let closed = c.close-journal.result in
    let texts = c.in_ok-texts.texts.items in
    let all = all_seen table conf c.args.cast.now.clock c.args.cast.now.scripts.now ended c.play_all-ended.result.1.items c.play_all-ended.ensures.all in
    let whole : AllEnd table conf scripts (length scripts) ended (map Ok texts) =
    subst (λ (l : List (Result (List ℕ) PlayFault)). AllEnd table conf scripts (length scripts) ended l) (sym c.in_ok-texts.ensures.all) all in
    let workers = budgets_for_each c.args.cast.now.conf.now.slots c.args.cast.now.clock c.args.cast.now.scripts.now g.N.TableName.budgets (c.requires.budgets ∙ c.requires.events) in
    let others : OthersLaw = record { others = c.one_event_own.ensures.others } in
    let plays : PlayLaws = record { play = c.histories_are_plays.ensures.play; complete = c.histories_are_plays.ensures.complete } in
    subst (λ (f : Conf). IfSome closed.1 (λ l. IsLeftByPlay f scripts closed.0.journal.marks texts closed.0.counts l.core l.words)) (c.requires.conf ∙ c.requires.shape)
    (any_left others plays table conf (length g.N.TableName.budgets) scripts ended texts closed.0 closed.1 workers whole c.close-journal.ensures.left)

pub returns-clause-first : goal.returns-clause-first
returns-clause-first g c = λ order.
    let table = g.N.TableName.table in
    let conf = g.N.TableName.conf in
    let scripts = c.args.cast.now.scripts.now in
    let ended = c.play_all-ended.result.0.ended in
    let texts = c.play_all-ended.result.1.items in
    let some = c.requires.some order in
    let seen : length (all_timed c.args.cast.now.clock scripts) ≡ length scripts = length-map scripts (timed c.args.cast.now.clock) in
    let first : LastEndsFirst (length (all_timed c.args.cast.now.clock scripts)) ended = subst (λ n. LastEndsFirst n ended) (sym seen) (c.play_all-ended.ensures.first order) in
    let last : suc (length scripts - 1) ≡ length (all_timed c.args.cast.now.clock scripts) = omega (arith, seen, some) in
    come_first table conf (length g.N.TableName.budgets) (all_timed c.args.cast.now.clock scripts) ended texts c.close-journal.result.0 (length scripts - 1) last
    (all_seen table conf c.args.cast.now.clock scripts ended texts c.play_all-ended.ensures.all) first c.close-journal.ensures.closed

pub returns-in_err-texts-clause-pattern : goal.returns-in_err-texts-clause-pattern
returns-in_err-texts-clause-pattern g c =
    let p = err_from_is_err_and c.from_residual.result c.from_residual.ensures.1 in
    rw (p.1, p.2) (λ is. c.play_all-ended.ensures.pattern (c.in_err-texts.ensures.pattern is))
