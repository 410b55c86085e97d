use Rattle.std.proofs.Common.{rules}
use Rattle.apcu_play.proofs.Crews.{crew_prints, first_none, first_some}
use Rattle.apcu_play.proofs.play.play.Goals as goal

pub returns-in_ok-printed_of-in-None-clause-output : goal.returns-in_ok-printed_of-in-None-clause-output
returns-in_ok-printed_of-in-None-clause-output g c =
    let p = c.in_ok-played-in-None.played in
    crew_prints c.args.settings.now.conf c.args.settings.now.clock c.args.preload c.args.map c.args.scripts.now p.journal.marks p.texts.items _ p.counts p.left _ c.in_ok-played-in-None.ensures.played c.in_ok-played-in-None.ensures.left c.in_ok-played-in-None.ensures.kept
    (first_none c.args.preload c.args.scripts.now p.journal.marks (search rules)) c.in_ok-printed_of-in-None.ensures.texts c.in_ok-printed_of-in-None.ensures.rest

pub returns-in_ok-printed_of-in-Some-clause-output : goal.returns-in_ok-printed_of-in-Some-clause-output
returns-in_ok-printed_of-in-Some-clause-output g c =
    let p = c.in_ok-played-in-Some.played in
    crew_prints c.args.settings.now.conf c.args.settings.now.clock c.args.preload c.args.map c.args.scripts.now p.journal.marks p.texts.items _ p.counts p.left _ c.in_ok-played-in-Some.ensures.played c.in_ok-played-in-Some.ensures.left c.in_ok-played-in-Some.ensures.kept
    (first_some c.args.preload c.args.scripts.now p.journal.marks c.in_ok-played-in-Some.ensures.first) c.in_ok-printed_of-in-Some.ensures.texts c.in_ok-printed_of-in-Some.ensures.rest
