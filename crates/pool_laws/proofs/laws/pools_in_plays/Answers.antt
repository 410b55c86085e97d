use Rattle.script_read.specs.Clock.{all_timed}
use Rattle.pool_laws.proofs.JournalEvents.{in_plays}
use Rattle.pool_laws.proofs.laws.pools_in_plays.Goals as goal

pub returns-clause-spelled : goal.returns-clause-spelled
returns-clause-spelled c = λ name conf clock bytes scripts journal spelled legal l.
    let law = c.scripts_are_ranged.ensures in
    in_plays c.calls_are_tied.ensures conf c.calls_stand_alone.ensures name (all_timed clock scripts) journal
    (law.timed clock scripts (law.ranged bytes scripts spelled)) (law.timed_keys clock scripts (law.keys bytes scripts spelled)) l

pub returns-clause-ranged : goal.returns-clause-ranged
returns-clause-ranged c = λ name conf scripts journal ranged keys legal l.
    in_plays c.calls_are_tied.ensures conf c.calls_stand_alone.ensures name scripts journal ranged keys l
