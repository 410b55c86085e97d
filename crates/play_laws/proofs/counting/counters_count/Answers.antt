use Rattle.std.proofs.Common.{arith}
use Rattle.script_read.specs.Clock.{all_timed}
use Rattle.play_laws.proofs.CounterRows as lemmas
use Rattle.play_laws.proofs.WrappedSums.{modulo}
use Rattle.play_laws.proofs.JournalPlays.{played_counted}
use Rattle.play_laws.proofs.counting.counters_count.Goals as goal

pub returns-clause-counted : goal.returns-clause-counted
returns-clause-counted c = lemmas.counted c.rows_stay_apart.ensures

pub returns-clause-spelled : goal.returns-clause-spelled
returns-clause-spelled c = λ conf clock bytes scripts before between p q first second n good spelled.
    let law = c.scripts_are_ranged.ensures in
    λ short. played_counted c.rows_stay_apart.ensures conf (all_timed clock scripts) before between p q first second n (omega (arith, good.slots_least)) short (law.timed clock scripts (law.ranged bytes scripts spelled))

pub returns-clause-journals : goal.returns-clause-journals
returns-clause-journals c = played_counted c.rows_stay_apart.ensures

pub returns-clause-modulo : goal.returns-clause-modulo
returns-clause-modulo c = modulo
