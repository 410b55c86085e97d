use Rattle.std.proofs.Common.{refl}
use Rattle.worker_play.proofs.PassProgress.{one, of_if_ok}
use Rattle.worker_play.proofs.events.entry.Goals as goal

pub returns-in-Ok-clause-given : goal.returns-in-Ok-clause-given
returns-in-Ok-clause-given g c =
    let given = of_if_ok _ c.entry-pass.result.1 (c.in-Ok.value, c.in-Ok._fate) c.in-Ok.is c.entry-pass.ensures.given in
    one (record { more = c.one_event_own.ensures.more; others = c.one_event_own.ensures.others }) _ _ _ _ _ _ _ _ given.follows c.requires.whole refl
