use Rattle.std.proofs.Common.{◌∙◌}
use Rattle.shared_cache.proofs.UnderLockLemmas.{taken}
use Rattle.shared_cache.proofs.under_lock.begin.Goals as goal

pub returns-clause-taken : goal.returns-clause-taken
returns-clause-taken g c = λ core journal settled.
    taken c.lower_laws.ensures _ _ _ c.args.seat.now core journal c.args.pass c.writer.result settled c.requires.pass.table c.requires.pass.left
    (record { table = c.writer.result.same_table ∙ (c.writer.ensures.table ∙ c.requires.table); state = c.writer.ensures.state; worker = c.writer.ensures.worker })
    c.writer.ensures.left c.writer.ensures.seen c.writer.ensures.own c.writer.ensures.room
