use Rattle.std.proofs.Common.{sym, ◌∙◌}
use Rattle.apcu_model.specs.Expiry.{live_row}
use Rattle.cache_core.specs.CoreCache.{cache_of}
use Rattle.counter_entry.proofs.IntegerLookUps.{nothing_seen, row_seen}
use Rattle.counter_entry.proofs.looking.look_for.Goals as goal

pub returns-in_default-clause-found : goal.returns-in_default-clause-found
returns-in_default-clause-found g c = nothing_seen (live_row c.args.key.now c.args.t (cache_of c.args.core.now)) (sym c.in_default.is ∙ c.peek_in.ensures.found)

pub returns-clause-found : goal.returns-clause-found
returns-clause-found g c = c.found_at.ensures ∙ row_seen (live_row c.args.key.now c.args.t (cache_of c.args.core.now)) (c.in-Some.at, c.in-Some.scalar) (sym c.in-Some.is ∙ c.peek_in.ensures.found)
