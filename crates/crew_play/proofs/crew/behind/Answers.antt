use Rattle.std.proofs.Common.{◌≡◌, [], length, sym, subst}
use Rattle.std.specs.Prelude.{Option, IfSome}
use Rattle.pin_table.specs.Values.{PassView}
use Rattle.pin_table.specs.Events.{events_of}
use Rattle.crew_play.proofs.FirstEvents.{none_before}
use Rattle.crew_play.proofs.crew.behind.Goals as goal

pub returns-in-Some-clause-first : goal.returns-in-Some-clause-first
returns-in-Some-clause-first g c =
    subst (λ (o : Option PassView). IfSome o (λ (e : PassView). events_of c.args.pass.known.worker e.known.seen ≡ [])) (sym c.in-Some.is)
    (none_before g.N.TableName.conf (length g.N.TableName.budgets) c.args.pass c.learn-pass.result.0 c.in-Some.ended c.learn-pass.ensures.learns c.requires.no_event)
