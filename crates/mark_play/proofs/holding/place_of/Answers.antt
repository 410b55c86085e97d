use Rattle.std.proofs.Common.{subst}
use Rattle.entry_slots.specs.Standing.{entries}
use Rattle.mark_play.specs.HeldPlaces.{IsRowPlace}
use Rattle.mark_play.proofs.RowPlaces.{first_of_both, second_of_both}
use Rattle.mark_play.proofs.holding.place_of.Goals as goal

pub returns-then-at-ne0-clause-place : goal.returns-then-at-ne0-clause-place
returns-then-at-ne0-clause-place g c = first_of_both (entries c.args.slots.now) c.args.window.now.number c.row_of-at.result c.if-at-ne0.true c.row_of-at.ensures.place

pub returns-clause-place : goal.returns-clause-place
returns-clause-place g c =
    second_of_both (entries c.args.slots.now) c.args.window.now.number c.removed_of.result
    (subst (IsRowPlace (entries c.args.slots.now).rows c.args.window.now.number) c.if-at-ne0.false c.row_of-at.ensures.place) c.removed_of.ensures.place
