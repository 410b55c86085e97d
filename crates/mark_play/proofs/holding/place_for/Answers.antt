use Rattle.mark_play.proofs.holding.place_for.Goals as goal

pub place_of-requires-clause-key : goal.place_of-requires-clause-key
place_of-requires-clause-key g c = c.requires.key c.in-Some.window c.in-Some.is
