use Rattle.run_verify.proofs.PlayBounds.{short_play}
use Rattle.run_verify.proofs.laws.plays_are_short.Goals as goal

pub returns : goal.returns
returns c = short_play
