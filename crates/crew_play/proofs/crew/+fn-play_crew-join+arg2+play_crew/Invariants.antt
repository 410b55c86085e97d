use Rattle.std.proofs.Common.{◌+◌, ◌*◌}
use Rattle.crew_play.proofs.crew.+fn-play_crew-join+arg2+play_crew.Given as goal

abbrev pub decreases-join+arg2 : goal.decreases-join+arg2
decreases-join+arg2 g l = 2 * l.before + 1

abbrev pub decreases-play_crew : goal.decreases-play_crew
decreases-play_crew g l = 2 * l.count
