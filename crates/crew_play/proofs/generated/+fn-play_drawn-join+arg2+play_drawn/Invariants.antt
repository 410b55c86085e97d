use Rattle.std.proofs.Common.{◌+◌, ◌*◌}
use Rattle.crew_play.proofs.generated.+fn-play_drawn-join+arg2+play_drawn.Given as goal

abbrev pub decreases-join+arg2 : goal.decreases-join+arg2
decreases-join+arg2 g l = 2 * l.before + 1

abbrev pub decreases-play_drawn : goal.decreases-play_drawn
decreases-play_drawn g l = 2 * l.count
