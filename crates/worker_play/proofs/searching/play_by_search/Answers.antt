use Rattle.worker_play.proofs.PassProgress.{nothing_asked}
use Rattle.worker_play.proofs.searching.play_by_search.Goals as goal

pub returns-in-Err-clause-reaches : goal.returns-in-Err-clause-reaches
returns-in-Err-clause-reaches g c = nothing_asked _ _ _ _ c.requires.whole
