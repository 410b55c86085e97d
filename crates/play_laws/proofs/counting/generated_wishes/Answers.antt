use Rattle.play_laws.proofs.ObserverWishes.{others_want, observer_wants}
use Rattle.play_laws.proofs.TimedScripts.{same_timed}
use Rattle.play_laws.proofs.counting.generated_wishes.Goals as goal

pub returns : goal.returns
returns c = record { others = others_want; observer = observer_wants; timed = same_timed }
