use Rattle.play_laws.proofs.ObserverWishes.{come_last}
use Rattle.play_laws.proofs.counting.looks_come_last.Goals as goal

pub returns : goal.returns
returns c = come_last
