use Rattle.play_laws.proofs.WalkLemmas as lemmas
use Rattle.play_laws.proofs.walks.walks_give_once.Goals as goal

pub returns : goal.returns
returns c = record { once = lemmas.once; all = lemmas.all }
