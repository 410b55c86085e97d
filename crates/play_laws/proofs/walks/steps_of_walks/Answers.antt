use Rattle.std.proofs.Common.{refl}
use Rattle.play_laws.proofs.WalkSteps.{ends, slots_of_items}
use Rattle.play_laws.proofs.WalkLemmas as lemmas
use Rattle.play_laws.proofs.walks.steps_of_walks.Goals as goal

pub returns : goal.returns
returns c = record {
  further = λ wanted from size fields t cache. (ends wanted t cache from size).further;
  within = λ wanted from size fields t cache. (ends wanted t cache from size).within;
  slots = slots_of_items;
  removed = λ wanted from size fields t cache. refl;
  fewer = lemmas.fewer;
  most = lemmas.most;
}
