use Rattle.preload_set.proofs.LoaderPlay.{bundle_comes_first}
use Rattle.preload_set.proofs.laws.bundles_load.Goals as goal

pub returns : goal.returns
returns c = bundle_comes_first
