use Rattle.cache_core.proofs.Fetches.{seen_after}
use Rattle.cache_core.proofs.reads.reads_see_one_cache.Goals as goal

pub returns : goal.returns
returns c = record { seen = seen_after }
