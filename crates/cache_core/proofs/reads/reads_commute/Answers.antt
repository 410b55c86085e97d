use Rattle.cache_core.proofs.Fetches.{in_any_order}
use Rattle.cache_core.proofs.reads.reads_commute.Goals as goal

pub returns : goal.returns
returns c = record { swapped = λ front back one other t cache. in_any_order front back one other t cache }
