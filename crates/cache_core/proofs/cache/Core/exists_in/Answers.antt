use Rattle.std.proofs.Common.{◌∙◌}
use Rattle.cache_core.specs.CoreCache.{cache_of}
use Rattle.cache_core.proofs.LiveRows.{found_some}
use Rattle.cache_core.proofs.cache.Core.exists_in.Goals as goal

pub returns-clause-found : goal.returns-clause-found
returns-clause-found g c = c.is_some.ensures ∙ found_some c.args.key.now c.args.t (cache_of c.args.self.now) c.find_live.result c.find_live.ensures.found c.find_live.ensures.none
