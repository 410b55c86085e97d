use Rattle.std.proofs.Common.{refl}
use Rattle.cache_c.proofs.Standing.{begun_from}
use Rattle.cache_c.proofs.cache.Cache.begin.Goals as goal

pub returns : goal.returns
returns c = record { begun = begun_from c.requires.stand refl c.begin.ensures.late c.begin.ensures.seats c.begin.ensures.refused }
