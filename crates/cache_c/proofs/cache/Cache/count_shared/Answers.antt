use Rattle.std.proofs.Common.{refl}
use Rattle.cache_c.proofs.Standing.{is_left}
use Rattle.cache_c.proofs.cache.Cache.count_shared.Goals as goal

pub count_uses-requires : goal.count_uses-requires
count_uses-requires c = record { stand = c.requires.may.stand.copied; there = c.requires.may.there }

pub returns : goal.returns
returns c = record {
  left = is_left c.requires.may.stand c.count_uses.ensures.step.stand c.count_uses.ensures.step.rest;
  counted = record { done_is = refl; counted = c.count_uses.ensures.counted };
}
