use Rattle.std.proofs.Common.{subst}
use Rattle.shared_cache.specs.Meeting.{Sees}
use Rattle.shared_cache.proofs.locked_cache.LockedCache.meet.Goals as goal

pub returns : goal.returns
returns g c = record {
  all = _;
  first = c.see-pass.ensures.sees;
  second = subst (Sees _ _ _ _) c.see-pass.ensures.same c.see-other.ensures.sees;
}
