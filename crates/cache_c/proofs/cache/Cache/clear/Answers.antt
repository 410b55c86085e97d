use Rattle.std.proofs.Common.{refl, true}
use Rattle.apcu_model.specs.declared.request.Reply.TheVariants as replies
use Rattle.cache_c.proofs.Standing.{left_begun, done_begun}
use Rattle.cache_c.proofs.cache.Cache.clear.Goals as goal

pub returns-clause-left : goal.returns-clause-left
returns-clause-left c = left_begun c.requires.stand c.begin.ensures.begun c.clear.ensures

pub returns-clause-done : goal.returns-clause-done
returns-clause-done c = record {
  reply = replies.Flag true;
  done = done_begun c.begin.ensures.begun c.clear.ensures;
  told = refl;
}
