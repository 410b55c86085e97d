use Rattle.std.proofs.Common.{sym, ap, ◌∙◌}
use Rattle.apcu_model.specs.SlotOrder.{slot_of}
use Rattle.cache_core.specs.declared.cache.Core.{Core}
use Rattle.apcu_model.specs.declared.request.Reply.TheVariants as replies
use Rattle.apcu_model.specs.Sequential.{is_stored}
use Rattle.cache_c.specs.Standing.{cache_words}
use Rattle.cache_c.proofs.Standing.{left_begun, done_begun}
use Rattle.cache_c.proofs.cache.Cache.store_text.Goals as goal

pub returns-clause-left : goal.returns-clause-left
returns-clause-left c = left_begun c.requires.stand c.begin.ensures.begun c.store_bytes_in.ensures.does

pub returns-clause-done : goal.returns-clause-done
returns-clause-done c = record {
  reply = replies.Flag (is_stored c.store_bytes_in.result);
  done = done_begun c.begin.ensures.begun c.store_bytes_in.ensures.does;
  told = c.stored.ensures (cache_words (record c.begin.new.self { core = c.store_bytes_in.new.self; words = c.store_bytes_in.new.seg }));
}

pub store_bytes_in-requires-clause-slot : goal.store_bytes_in-requires-clause-slot
store_bytes_in-requires-clause-slot c = c.requires.slot ∙ ap (λ (x : Core). slot_of x.conf c.args.key.now) (sym c.begin.ensures.begun.core)
