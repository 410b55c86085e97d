use Rattle.apcu_model.specs.SlotOrder.{slot_of}
use Rattle.cache_core.specs.declared.cache.Core.{Core}
use Rattle.std.proofs.Common.{◌≡◌, ◌∙◌, ap, w64, of_z, to_z, subst, sym}
use Rattle.std.specs.Prelude.{ℤ}
use Rattle.std.proofs.lemmas.Int.{of_z-to_z}
use Rattle.apcu_model.specs.declared.request.Request.TheVariants as requests
use Rattle.counter_entry.specs.Numbers.{reply_of}
use Rattle.cache_c.specs.Standing.{HasDone, cache_words}
use Rattle.cache_c.proofs.Standing.{left_begun, done_begun}
use Rattle.cache_c.proofs.cache.Cache.count.Goals as goal

pub returns-clause-left : goal.returns-clause-left
returns-clause-left c = left_begun c.requires.stand c.begin.ensures.begun c.inc_in-answer.ensures.does

pub returns-clause-done : goal.returns-clause-done
returns-clause-done c =
    let new = record c.begin.new.self { core = c.inc_in-answer.new.core; words = c.inc_in-answer.new.seg } in
    let n = c.args.step in
    let Done : ℤ → Type 0 = λ x. HasDone c.args.self.now new c.args.t (requests.Inc c.args.key.now x c.args.ttl) (reply_of c.inc_in-answer.result) in
    let x = c.cast_signed-step.result in
    let is_x : to_z w64 (of_z w64 x) ≡ to_z w64 n = ap (λ z. to_z w64 (of_z w64 z)) c.cast_signed-step.ensures ∙ ap (λ k. to_z w64 k) (of_z-to_z w64 n c.ranges.step.fits) in
    record {
      reply = reply_of c.inc_in-answer.result;
      done = subst Done is_x (done_begun c.begin.ensures.begun c.inc_in-answer.ensures.does);
      told = c.counted.ensures (cache_words new);
    }

pub inc_in-answer-requires-clause-slot : goal.inc_in-answer-requires-clause-slot
inc_in-answer-requires-clause-slot c = c.requires.slot ∙ ap (λ (x : Core). slot_of x.conf c.args.key.now) (sym c.begin.ensures.begun.core)
