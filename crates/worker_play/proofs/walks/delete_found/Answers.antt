use Rattle.std.proofs.Common.{ℕ, ◌++◌, true, List, refl, ap, ◌∙◌, arith}
use Rattle.apcu_model.specs.declared.request.Request.{Request}
use Rattle.apcu_model.specs.declared.request.Request.TheVariants as request
use Rattle.apcu_model.specs.declared.request.Reply.TheVariants as reply
use Rattle.reply_text.specs.Replies.{flag_text}
use Rattle.worker_play.proofs.PassProgress.{begins, ends, on_ok, if_ok, of_if_ok}
use Rattle.worker_play.proofs.SeveralKeys.{printed}
use Rattle.worker_play.proofs.Iterators.{iterator_goes_on, iterator_breaks, asked_so, steps_over}
use Rattle.worker_play.proofs.walks.delete_found.Goals as goal

pub deleting-init : goal.deleting-init
deleting-init g c = record {
  table = c.requires.table;
  whole = c.requires.whole;
  left = omega (arith, c.requires.left);
  search = refl;
  midway = begins _ _ _ _ (λ replies. c.args.out.now ++ flag_text true) c.requires.whole;
}

pub deleting-preserved : goal.deleting-preserved
deleting-preserved g c =
    let i = c.deleting.invariant in
    let asked = of_if_ok _ c.chunk_delete-next.result.1 c.in-Ok.end c.in-Ok.is c.chunk_delete-next.ensures.deleted in
    record {
      table = asked.table ∙ i.table;
      whole = asked.all_own;
      left = omega (arith, i.left, asked.left, c.next_slot-from.ensures.up, c.deleting-test.true);
      search = c.chunk_delete-next.ensures.search ∙ i.search;
      midway = iterator_goes_on _ _ _ _ _ _ c.args.when.t c.args.context.now.slots (λ from. request.ChunkDelete c.args.search.now from c.args.size) c.deleting.from _ (reply.Next c.in-Ok.end) (λ replies. c.args.out.now ++ flag_text true) (λ later. c.args.out.now ++ flag_text true) (λ later. c.args.out.now ++ flag_text true) i.midway
          (asked_so _ _ _ _ _ _ _ _ (ap (λ s. request.ChunkDelete s c.deleting.from c.args.size) i.search) asked) c.deleting-test.true c.next_slot-from.ensures.is (λ later. refl);
    }

pub returns-in-Err-clause-reaches : goal.returns-in-Err-clause-reaches
returns-in-Err-clause-reaches g c =
    let i = c.deleting.invariant in
    iterator_breaks _ _ _ _ _ _ c.args.when.t c.args.context.now.slots (λ from. request.ChunkDelete c.args.search.now from c.args.size) c.deleting.from reply.Next (λ replies. c.args.out.now ++ flag_text true) (λ later. c.args.out.now ++ flag_text true) c.chunk_delete-next.result.1 i.midway c.deleting-test.true
    (if_ok c.chunk_delete-next.result.1 (λ next asked. asked_so _ _ _ _ _ _ _ _ (ap (λ s. request.ChunkDelete s c.deleting.from c.args.size) i.search) asked) c.chunk_delete-next.ensures.deleted) c.chunk_delete-next.ensures.same

pub returns-clause-reaches : goal.returns-clause-reaches
returns-clause-reaches g c = c.deleting.invariant.midway.0

pub returns-clause-line : goal.returns-clause-line
returns-clause-line g c =
    let ask : ℕ → Request = λ from. request.ChunkDelete c.args.search.now from c.args.size in
    let t = ends _ _ _ _ _ _ (λ replies. c.args.out.now ++ flag_text true) (λ later. c.args.out.now ++ flag_text true) c.deleting.invariant.midway (steps_over c.args.when.t c.args.context.now.slots ask c.deleting.from c.deleting-test.false) in
    on_ok c.write_flag.result (λ e. printed _ _ _ _ _ _ _ (λ (l : List ℕ). l) _ t e) c.write_flag.ensures
