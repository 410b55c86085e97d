use Rattle.std.proofs.Common.{◌≡◌, ◌-◌, ◌<◌, ◌++◌, true, length}
use Rattle.apcu_model.specs.declared.request.Request.TheVariants as request
use Rattle.reply_text.specs.Replies.{flag_text}
use Rattle.worker_play.specs.Goes.{KnowsOwnEvents}
use Rattle.worker_play.specs.Turns.{steps_at}
use Rattle.worker_play.proofs.PassProgress.{Midway}
use Rattle.worker_play.proofs.walks.delete_found.Given as goal

abbrev pub invariant-deleting : goal.invariant-deleting
invariant-deleting g l = record {
  table : l.held.table ≡ g.N.TableName.table;
  whole : KnowsOwnEvents l.held;
  left : l.context.slots - l.from < l.held.known.left;
  search : l.search ≡ l.fn.search;
  midway : Midway g.N.TableName.conf (length g.N.TableName.budgets) l.fn.pass l.held (steps_at l.when.t l.context.slots (λ from. request.ChunkDelete l.fn.search from l.size) 0) (steps_at l.when.t l.context.slots (λ from. request.ChunkDelete l.fn.search from l.size) l.from)
      (λ replies. l.fn.out ++ flag_text true) (λ later. l.fn.out ++ flag_text true);
}

abbrev pub decreases-deleting : goal.decreases-deleting
decreases-deleting g l = l.context.slots - l.from
