use Rattle.std.proofs.Common.{◌≡◌, ◌<◌, ◌++◌, length, map, drop}
use Rattle.apcu_model.specs.declared.request.Request.TheVariants.{Delete}
use Rattle.reply_text.specs.Replies.{undone}
use Rattle.worker_play.specs.Goes.{KnowsOwnEvents}
use Rattle.worker_play.specs.Turns.{asks_at}
use Rattle.worker_play.proofs.PassProgress.{Midway}
use Rattle.worker_play.proofs.calls.delete_all.Given as goal

abbrev pub invariant-loop-key : goal.invariant-loop-key
invariant-loop-key g l =
    let rest = drop l.key-index l.keys in
    record {
      table : l.held.table ≡ g.N.TableName.table;
      whole : KnowsOwnEvents l.held;
      left : length rest < l.held.known.left;
      midway : Midway g.N.TableName.conf (length g.N.TableName.budgets) l.fn.pass l.held (asks_at l.t (map Delete l.keys)) (asks_at l.t (map Delete rest)) (undone l.keys) (λ later. map (λ key. key.now) l.kept.items ++ undone rest later);
    }
