use Rattle.std.proofs.Common.{◌≡◌, ◌<◌, ◌++◌, length, map, drop}
use Rattle.apcu_model.specs.declared.request.Request.TheVariants.{Store}
use Rattle.reply_text.specs.Replies.{undone}
use Rattle.worker_play.specs.Goes.{KnowsOwnEvents}
use Rattle.worker_play.specs.Turns.{asks_at}
use Rattle.worker_play.proofs.PassProgress.{Midway}
use Rattle.worker_play.proofs.calls.store_all.Given as goal

abbrev pub invariant-loop-pair : goal.invariant-loop-pair
invariant-loop-pair g l =
    let rest = drop l.pair-index l.pairs in
    record {
      table : l.held.table ≡ g.N.TableName.table;
      whole : KnowsOwnEvents l.held;
      left : length rest < l.held.known.left;
      midway : Midway g.N.TableName.conf (length g.N.TableName.budgets) l.fn.pass l.held (asks_at l.t (map (λ pair. Store pair.0 pair.1 l.ttl l.exclusive) l.pairs)) (asks_at l.t (map (λ pair. Store pair.0 pair.1 l.ttl l.exclusive) rest))
          (undone (map (λ pair. pair.0) l.pairs)) (λ later. map (λ key. key.now) l.refused.items ++ undone (map (λ pair. pair.0) rest) later);
    }
