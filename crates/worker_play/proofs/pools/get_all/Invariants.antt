use Rattle.std.proofs.Common.{◌≡◌, ◌<◌, true, [], length, map, drop}
use Rattle.apcu_model.specs.declared.request.Request.TheVariants.{Fetch}
use Rattle.simple_pool.specs.Names.{pool_key}
use Rattle.simple_pool.specs.Requests.{are_good_keys}
use Rattle.reply_text.specs.PoolReplies.{got_in}
use Rattle.reply_text.specs.Replies.{all_noted}
use Rattle.worker_play.specs.Goes.{KnowsOwnEvents}
use Rattle.worker_play.specs.Pools.{answers_noted}
use Rattle.worker_play.specs.Turns.{asks_at}
use Rattle.worker_play.proofs.PassProgress.{Midway}
use Rattle.worker_play.proofs.pools.get_all.Given as goal

abbrev pub invariant-loop-key : goal.invariant-loop-key
invariant-loop-key g l =
    let rest = drop l.key-index l.keys in
    record {
      table : l.held.table ≡ g.N.TableName.table;
      whole : KnowsOwnEvents l.held;
      left : length rest < l.held.known.left;
      good : are_good_keys rest ≡ true;
      midway : Midway g.N.TableName.conf (length g.N.TableName.budgets) l.fn.pass l.held (asks_at l.when.t (map (λ key. Fetch (pool_key l.pool key)) l.keys)) (asks_at l.when.t (map (λ key. Fetch (pool_key l.pool key)) rest))
          (all_noted (got_in l.default) [] l.keys) (all_noted (got_in l.default) (answers_noted l.answers) rest);
    }
