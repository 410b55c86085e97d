use Rattle.std.proofs.Common.{◌≡◌, ◌<◌, true, length, map, drop}
use Rattle.std.specs.Prelude.{◌&&◌}
use Rattle.std.specs.List.{list_all}
use Rattle.simple_pool.specs.Requests.{are_good_pairs}
use Rattle.worker_play.specs.Goes.{KnowsOwnEvents}
use Rattle.worker_play.specs.Pools.{put_of, put_done}
use Rattle.worker_play.specs.Turns.{asks_at}
use Rattle.worker_play.proofs.PassProgress.{Midway}
use Rattle.worker_play.proofs.pools.put_all.Given as goal

abbrev pub invariant-loop-pair : goal.invariant-loop-pair
invariant-loop-pair g l =
    let rest = drop l.pair-index l.pairs in
    record {
      table : l.held.table ≡ g.N.TableName.table;
      whole : KnowsOwnEvents l.held;
      left : length rest < l.held.known.left;
      good : are_good_pairs rest ≡ true;
      midway : Midway g.N.TableName.conf (length g.N.TableName.budgets) l.fn.pass l.held (asks_at l.t (map (put_of l.pool l.life) l.pairs)) (asks_at l.t (map (put_of l.pool l.life) rest))
          (list_all (put_done l.life)) (λ later. l.all && list_all (put_done l.life) later);
    }
