use Rattle.std.proofs.Common.{◌≡◌, ◌<◌, [], length, map, drop}
use Rattle.apcu_model.specs.declared.request.Request.TheVariants.{Fetch}
use Rattle.reply_text.specs.Replies.{all_noted, value_in}
use Rattle.worker_play.specs.Goes.{KnowsOwnEvents}
use Rattle.worker_play.specs.Turns.{asks_at}
use Rattle.worker_play.proofs.PassProgress.{Midway}
use Rattle.worker_play.proofs.calls.fetch_all.Given as goal

abbrev pub invariant-loop-key : goal.invariant-loop-key
invariant-loop-key g l =
    let rest = drop l.key-index l.keys in
    record {
      table : l.held.table ≡ g.N.TableName.table;
      whole : KnowsOwnEvents l.held;
      left : length rest < l.held.known.left;
      midway : Midway g.N.TableName.conf (length g.N.TableName.budgets) l.fn.pass l.held (asks_at l.when.t (map Fetch l.keys)) (asks_at l.when.t (map Fetch rest)) (all_noted value_in [] l.keys) (all_noted value_in l.values rest);
    }
