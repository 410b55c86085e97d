use Rattle.std.proofs.Common.{◌≡◌, ◌-◌, ◌<◌, ◌++◌, length}
use Rattle.apcu_model.specs.declared.request.Request.TheVariants as request
use Rattle.apcu_model.specs.declared.searching.List.TheVariants.{Active}
use Rattle.worker_play.specs.Goes.{KnowsOwnEvents}
use Rattle.worker_play.specs.Turns.{steps_at}
use Rattle.worker_play.proofs.PassProgress.{Midway}
use Rattle.worker_play.proofs.walks.walk_active.Given as goal

abbrev pub invariant-walking : goal.invariant-walking
invariant-walking g l = record {
  table : l.held.table ≡ g.N.TableName.table;
  whole : KnowsOwnEvents l.held;
  left : l.context.slots - l.from < l.held.known.left;
  search : l.search ≡ l.fn.search;
  midway : Midway g.N.TableName.conf (length g.N.TableName.budgets) l.fn.pass l.held (steps_at l.when.t l.context.slots (λ from. request.Chunk l.fn.search from l.size Active l.fields) 0) (steps_at l.when.t l.context.slots (λ from. request.Chunk l.fn.search from l.size Active l.fields) l.from)
      (λ replies. replies) (λ later. l.steps.items ++ later);
}

abbrev pub decreases-walking : goal.decreases-walking
decreases-walking g l = l.context.slots - l.from
