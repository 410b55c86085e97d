use Rattle.std.proofs.Common.{arith, w64, to_z, of_z}
use Rattle.std.proofs.lemmas.Grind.{common_steps}
use Rattle.std.proofs.lemmas.List.Edits.{map_over_more}
use Rattle.apcu_model.specs.Counters.{with_integer_at}
use Rattle.plain_cache.proofs.rows.set_in.Goals as goal

pub loop-row-preserved : goal.loop-row-preserved
loop-row-preserved c = grind (arith, common_steps, map_over_more (with_integer_at c.args.key.now (to_z w64 (of_z w64 c.args.n)) c.args.t))
