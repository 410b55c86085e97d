use Rattle.std.proofs.Common.{arith}
use Rattle.std.proofs.lemmas.Grind.{common_steps}
use Rattle.std.proofs.lemmas.List.Edits.{map_over_more}
use Rattle.apcu_model.specs.Rows.{touched_at}
use Rattle.plain_cache.proofs.rows.touch_in.Goals as goal

pub loop-row-preserved : goal.loop-row-preserved
loop-row-preserved c = grind (arith, common_steps, map_over_more (touched_at c.args.key.now c.args.t))
