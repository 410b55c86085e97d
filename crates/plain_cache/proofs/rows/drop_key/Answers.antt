use Rattle.std.proofs.Common.{rules, not}
use Rattle.std.proofs.lemmas.Fn.{filter_same}
use Rattle.apcu_model.specs.Cache.{has_key}
use Rattle.plain_cache.proofs.rows.drop_key.Goals as goal

pub returns : goal.returns
returns c = filter_same _ (λ row. not (has_key c.args.key.now row)) _ (λ x b g k. search rules) _ _ c.retain.ensures.filtered
