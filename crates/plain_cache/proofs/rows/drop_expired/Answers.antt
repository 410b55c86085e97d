use Rattle.std.proofs.Common.{rules, not}
use Rattle.std.proofs.lemmas.Fn.{filter_same}
use Rattle.apcu_model.specs.Expiry.{is_expired}
use Rattle.plain_cache.proofs.rows.drop_expired.Goals as goal

pub returns-clause-items : goal.returns-clause-items
returns-clause-items c = filter_same _ (λ row. not (is_expired c.args.conf c.args.t row)) _ (λ x b g k. search rules) _ _ c.retain.ensures.filtered
