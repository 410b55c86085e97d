use Rattle.std.proofs.Common.{ap, ◌∙◌}
use Rattle.apcu_model.specs.Cache.{Cache}
use Rattle.apcu_model.specs.Expiry.{live_row}
use Rattle.apcu_model.specs.Lookups.{looked_up}
use Rattle.plain_cache.proofs.plain.Plain.count_fetch.Goals as goal

pub invariant_of-self : goal.invariant_of-self
invariant_of-self c = c.count_fetch.ensures.valid

pub returns : goal.returns
returns c =
    c.count_fetch.ensures.cache
    ∙ ap (λ (m : Cache). looked_up c.args.key.now c.args.t (live_row c.args.key.now c.args.t m) m) c.self.view_is
