use Rattle.std.proofs.Common.{◌≡◌, subst}
use Rattle.std.specs.Prelude.{MatchOption}
use Rattle.apcu_model.specs.declared.request.Reply.TheVariants.{Absent, Found}
use Rattle.apcu_model.specs.Cache.{Cache}
use Rattle.apcu_model.specs.Expiry.{live_row}
use Rattle.apcu_model.specs.Sequential.{found_in}
use Rattle.plain_cache.proofs.plain.Plain.live_value.Goals as goal

pub returns : goal.returns
returns c =
    subst
    (λ (m : Cache). MatchOption c.live_value.result (found_in (live_row c.args.key.now c.args.t m) ≡ Absent) (λ g. found_in (live_row c.args.key.now c.args.t m) ≡ Found g.now))
    c.self.view_is
    c.live_value.ensures
