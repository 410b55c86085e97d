use Rattle.std.proofs.Common.{ap, ◌∙◌}
use Rattle.std.specs.Prelude.{is_some}
use Rattle.apcu_model.specs.declared.request.Reply.TheVariants.{Flag}
use Rattle.apcu_model.specs.Cache.{Cache}
use Rattle.apcu_model.specs.Expiry.{live_row}
use Rattle.plain_cache.proofs.plain.Plain.exists.Goals as goal

pub returns : goal.returns
returns c = ap Flag (c.is_live.ensures ∙ ap (λ (m : Cache). is_some (live_row c.args.key.now c.args.t m)) c.self.view_is)
