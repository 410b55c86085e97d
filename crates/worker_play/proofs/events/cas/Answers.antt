use Rattle.std.proofs.Common.{w64, to_z, of_z, ap, ap₂, ◌∙◌}
use Rattle.std.proofs.lemmas.Int.{to_z-of_z}
use Rattle.apcu_model.specs.declared.request.Request.TheVariants as request
use Rattle.worker_play.proofs.PassProgress.{one}
use Rattle.worker_play.proofs.events.cas.Goals as goal

pub returns : goal.returns
returns g c =
    one (record { more = c.one_event_own.ensures.more; others = c.one_event_own.ensures.others }) _ _ _ _ _ _ _ _ c.cas.ensures c.requires.whole
    (ap₂ (λ k e. request.Cas k e (to_z w64 (of_z w64 c.args.set))) c.as_slice.ensures.bytes (to_z-of_z w64 c.args.expect c.ranges.expect)
    ∙ ap (λ s. request.Cas c.args.key.now c.args.expect s) (to_z-of_z w64 c.args.set c.ranges.set))
