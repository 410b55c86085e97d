use Rattle.std.proofs.Common.{◌≡◌, ℕ, [], ◌∷◌, ◌++◌, None, Some, sym, subst}
use Rattle.std.specs.List.{last_or}
use Rattle.pin_table.specs.declared.views.Known.{Known}
use Rattle.pin_table.specs.declared.views.EventLog.{EventLog}
use Rattle.pin_table.specs.Views.{in_hand}
use Rattle.apcu_model.specs.declared.request.Request.TheVariants as request
use Rattle.pin_table.specs.Events.{event, HasRetired}
use Rattle.pin_table.specs.Views.{known_after}
use Rattle.pin_table.proofs.EventLogs.{last_after}
use Rattle.pin_table.proofs.writer.Writer.give_ended.Goals as goal

-- the end is its last event
ends : (b : EventLog) (w mask : ℕ) (q : Known) → (in_hand b.hand).worker ≡ w → q ≡ known_after b (event w 0 request.Retire mask) → HasRetired q.worker q.own
ends b w mask q same is =
    subst (λ (k : Known). HasRetired k.worker k.own) (sym is)
    (mask, subst (λ v. last_or None ((in_hand b.hand).own ++ event w 0 request.Retire mask ∷ []) ≡ Some (event v 0 request.Retire mask)) (sym same) (last_after None (in_hand b.hand).own (event w 0 request.Retire mask)))

pub of-requires : goal.of-requires
of-requires c = ends c.args.self.seat.now.state.log c.args.self.worker _ c.give_pass.result.known c.requires.worker c.give_pass.ensures.known
