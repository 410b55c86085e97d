use Rattle.std.proofs.Common.{◌≡◌, ap, sym, ◌∙◌, arith}
use Rattle.std.proofs.lemmas.Grind.{common_steps}
use Rattle.pin_table.specs.declared.views.Known.{Known}
use Rattle.pin_table.specs.declared.views.WriterState.{WriterState}
use Rattle.pin_table.specs.Values.{WriterView}
use Rattle.pin_table.specs.Views.{state_of, in_hand}
use Rattle.pin_table.proofs.RuleSteps as ruled
use Rattle.pin_table.proofs.table.PinTable.give.Goals as goal

pub split_seat-own-requires : goal.split_seat-own-requires
split_seat-own-requires g c =
    let d : state_of c.seat.inside.seat.me.0 ≡ c.args.seat.now.state = ap (λ (w : WriterView). w.state) c.seat.view_is in
    let e : (state_of c.seat.inside.seat.me.0).log.hand ≡ c.args.seat.now.state.log.hand = ap (λ (v : WriterState). v.log.hand) d in
    let p : Known = in_hand c.args.seat.now.state.log.hand in (
      ap (λ (w : WriterView). w.table) c.seat.view_is ∙ (c.requires.table ∙ sym c.self.view_is),
      c.self.invariant.0,
      rw (c.seat.invariant.0, ap (λ m. m.0) c.seat.invariant.1) (ruled.gives (state_of c.seat.inside.seat.me.0) g.Q.Saying.event p (e ∙ c.requires.hand) (c.requires.event ∙ sym c.requires.worker) (omega (arith, c.requires.left))),
    )

pub invariant_of-result : goal.invariant_of-result
invariant_of-result g c = grind (arith, common_steps)

pub returns-clause-state : goal.returns-clause-state
returns-clause-state g c = grind (arith, common_steps)

pub returns-clause-known : goal.returns-clause-known
returns-clause-known g c = grind (arith, common_steps)
