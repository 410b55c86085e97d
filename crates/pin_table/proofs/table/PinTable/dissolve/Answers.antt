use Rattle.std.proofs.Common.{◌≡◌, ℕ, ◌<◌, true, List, length, ap, sym, ◌∙◌, subst, arith}
use mathlib.Core.Option.{some}
use lib.ListN.{get_elem?}
use Rattle.atomic_table.specs.Seated.{TableId}
use Rattle.pin_table.specs.declared.views.WriterState.{WriterState}
use Rattle.pin_table.specs.Values.{WriterView}
use Rattle.pin_table.specs.Views.{state_of}
use Rattle.pin_table.proofs.RuleSteps as ruled
use Rattle.atomic_table.specs.Table.{Final, Seen}
use Rattle.pin_table.specs.declared.views.View.{View}
use Rattle.pin_table.specs.declared.views.View.TheVariants.{Writer}
use Rattle.pin_table.specs.Views.{has_worker}
use Rattle.pin_table.specs.Rule.{IsRuled}
use Rattle.pin_table.proofs.table.PinTable.dissolve.Goals as goal

-- the words of the last state are those of the writer's view
last : (d : WriterState) (v : View) (id : ℕ) (ws : List ℕ) (xs : List ℕ) → id ≡ 0 → v ≡ Writer d → d.pinning ≡ 0 → ((w : ℕ) → w < d.log.made → has_worker w d.log.closed ≡ true) → Final {S = ℕ} {V = View} (Seen IsRuled id v) ws xs → ws ≡ d.words
last d v id ws xs z is nothing every (s, kept, words, _, _) =
    let at : get_elem? s.views 0 ≡ some (Writer d) = subst (λ k. get_elem? s.views k ≡ some (Writer d)) z (kept.1 ∙ ap some is) in
    sym words ∙ ruled.dissolves s d kept.0 at nothing every

pub returns : goal.returns
returns c =
    let d : state_of c.seat.inside.seat.me.0 ≡ c.args.seat.state = ap (λ (w : WriterView). w.state) c.seat.view_is in
    let e = last (state_of c.seat.inside.seat.me.0) c.seat.inside.seat.me.0 c.seat.inside.seat.id _ _ c.seat.invariant.0 (ap (λ m. m.0) c.seat.invariant.1) c.seat.invariant.6 (subst (λ (v : WriterState). (w : ℕ) → w < v.log.made → has_worker w v.log.closed ≡ true) (sym d) c.requires.every) c.close_with-closed.ensures.values.2 in
    let r : c.copy_back.new.row.items ≡ c.args.seat.state.words = c.copy_back.ensures ∙ (e ∙ ap (λ (v : WriterState). v.words) d) in
    record { words = r; short = omega (arith, ap length r, ap (λ (v : WriterState). length v.words) d, c.seat.invariant.2, c.self.invariant.1, ap (λ (w : WriterView). w.table.words) c.seat.view_is, ap (λ (z : TableId). z.words) c.requires.table, ap (λ (z : TableId). z.words) c.self.view_is) }
