use Rattle.std.proofs.Common.{◌+◌, ℕ, ℤ, List, length, sym, ap₂, subst, ◌∙◌, arith, rules, w64}
use Rattle.std.specs.Prelude.{slice_set}
use Rattle.std.specs.Int.RustNames.{FitsSigned}
use Rattle.std.proofs.lemmas.Int.{to_z-of_z}
use Rattle.worker_play.proofs.PassProgress.{OwnLaws}
use Rattle.worker_play.proofs.CounterLooks.{Looked, none_looked, one_looked, all_looked}
use Rattle.worker_play.proofs.looks.observe.Goals as goal

pub loop-number-init : goal.loop-number-init
loop-number-init g c = record {
  table = c.requires.table;
  whole = c.requires.whole;
  left = omega (arith, c.requires.left);
  looked = none_looked g.N.TableName.conf (length g.N.TableName.budgets) c.args.pass c.requires.whole;
}

pub loop-number-preserved : goal.loop-number-preserved
loop-number-preserved g c =
    let conf = g.N.TableName.conf in
    let workers = length g.N.TableName.budgets in
    let i = c.loop-number.invariant in
    let look = c.look_at-next.ensures in
    let value = c.look_at-next.result.1 in
    let fits : FitsSigned w64 value = search rules in
    let set = ap₂ (λ (k : ℕ) (v : ℤ). slice_set c.loop-number.counters k v) c.from.ensures (to_z-of_z w64 value fits) in
    let looked = one_looked conf workers c.args.pass c.loop-number.held c.look_at-next.result.0 c.loop-number.number c.loop-number.counters look.0 value (omega (arith, c.loop-number-test.true)) i.looked look.1 look.2 in
    record {
      table = look.1.table ∙ i.table;
      whole = look.1.all_own;
      left = omega (arith, i.left, look.1.left);
      looked = subst (λ (l : List ℤ). Looked conf workers c.args.pass c.look_at-next.result.0 (c.loop-number.number + 1) l) (sym set) looked;
    }

pub returns : goal.returns
returns g c =
    let laws : OwnLaws = record { more = c.one_event_own.ensures.more; others = c.one_event_own.ensures.others } in
    let i = c.loop-number.invariant in
    all_looked laws g.N.TableName.conf (length g.N.TableName.budgets) c.args.pass c.loop-number.held c.retire.result c.loop-number.number c.loop-number.counters (omega (arith, c.loop-number-test.false)) i.whole i.looked c.retire.ensures
