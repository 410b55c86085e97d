use Rattle.std.proofs.Common.{◌≡◌, ◌≢◌, ◌==◌, ℕ, Bool, cond, ◌+◌, ◌-◌, true, false, List, [], length, refl, ap, ap₂, sym, ◌∙◌, subst, arith}
use Rattle.std.specs.Prelude.{MatchBool, bit_or}
use Rattle.std.proofs.lemmas.Bool.{ne_eqb}
use Rattle.atomic_table.specs.Seated.{TableId}
use Rattle.seg_words.specs.Windows.{has, is_named, held_by, closed_on, holders}
use Rattle.seg_words.specs.Blocks.{MayProbe}
use Rattle.pin_table.specs.declared.views.WriterState.{WriterState}
use Rattle.pin_table.specs.declared.views.View.{View}
use Rattle.pin_table.specs.declared.views.View.TheVariants.{Writer}
use Rattle.pin_table.specs.Values.{WriterView}
use Rattle.pin_table.specs.Pins.{refused_in}
use Rattle.pin_table.specs.Views.{state_of, probed, freed, met}
use Rattle.pin_table.proofs.WindowLists.{length-closed}
use Rattle.pin_table.proofs.RuleSteps as ruled
use Rattle.pin_table.proofs.table.PinTable.probe.Goals as goal

pub load-found-requires : goal.load-found-requires
load-found-requires c =
    let d : state_of c.seat.inside.seat.me.0 ≡ c.args.seat.now.state = ap (λ (w : WriterView). w.state) c.seat.view_is in
    let t : c.seat.inside.seat.table_id ≡ c.self.inside.table.shared.table_id = ap (λ (w : WriterView). w.table) c.seat.view_is ∙ (c.requires.table ∙ sym c.self.view_is) in
    let may : MayProbe (state_of c.seat.inside.seat.me.0).words (state_of c.seat.inside.seat.me.0).windows c.args.at = subst (λ (v : WriterState). MayProbe v.words v.windows c.args.at) (sym d) c.requires.block in (
      t,
      omega (arith, may.inside, c.seat.invariant.2, ap (λ (z : TableId). z.words) t),
      rw (c.seat.invariant.0, c.seat.invariant.1)
          (ruled.probes _ (state_of c.seat.inside.seat.me.0) c.args.at may (ap (λ (v : WriterState). has c.args.at (refused_in v.readings)) d ∙ c.requires.unrefused) c.seat.invariant.6),
    )

-- the writer is one still
stays : {A : Type 0} (l : List A) (now : View × List A) (d : WriterState) → now ≡ (Writer d, l) → l ≡ [] → now ≡ (Writer (state_of now.0), [])
stays l now d is none = rw (is, none) refl

met_there : (d : WriterState) (at n : ℕ) → n ≢ 0 → probed d at n ≡ met d at n
met_there d at n some = ap (λ (b : Bool). cond b (freed d at) (met d at n)) (ne_eqb n 0 some)

pub invariant_of-seat : goal.invariant_of-seat
invariant_of-seat c =
    let back : c.args.at + 11 - 11 ≡ c.args.at = omega arith in
    let made : state_of c.load-found.new.seat.me.0 ≡ probed (state_of c.seat.inside.seat.me.0) c.args.at c.load-found.result =
    ap (λ m. state_of m.0) c.load-found.ensures.2.0 ∙ ap (λ (k : ℕ). probed (state_of c.seat.inside.seat.me.0) k c.load-found.result) back in
    let free : state_of c.load-found.new.seat.me.0 ≡ freed (state_of c.seat.inside.seat.me.0) c.args.at = made ∙ ap (λ (n : ℕ). probed (state_of c.seat.inside.seat.me.0) c.args.at n) c.if-found-eq0.true in (
      c.load-found.ensures.1 ∙ c.seat.invariant.0,
      stays _ c.load-found.new.seat.me _ c.load-found.ensures.2.0 (ap (λ m. m.1) c.seat.invariant.1),
      ap (λ (v : WriterState). length v.words) free ∙ c.seat.invariant.2 ∙ ap (λ (z : TableId). z.words) (sym c.load-found.ensures.0),
      c.close_windows.ensures ∙ ap (λ (ws : List ℕ). closed_on c.args.at ws) c.seat.invariant.3 ∙ sym (ap (λ (v : WriterState). v.windows) free),
      omega (arith, ap (λ (ws : List ℕ). length ws) c.close_windows.ensures, length-closed c.args.at c.seat.inside.windows.items, c.seat.invariant.4),
      c.seat.invariant.5 ∙ sym (ap (λ (v : WriterState). v.mask) free),
      ap (λ (v : WriterState). v.pinning) free ∙ c.seat.invariant.6,
    )

pub invariant_of-seat-else-found-eq0 : goal.invariant_of-seat-else-found-eq0
invariant_of-seat-else-found-eq0 c =
    let back : c.args.at + 11 - 11 ≡ c.args.at = omega arith in
    let made : state_of c.load-found.new.seat.me.0 ≡ probed (state_of c.seat.inside.seat.me.0) c.args.at c.load-found.result =
    ap (λ m. state_of m.0) c.load-found.ensures.2.0 ∙ ap (λ (k : ℕ). probed (state_of c.seat.inside.seat.me.0) k c.load-found.result) back in
    let found : state_of c.load-found.new.seat.me.0 ≡ met (state_of c.seat.inside.seat.me.0) c.args.at c.load-found.result = made ∙ met_there (state_of c.seat.inside.seat.me.0) c.args.at c.load-found.result c.if-found-eq0.false in (
      c.load-found.ensures.1 ∙ c.seat.invariant.0,
      stays _ c.load-found.new.seat.me _ c.load-found.ensures.2.0 (ap (λ m. m.1) c.seat.invariant.1),
      ap (λ (v : WriterState). length v.words) found ∙ c.seat.invariant.2 ∙ ap (λ (z : TableId). z.words) (sym c.load-found.ensures.0),
      c.seat.invariant.3 ∙ sym (ap (λ (v : WriterState). v.windows) found),
      c.seat.invariant.4,
      ap₂ bit_or c.seat.invariant.5 (c.holders.ensures ∙ ap (λ (ws : List ℕ). holders ws c.args.at) (c.as_slice.ensures.value ∙ c.seat.invariant.3)) ∙ sym (ap (λ (v : WriterState). v.mask) found),
      ap (λ (v : WriterState). v.pinning) found ∙ c.seat.invariant.6,
    )

pub returns-then-found-eq0-clause-state : goal.returns-then-found-eq0-clause-state
returns-then-found-eq0-clause-state c =
    let d : state_of c.seat.inside.seat.me.0 ≡ c.args.seat.now.state = ap (λ (w : WriterView). w.state) c.seat.view_is in
    let back : c.args.at + 11 - 11 ≡ c.args.at = omega arith in
    ap (λ m. state_of m.0) c.load-found.ensures.2.0 ∙ ap (λ (k : ℕ). probed (state_of c.seat.inside.seat.me.0) k c.load-found.result) back
    ∙ ap (λ (v : WriterState). probed v c.args.at c.load-found.result) d

pub returns-then-found-eq0-clause-met : goal.returns-then-found-eq0-clause-met
returns-then-found-eq0-clause-met c =
    let d : state_of c.seat.inside.seat.me.0 ≡ c.args.seat.now.state = ap (λ (w : WriterView). w.state) c.seat.view_is in
    let back : c.args.at + 11 - 11 ≡ c.args.at = omega arith in
    subst (λ (v : WriterState). MatchBool (c.load-found.result == 0) (has c.args.at (held_by v.mask v.windows) ≡ false) (is_named v.windows c.args.at ≡ true)) d
    (subst (λ (k : ℕ). MatchBool (c.load-found.result == 0) (has k (held_by (state_of c.seat.inside.seat.me.0).mask (state_of c.seat.inside.seat.me.0).windows) ≡ false) (is_named (state_of c.seat.inside.seat.me.0).windows k ≡ true)) back c.load-found.ensures.2.1)

pub returns-else-found-eq0-clause-state : goal.returns-else-found-eq0-clause-state
returns-else-found-eq0-clause-state c =
    let d : state_of c.seat.inside.seat.me.0 ≡ c.args.seat.now.state = ap (λ (w : WriterView). w.state) c.seat.view_is in
    let back : c.args.at + 11 - 11 ≡ c.args.at = omega arith in
    ap (λ m. state_of m.0) c.load-found.ensures.2.0 ∙ ap (λ (k : ℕ). probed (state_of c.seat.inside.seat.me.0) k c.load-found.result) back
    ∙ ap (λ (v : WriterState). probed v c.args.at c.load-found.result) d

pub returns-else-found-eq0-clause-met : goal.returns-else-found-eq0-clause-met
returns-else-found-eq0-clause-met c =
    let d : state_of c.seat.inside.seat.me.0 ≡ c.args.seat.now.state = ap (λ (w : WriterView). w.state) c.seat.view_is in
    let back : c.args.at + 11 - 11 ≡ c.args.at = omega arith in
    subst (λ (v : WriterState). MatchBool (c.load-found.result == 0) (has c.args.at (held_by v.mask v.windows) ≡ false) (is_named v.windows c.args.at ≡ true)) d
    (subst (λ (k : ℕ). MatchBool (c.load-found.result == 0) (has k (held_by (state_of c.seat.inside.seat.me.0).mask (state_of c.seat.inside.seat.me.0).windows) ≡ false) (is_named (state_of c.seat.inside.seat.me.0).windows k ≡ true)) back c.load-found.ensures.2.1)
