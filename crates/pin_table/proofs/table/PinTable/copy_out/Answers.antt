use Rattle.std.proofs.Common.{◌≡◌, ℕ, ◌+◌, ◌-◌, ◌<◌, List, [], length, drop, slice_index, slice_set, refl, ap, sym, ◌∙◌, subst, arith}
use Rattle.std.proofs.lemmas.List.{length-set, length-take, length-drop}
use Rattle.seg_words.specs.Blocks.{image_place}
use mathlib.Core.Option.{some}
use lib.ListN.{get_elem?}
use Rattle.atomic_table.specs.Seated.{TableId}
use Rattle.pin_table.specs.declared.views.Known.{Known}
use Rattle.pin_table.specs.declared.views.WriterState.{WriterState}
use Rattle.pin_table.specs.declared.views.Reader.{Reader}
use Rattle.pin_table.specs.declared.views.View.{View}
use Rattle.pin_table.specs.declared.views.View.TheVariants.{Writer, Copying}
use Rattle.pin_table.specs.Values.{WriterView}
use Rattle.pin_table.specs.Pins.{IsBlock, MeetsNone, AreApart}
use Rattle.pin_table.specs.Views.{state_of, copying_reader, in_hand, pinning_at, copied, reader_after, on_state}
use Rattle.pin_table.proofs.WindowLists.{named_there}
use Rattle.pin_table.proofs.RuleSteps as ruled
use Rattle.pin_table.proofs.table.PinTable.copy_out.Goals as goal

abbrev CanPin : WriterState → ℕ → Type 0
CanPin v i = (v.pinning ≡ 0) × (i + 11 < length v.words) × IsBlock v.words i × ((j b : ℕ) → get_elem? v.windows j ≡ some b → 0 < b → AreApart v.words i b)

can_pin : (v w : WriterState) (i : ℕ) → w ≡ v → w.pinning ≡ 0 → IsBlock v.words i → MeetsNone v.words v.windows i → CanPin w i
can_pin v w i e nothing stands clear = subst (λ u. CanPin u i) (sym e) (ap (λ (x : WriterState). x.pinning) (sym e) ∙ nothing, omega (arith, stands.inside), stands, (λ j b h pos. clear b (named_there v.windows j b h pos)))

pub fetch_add-requires : goal.fetch_add-requires
fetch_add-requires g c =
    let d : state_of c.seat.inside.seat.me.0 ≡ c.args.seat.now.state = ap (λ (w : WriterView). w.state) c.seat.view_is in
    let t : c.seat.inside.seat.table_id ≡ c.self.inside.table.shared.table_id = ap (λ (w : WriterView). w.table) c.seat.view_is ∙ (c.requires.table ∙ sym c.self.view_is) in
    let can : CanPin (state_of c.seat.inside.seat.me.0) c.args.block = can_pin c.args.seat.now.state (state_of c.seat.inside.seat.me.0) c.args.block d c.seat.invariant.6 c.requires.block c.requires.apart in (
      t,
      omega (arith, can.1, c.seat.invariant.2, ap (λ (z : TableId). z.words) t),
      rw (c.seat.invariant.0, c.seat.invariant.1) (ruled.pins _ (state_of c.seat.inside.seat.me.0) c.args.block can.0 can.1 can.2 can.3),
    )

pub split_seat-own-requires : goal.split_seat-own-requires
split_seat-own-requires g c =
    let d : state_of c.seat.inside.seat.me.0 ≡ c.args.seat.now.state = ap (λ (w : WriterView). w.state) c.seat.view_is in
    let t : c.seat.inside.seat.table_id ≡ c.self.inside.table.shared.table_id = ap (λ (w : WriterView). w.table) c.seat.view_is ∙ (c.requires.table ∙ sym c.self.view_is) in
    let e : (state_of c.seat.inside.seat.me.0).log.hand ≡ c.args.seat.now.state.log.hand = ap (λ (v : WriterState). v.log.hand) d in
    let p : Known = in_hand c.args.seat.now.state.log.hand in
    let back : c.args.block + 11 - 11 ≡ c.args.block = omega arith in (
      c.fetch_add.ensures.0 ∙ t,
      c.self.invariant.0,
      rw (c.fetch_add.ensures.1, c.fetch_add.ensures.2, back, c.seat.invariant.0)
          (ruled.copies_out (pinning_at (state_of c.seat.inside.seat.me.0) c.args.block) g.Q.Saying.event p (e ∙ c.requires.hand) (c.requires.event ∙ sym c.requires.worker) c.requires.fetch (omega (arith, c.requires.left)) c.requires.block.positive),
    )

-- the writer is one still, after the pin and after the event
pinned : {A : Type 0} (l : List A) (now : View × List A) (d : WriterState) → now ≡ (Writer d, l) → l ≡ [] → now ≡ (Writer d, [])
pinned {A = A} l now d is none = is ∙ ap (λ (k : List A). (Writer d, k)) none

writes : {A : Type 0} (f : WriterState → WriterState) (was now : View × List A) (d : WriterState) → now ≡ (on_state f was.0, was.1) → was ≡ (Writer d, []) → now ≡ (Writer (state_of now.0), [])
writes f was now d is before = rw (is, before) refl

-- the new pass copies
copies : {A : Type 0} (now : View × List A) (r : Reader) → now ≡ (Copying r, []) → now ≡ (Copying (copying_reader now.0), [])
copies now r is = rw is refl

pub invariant_of-seat : goal.invariant_of-seat
invariant_of-seat g c =
    let d : state_of c.seat.inside.seat.me.0 ≡ c.args.seat.now.state = ap (λ (w : WriterView). w.state) c.seat.view_is in
    let back : c.args.block + 11 - 11 ≡ c.args.block = omega arith in
    let pin = pinned _ c.fetch_add.new.seat.me _ c.fetch_add.ensures.2 (ap (λ m. m.1) c.seat.invariant.1) in
    let made : state_of c.split_seat-own.new.seat.me.0 ≡ copied (pinning_at (state_of c.seat.inside.seat.me.0) c.args.block) g.Q.Saying.event =
    ap (λ m. state_of m.0) c.split_seat-own.ensures.2 ∙ ap (λ m. state_of (on_state (λ v. copied v g.Q.Saying.event) m.0)) c.fetch_add.ensures.2
    ∙ ap (λ (at : ℕ). copied (pinning_at (state_of c.seat.inside.seat.me.0) at) g.Q.Saying.event) back in
    let worker : (in_hand (state_of c.seat.inside.seat.me.0).log.hand).worker ≡ c.args.worker = ap (λ (v : WriterState). (in_hand v.log.hand).worker) d ∙ c.requires.worker in (
      c.split_seat-own.ensures.1 ∙ c.fetch_add.ensures.1 ∙ c.seat.invariant.0,
      writes (λ v. copied v g.Q.Saying.event) c.fetch_add.new.seat.me c.split_seat-own.new.seat.me _ c.split_seat-own.ensures.2 pin,
      ap (λ (v : WriterState). length v.words) made ∙ c.seat.invariant.2 ∙ ap (λ (z : TableId). z.words) (sym (c.split_seat-own.ensures.0 ∙ c.fetch_add.ensures.0)),
      c.set_window.ensures ∙ ap (λ (ws : List ℕ). slice_set ws c.args.worker c.args.block) c.seat.invariant.3
          ∙ ap (λ (w : ℕ). slice_set (state_of c.seat.inside.seat.me.0).windows w c.args.block) (sym worker) ∙ sym (ap (λ (v : WriterState). v.windows) made),
      omega (arith, ap (λ (ws : List ℕ). length ws) c.set_window.ensures, length-set c.seat.inside.windows.items c.args.worker c.args.block, c.seat.invariant.4),
      sym (ap (λ (v : WriterState). v.mask) made),
      ap (λ (v : WriterState). v.pinning) made,
    )

pub invariant_of-result : goal.invariant_of-result
invariant_of-result g c =
    let d : state_of c.seat.inside.seat.me.0 ≡ c.args.seat.now.state = ap (λ (w : WriterView). w.state) c.seat.view_is in
    let back : c.args.block + 11 - 11 ≡ c.args.block = omega arith in
    let made : copying_reader c.split_seat-own.result.me.0 ≡ reader_after (pinning_at c.args.seat.now.state c.args.block) g.Q.Saying.event =
    ap (λ m. copying_reader m.0) c.split_seat-own.ensures.4 ∙ ap (λ m. reader_after (state_of m.0) g.Q.Saying.event) c.fetch_add.ensures.2
    ∙ ap (λ (at : ℕ). reader_after (pinning_at (state_of c.seat.inside.seat.me.0) at) g.Q.Saying.event) back
    ∙ ap (λ (v : WriterState). reader_after (pinning_at v c.args.block) g.Q.Saying.event) d in
    let words : List ℕ = c.args.seat.now.state.words in
    let first = image_place words c.args.block in
    let long = length-take (slice_index words (c.args.block + 3)) (drop first words) in
    let rest = length-drop first words in
    let content = ap (λ (r : Reader). length r.content) made in
    let count : length words ≡ c.split_seat-own.result.table_id.words = ap (λ (v : WriterState). length v.words) (sym d) ∙ c.seat.invariant.2 ∙ ap (λ (z : TableId). z.words) (sym (c.split_seat-own.ensures.3 ∙ c.fetch_add.ensures.0)) in (
      copies c.split_seat-own.result.me _ c.split_seat-own.ensures.4,
      sym (ap (λ (r : Reader). r.known.worker) made ∙ c.requires.worker),
      omega (arith, ap (λ (r : Reader). r.known.left) made, c.requires.left),
      sym (ap (λ (r : Reader). r.block) made),
      omega (arith, content, long, rest, count, c.requires.first, c.requires.block.inside),
      omega (arith, c.requires.first),
      omega (arith, content, long, rest, c.requires.len, c.requires.block.inside),
      c.requires.first ∙ sym (ap (λ (r : Reader). r.first) made),
    )

pub returns-clause-state : goal.returns-clause-state
returns-clause-state g c =
    let d : state_of c.seat.inside.seat.me.0 ≡ c.args.seat.now.state = ap (λ (w : WriterView). w.state) c.seat.view_is in
    let back : c.args.block + 11 - 11 ≡ c.args.block = omega arith in
    ap (λ m. state_of m.0) c.split_seat-own.ensures.2 ∙ ap (λ m. state_of (on_state (λ v. copied v g.Q.Saying.event) m.0)) c.fetch_add.ensures.2
    ∙ ap (λ (at : ℕ). copied (pinning_at (state_of c.seat.inside.seat.me.0) at) g.Q.Saying.event) back
    ∙ ap (λ (v : WriterState). copied (pinning_at v c.args.block) g.Q.Saying.event) d

pub returns-clause-copy : goal.returns-clause-copy
returns-clause-copy g c =
    let d : state_of c.seat.inside.seat.me.0 ≡ c.args.seat.now.state = ap (λ (w : WriterView). w.state) c.seat.view_is in
    let back : c.args.block + 11 - 11 ≡ c.args.block = omega arith in
    ap (λ m. copying_reader m.0) c.split_seat-own.ensures.4 ∙ ap (λ m. reader_after (state_of m.0) g.Q.Saying.event) c.fetch_add.ensures.2
    ∙ ap (λ (at : ℕ). reader_after (pinning_at (state_of c.seat.inside.seat.me.0) at) g.Q.Saying.event) back
    ∙ ap (λ (v : WriterState). reader_after (pinning_at v c.args.block) g.Q.Saying.event) d
