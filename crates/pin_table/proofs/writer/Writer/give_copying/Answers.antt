use Rattle.std.proofs.Common.{◌≡◌, ◌≢◌, ℕ, ◌+◌, ◌<◌, ◌≤◌, true, false, List, length, slice_index, refl, ap, sym, ◌∙◌, subst, arith}
use mathlib.Core.Option.{some}
use lib.ListN.{get_elem?}
use Rattle.seg_words.specs.Windows.{is_named}
use Rattle.seg_words.specs.Blocks.{IsTold}
use Rattle.pin_table.specs.declared.views.WriterState.{WriterState}
use Rattle.pin_table.specs.Values.{WriterView}
use Rattle.pin_table.specs.Order.{StateInOrder}
use Rattle.std.proofs.Common.{Bool}
use Rattle.pin_table.specs.Pins.{MayPin, IsBlock, MeetsNone}
use Rattle.pin_table.proofs.WindowLists.{named_there}
use Rattle.std.proofs.Common.{suc, ◌/◌, ◌⊎◌, ⊎_elim, inl, inr}
use Rattle.seg_words.specs.Blocks.{image_place, image_end}
use Rattle.pin_table.proofs.WindowLists.{told_from, there_named}
use Rattle.pin_table.proofs.writer.Writer.give_copying.Goals as goal

-- the lengths of a block that may be pinned are told
told : (d : WriterState) (at i : ℕ) → MeetsNone d.words d.windows at → (i ≡ at + 2) ⊎ (i ≡ at + 3) → at + 3 < image_end d.words at → IsTold d.windows i
told d at i clear which inside = told_from d.windows i go
  where
    go : (v b : ℕ) → get_elem? d.windows v ≡ some b → 0 < b → i ≢ b + 11
    go v b h pos e =
        let k : (i ≡ at + 2) ⊎ (i ≡ at + 3) = which in
        ⊎_elim
        (λ (q : at ≡ b). ⊎_elim (λ (x : i ≡ at + 2). omega arith) (λ (x : i ≡ at + 3). omega arith) k)
        (λ r. ⊎_elim
        (λ (p : image_end d.words at ≤ b). ⊎_elim (λ (x : i ≡ at + 2). omega arith) (λ (x : i ≡ at + 3). omega arith) k)
        (λ (p : image_end d.words b ≤ at). ⊎_elim (λ (x : i ≡ at + 2). omega arith) (λ (x : i ≡ at + 3). omega arith) k) r)
        (clear b (named_there d.windows v b h pos))

-- what the loads found: the lengths of a block that lies inside the table
pub record Sized (d : WriterState) (at bytes len : ℕ) : Type 0 where
  pub bytes_are : bytes ≡ slice_index d.words (at + 2)
  pub len_is : len ≡ slice_index d.words (at + 3)
  pub place : at + 12 + (bytes + 7) / 8 ≡ image_place d.words at
  pub inside : at + 12 + (bytes + 7) / 8 + len < 4294967296

sized : (d : WriterState) (at bytes len : ℕ) → length d.words < 4294967296 → MayPin d.words d.windows at
    → (IsTold d.windows (at + 2) → bytes ≡ slice_index d.words (at + 2)) → (IsTold d.windows (at + 3) → len ≡ slice_index d.words (at + 3)) → Sized d at bytes len
sized d at bytes len short may b l =
    let wide : at + 3 < image_end d.words at = omega arith in
    let be = b (told d at (at + 2) may.apart (inl refl) wide) in
    let le = l (told d at (at + 3) may.apart (inr refl) wide) in
    let p : at + 12 + (bytes + 7) / 8 ≡ image_place d.words at = ap (λ n. at + 12 + (n + 7) / 8) be in
    record { bytes_are = be; len_is = le; place = p; inside = omega (arith, p, le, may.inside, short) }

-- where a window names the block, the writer has 0 at its pin count already
block_of : (d : WriterState) (copying : List ℕ) (at : ℕ) → StateInOrder d copying → MayPin d.words d.windows at → IsBlock d.words at
block_of d copying at ok may = record { positive = may.positive; zero_count = zero_word (is_named d.windows at) refl; inside = may.inside }
  where
    zero_word : (b : Bool) → is_named d.windows at ≡ b → slice_index d.words (at + 11) ≡ 0
    zero_word false is = may.count is
    zero_word true is = let t = there_named d.windows at is in (ok.stand (suc t.1.0) at t.1.1 t.0).zero_count

pub overflow_add-first-2 : goal.overflow_add-first-2
overflow_add-first-2 c =
    let d : WriterState = c.args.self.seat.now.state in
    let e1 : c.look.new.seat.state ≡ d = ap (λ (w : WriterView). w.state) c.look.ensures.seat in
    let e2 : c.load-bytes.new.seat.state ≡ d = ap (λ (w : WriterView). w.state) c.load-bytes.ensures.seat ∙ e1 in
    let s : Sized d c.args.at c.load-bytes.result c.load-len.result = sized d c.args.at c.load-bytes.result c.load-len.result c.args.self.short c.requires.block
    (λ o. c.load-bytes.ensures.word (subst (λ (x : WriterState). IsTold x.windows (c.args.at + 2)) (sym e1) o) ∙ ap (λ (x : WriterState). slice_index x.words (c.args.at + 2)) e1)
    (λ o. c.load-len.ensures.word (subst (λ (x : WriterState). IsTold x.windows (c.args.at + 3)) (sym e2) o) ∙ ap (λ (x : WriterState). slice_index x.words (c.args.at + 3)) e2) in
    omega (arith, s.inside)

pub overflow_cast-first-2 : goal.overflow_cast-first-2
overflow_cast-first-2 c =
    let d : WriterState = c.args.self.seat.now.state in
    let e1 : c.look.new.seat.state ≡ d = ap (λ (w : WriterView). w.state) c.look.ensures.seat in
    let e2 : c.load-bytes.new.seat.state ≡ d = ap (λ (w : WriterView). w.state) c.load-bytes.ensures.seat ∙ e1 in
    let s : Sized d c.args.at c.load-bytes.result c.load-len.result = sized d c.args.at c.load-bytes.result c.load-len.result c.args.self.short c.requires.block
    (λ o. c.load-bytes.ensures.word (subst (λ (x : WriterState). IsTold x.windows (c.args.at + 2)) (sym e1) o) ∙ ap (λ (x : WriterState). slice_index x.words (c.args.at + 2)) e1)
    (λ o. c.load-len.ensures.word (subst (λ (x : WriterState). IsTold x.windows (c.args.at + 3)) (sym e2) o) ∙ ap (λ (x : WriterState). slice_index x.words (c.args.at + 3)) e2) in
    omega (arith, s.inside, c.from.ensures)

pub overflow_cast-len : goal.overflow_cast-len
overflow_cast-len c =
    let d : WriterState = c.args.self.seat.now.state in
    let e1 : c.look.new.seat.state ≡ d = ap (λ (w : WriterView). w.state) c.look.ensures.seat in
    let e2 : c.load-bytes.new.seat.state ≡ d = ap (λ (w : WriterView). w.state) c.load-bytes.ensures.seat ∙ e1 in
    let s : Sized d c.args.at c.load-bytes.result c.load-len.result = sized d c.args.at c.load-bytes.result c.load-len.result c.args.self.short c.requires.block
    (λ o. c.load-bytes.ensures.word (subst (λ (x : WriterState). IsTold x.windows (c.args.at + 2)) (sym e1) o) ∙ ap (λ (x : WriterState). slice_index x.words (c.args.at + 2)) e1)
    (λ o. c.load-len.ensures.word (subst (λ (x : WriterState). IsTold x.windows (c.args.at + 3)) (sym e2) o) ∙ ap (λ (x : WriterState). slice_index x.words (c.args.at + 3)) e2) in
    omega (arith, s.inside)

pub copy_as-requires-clause-len : goal.copy_as-requires-clause-len
copy_as-requires-clause-len c =
    let d : WriterState = c.args.self.seat.now.state in
    let e1 : c.look.new.seat.state ≡ d = ap (λ (w : WriterView). w.state) c.look.ensures.seat in
    let e2 : c.load-bytes.new.seat.state ≡ d = ap (λ (w : WriterView). w.state) c.load-bytes.ensures.seat ∙ e1 in
    let s : Sized d c.args.at c.load-bytes.result c.load-len.result = sized d c.args.at c.load-bytes.result c.load-len.result c.args.self.short c.requires.block
    (λ o. c.load-bytes.ensures.word (subst (λ (x : WriterState). IsTold x.windows (c.args.at + 2)) (sym e1) o) ∙ ap (λ (x : WriterState). slice_index x.words (c.args.at + 2)) e1)
    (λ o. c.load-len.ensures.word (subst (λ (x : WriterState). IsTold x.windows (c.args.at + 3)) (sym e2) o) ∙ ap (λ (x : WriterState). slice_index x.words (c.args.at + 3)) e2) in
    let e3 : c.load-len.new.seat.state ≡ d = ap (λ (w : WriterView). w.state) c.load-len.ensures.seat ∙ e2 in
    s.len_is ∙ ap (λ (x : WriterState). slice_index x.words (c.args.at + 3)) (sym e3)

pub copy_as-requires-clause-first : goal.copy_as-requires-clause-first
copy_as-requires-clause-first c =
    let d : WriterState = c.args.self.seat.now.state in
    let e1 : c.look.new.seat.state ≡ d = ap (λ (w : WriterView). w.state) c.look.ensures.seat in
    let e2 : c.load-bytes.new.seat.state ≡ d = ap (λ (w : WriterView). w.state) c.load-bytes.ensures.seat ∙ e1 in
    let s : Sized d c.args.at c.load-bytes.result c.load-len.result = sized d c.args.at c.load-bytes.result c.load-len.result c.args.self.short c.requires.block
    (λ o. c.load-bytes.ensures.word (subst (λ (x : WriterState). IsTold x.windows (c.args.at + 2)) (sym e1) o) ∙ ap (λ (x : WriterState). slice_index x.words (c.args.at + 2)) e1)
    (λ o. c.load-len.ensures.word (subst (λ (x : WriterState). IsTold x.windows (c.args.at + 3)) (sym e2) o) ∙ ap (λ (x : WriterState). slice_index x.words (c.args.at + 3)) e2) in
    let e3 : c.load-len.new.seat.state ≡ d = ap (λ (w : WriterView). w.state) c.load-len.ensures.seat ∙ e2 in
    ap (λ n. n + 12 + (c.load-bytes.result + 7) / 8) c.from.ensures ∙ (s.place ∙ ap (λ (x : WriterState). image_place x.words c.args.at) (sym e3))

pub copy_as-requires-clause-block : goal.copy_as-requires-clause-block
copy_as-requires-clause-block c =
    let d : WriterState = c.args.self.seat.now.state in
    let e1 : c.look.new.seat.state ≡ d = ap (λ (w : WriterView). w.state) c.look.ensures.seat in
    let e2 : c.load-bytes.new.seat.state ≡ d = ap (λ (w : WriterView). w.state) c.load-bytes.ensures.seat ∙ e1 in
    let e3 : c.load-len.new.seat.state ≡ d = ap (λ (w : WriterView). w.state) c.load-len.ensures.seat ∙ e2 in
    let o = c.look.ensures.state in
    subst (λ (x : WriterState). IsBlock x.words c.args.at) (sym e3) (block_of d o.0 c.args.at (subst (λ (x : WriterState). StateInOrder x o.0) e1 o.1) c.requires.block)
