use Rattle.std.proofs.Common.{◌≡◌, ℕ, zero, suc, [], ◌∷◌, ◌+◌, ◌<◌, ◌≤◌, List, length, get_or, slice_set, sym, ◌∙◌, subst, arith, length-set}
use Rattle.std.proofs.lemmas.List.{ext_get_or, get_or-set_other, get_or-set_same}
use native.Mathlib.Decide.{ℕ_discrete}
use mathlib.Core.Option.{some, some-injective}
use lib.ListN.{get_elem?}
use Rattle.std.specs.Mem.Slots.{slots_items}
use Rattle.pin_table.proofs.table.copy_back.Goals as goal

read : (l : List ℕ) (i x : ℕ) → get_elem? l i ≡ some x → x ≡ get_or l i 0
read [] i x h = absurd (mathlib.Core.Option.some-ne-none x (sym h))
read (y ∷ ys) zero x h = sym (some-injective y x h)
read (y ∷ ys) (suc i) x h = read ys i x h

next : (row ws : List ℕ) (i x : ℕ) → i < length row → get_elem? ws i ≡ some x → ((k : ℕ) → k < i → get_or row k 0 ≡ get_or ws k 0) → (k : ℕ) → k < i + 1 → get_or (slice_set row i x) k 0 ≡ get_or ws k 0
next row ws i x less found before k h = go (ℕ_discrete k i)
  where
    go : Dec (k ≡ i) → get_or (slice_set row i x) k 0 ≡ get_or ws k 0
    go (yes e) = subst (λ j. get_or (slice_set row i x) j 0 ≡ get_or ws j 0) (sym e) (get_or-set_same row i x 0 less ∙ read ws i x found)
    go (no ne) = get_or-set_other row i k x 0 ne ∙ before k (grind arith)

pub loop-i-preserved : goal.loop-i-preserved
loop-i-preserved c =
    let less : c.loop-i.i < length c.loop-i.row.items = omega arith in
    record {
      within = omega (arith, length-set c.loop-i.row.items c.loop-i.i c.word.result, less);
      same = length-set c.loop-i.row.items c.loop-i.i c.word.result ∙ c.loop-i.invariant.same;
      items = next c.loop-i.row.items (slots_items c.args.closed.now.words) c.loop-i.i c.word.result less c.word.ensures c.loop-i.invariant.items;
    }

pub returns : goal.returns
returns c =
    let all : length c.loop-i.row.items ≤ c.loop-i.i = omega arith in
    ext_get_or 0 c.loop-i.row.items (slots_items c.args.closed.now.words) (c.loop-i.invariant.same ∙ sym c.requires.items) (λ k h. c.loop-i.invariant.items k (omega (arith, all, h)))
