use Rattle.std.proofs.Common.{◌≡◌, ℕ, ◌+◌, List, true, ap, ◌∙◌, subst, slice_index, slice_set, arith, length, sym, refl}
use Rattle.std.proofs.lemmas.List.{length-set, get_or-set_same, get_or-set_other}
use Rattle.seg_words.specs.Windows.{Aside}
use Rattle.entry_slots.specs.declared.slots.EntrySlots.{EntrySlots}
use Rattle.entry_slots.specs.Lists.{has_place}
use Rattle.entry_slots.specs.Entries.{Entries, dated_at, moved_at}
use Rattle.entry_slots.specs.Standing.{Stands, entries}
use Rattle.entry_slots.proofs.GhostEntries.{restand}
use Rattle.entry_slots.specs.Lower.{Laws}
use Rattle.entry_slots.proofs.Runs.{may_store_set}
use Rattle.entry_slots.proofs.RowBlocks.{room, home_unlinked}
use Rattle.entry_slots.proofs.KeySearch.{stands_along}
use Rattle.entry_slots.proofs.StorableWords.{may_date, may_along}
use Rattle.entry_slots.proofs.RowListMoves.{unlinked_there}
use Rattle.entry_slots.proofs.RowRemoval.{cleared_stands, dated_stands, dated_there, moved_dated}
use Rattle.entry_slots.proofs.slots.EntrySlots.to_removed.Goals as goal

-- what stands after the two stores
abbrev both : List ℕ → ℕ → ℕ → List ℕ
both ws at t = slice_set (slice_set ws (at + 1) 0) (at + 8) t

both_stand : Laws → {e : EntrySlots} {ws : List ℕ} {aside : Aside} (s : Entries) → Stands e ws aside s → (at t : ℕ) → has_place at s.unlinked ≡ true → Stands e (both ws at t) aside (dated_at at t s) × (has_place at (dated_at at t s).unlinked ≡ true) × (slice_index (both ws at t) (at + 1) ≡ 0)
both_stand law {e} {ws} {aside} s h at t there =
    let q = unlinked_there s h at there in
    let w = room (home_unlinked q.0 h q.1) in
    let h1 = cleared_stands law s h at 0 q.0 q.1 q.2 in
    (dated_stands s h1 at t q.0 q.1 q.2 law, dated_there at t s.unlinked there, get_or-set_other (slice_set ws (at + 1) 0) (at + 8) (at + 1) t 0 (omega arith) ∙ get_or-set_same ws (at + 1) 0 0 (omega (arith, w.high, w.enough, q.2)))

pub overflow_add-at : goal.overflow_add-at
overflow_add-at g c =
    let s = entries c.args.self.now in
    let q = unlinked_there s c.requires.stand c.args.at c.requires.there in
    let w = room (home_unlinked q.0 c.requires.stand q.1) in
    omega (arith, w.high, w.enough, w.short, q.2)

pub overflow_add-at-2 : goal.overflow_add-at-2
overflow_add-at-2 g c =
    let s = entries c.args.self.now in
    let q = unlinked_there s c.requires.stand c.args.at c.requires.there in
    let w = room (home_unlinked q.0 c.requires.stand q.1) in
    omega (arith, w.high, w.enough, w.short, q.2)

pub store-requires : goal.store-requires
store-requires g c =
    let s = entries c.args.self.now in
    let q = unlinked_there s c.requires.stand c.args.at c.requires.there in
    let home = home_unlinked q.0 c.requires.stand q.1 in
    let w = room home in
    record {
      place = omega (arith, w.high, w.enough, q.2);
      apart = may_date q.0 home c.args.at 1 q.2 (omega arith) (omega arith) (omega arith);
    }

pub store-requires-2 : goal.store-requires-2
store-requires-2 g c =
    let s = entries c.args.self.now in
    let q = unlinked_there s c.requires.stand c.args.at c.requires.there in
    let home = home_unlinked q.0 c.requires.stand q.1 in
    let w = room home in
    let ws : List ℕ = g.S.WordsIn.words c.args.seg.now in
    record {
      place = omega (arith, w.high, w.enough, q.2, ap length c.store.ensures.words, length-set ws (c.args.at + 1) 0);
      apart = may_along (slice_set ws (c.args.at + 1) 0) (g.S.WordsIn.words c.store.new.self) (g.S.WordsIn.aside c.args.seg.now) (g.S.WordsIn.aside c.store.new.self) (c.args.at + 8) c.store.ensures.words c.store.ensures.aside
          (may_store_set c.lower_laws.ensures ws (g.S.WordsIn.aside c.args.seg.now).windows (c.args.at + 1) (c.args.at + 8) 0 (omega (arith, w.high, w.enough, q.2)) (may_date q.0 home c.args.at 1 q.2 (omega arith) (omega arith) (omega arith)) (may_date q.0 home c.args.at 8 q.2 (omega arith) (omega arith) (omega arith)));
    }

pub append-requires : goal.append-requires
append-requires g c =
    let s = entries c.args.self.now in
    let b = both_stand c.lower_laws.ensures s c.requires.stand c.args.at c.args.t c.requires.there in
    let words : g.S.WordsIn.words c.store-2.new.self ≡ both (g.S.WordsIn.words c.args.seg.now) c.args.at c.args.t = c.store-2.ensures.words ∙ ap (λ (v : List ℕ). slice_set v (c.args.at + 8) c.args.t) c.store.ensures.words in
    let e' = record c.args.self.now { standing = c.then-self.result } in
    record {
      stand = subst (λ x. Stands e' (g.S.WordsIn.words c.store-2.new.self) (g.S.WordsIn.aside c.store-2.new.self) x) (sym c.then-self.ensures)
          (restand {e' = e'} (stands_along (g.S.WordsIn.words c.store-2.new.self) (g.S.WordsIn.aside c.store-2.new.self) b.0 words (c.store-2.ensures.aside ∙ c.store.ensures.aside)) refl refl refl refl refl refl);
      there = rw c.then-self.ensures b.1;
      alone = ap (λ (v : List ℕ). slice_index v (c.args.at + 1)) words ∙ b.2;
    }

pub returns-clause-removed : goal.returns-clause-removed
returns-clause-removed g c = c.append.ensures.moved ∙ (ap (moved_at c.args.at) c.then-self.ensures ∙ moved_dated c.args.at c.args.t (entries c.args.self.now))
