use Rattle.std.proofs.Common.{◌≡◌, ℕ, ◌+◌, List, ap, sym, subst, refl, ◌∙◌, arith, length, slice_set}
use Rattle.std.specs.Prelude.{nat_lt, ◌&&◌, false}
use Rattle.std.proofs.lemmas.List.{length-set}
use Rattle.entry_slots.proofs.Runs.{may_store_set}
use Rattle.entry_slots.proofs.RowBlocks.{room, told_at}
use Rattle.entry_slots.proofs.GhostEntries.{row_now}
use Rattle.entry_slots.proofs.StorableWords.{may_date, may_along}
use Rattle.entry_slots.proofs.TouchedRows.{row_at, touched_words, touch_stands}
use Rattle.entry_slots.specs.Standing.{Stands, entries}
use Rattle.entry_slots.proofs.GhostEntries.{restand}
use Rattle.entry_slots.proofs.UnexpiredRows.{lowered}
use Rattle.entry_slots.proofs.KeySearch.{stands_along}
use Rattle.entry_slots.proofs.slots.EntrySlots.touch.Goals as goal

pub overflow_add-at : goal.overflow_add-at
overflow_add-at g c = let r = row_at (row_now c.requires.stand c.requires.there) in let w = room r.1 in omega (arith, w.high, w.enough, w.short, r.2)

pub overflow_add-at-2 : goal.overflow_add-at-2
overflow_add-at-2 g c = let r = row_at (row_now c.requires.stand c.requires.there) in let w = room r.1 in omega (arith, w.high, w.enough, w.short, r.2)

pub overflow_add-at-3 : goal.overflow_add-at-3
overflow_add-at-3 g c = let r = row_at (row_now c.requires.stand c.requires.there) in let w = room r.1 in omega (arith, w.high, w.enough, w.short, r.2)

pub load-hits-requires : goal.load-hits-requires
load-hits-requires g c = let r = row_at (row_now c.requires.stand c.requires.there) in let w = room r.1 in omega (arith, w.high, w.enough, r.2)

pub store-requires : goal.store-requires
store-requires g c =
    let r = row_at (row_now c.requires.stand c.requires.there) in
    let w = room r.1 in
    record {
      place = omega (arith, w.high, w.enough, r.2, ap length c.load-hits.ensures.words);
      apart = may_along (g.S.WordsIn.words c.args.seg.now) (g.S.WordsIn.words c.load-hits.new.self) (g.S.WordsIn.aside c.args.seg.now) (g.S.WordsIn.aside c.load-hits.new.self) (c.args.at + 9) c.load-hits.ensures.words c.load-hits.ensures.aside
          (may_date r.0 r.1 c.args.at 9 r.2 (omega arith) (omega arith) (omega arith));
    }

pub store-requires-2 : goal.store-requires-2
store-requires-2 g c =
    let r = row_at (row_now c.requires.stand c.requires.there) in
    let w = room r.1 in
    let ws : List ℕ = g.S.WordsIn.words c.args.seg.now in
    let words : g.S.WordsIn.words c.store.new.self ≡ slice_set ws (c.args.at + 9) c.saturating_add.result = c.store.ensures.words ∙ ap (λ (v : List ℕ). slice_set v (c.args.at + 9) c.saturating_add.result) c.load-hits.ensures.words in
    record {
      place = omega (arith, w.high, w.enough, r.2, ap length words, length-set ws (c.args.at + 9) c.saturating_add.result);
      apart = may_along (slice_set ws (c.args.at + 9) c.saturating_add.result) (g.S.WordsIn.words c.store.new.self) (g.S.WordsIn.aside c.args.seg.now) (g.S.WordsIn.aside c.store.new.self) (c.args.at + 7) words (c.store.ensures.aside ∙ c.load-hits.ensures.aside)
          (may_store_set c.lower_laws.ensures ws (g.S.WordsIn.aside c.args.seg.now).windows (c.args.at + 9) (c.args.at + 7) c.saturating_add.result (omega (arith, w.high, w.enough, r.2)) (may_date r.0 r.1 c.args.at 9 r.2 (omega arith) (omega arith) (omega arith)) (may_date r.0 r.1 c.args.at 7 r.2 (omega arith) (omega arith) (omega arith)));
    }

pub returns-clause-stand : goal.returns-clause-stand
returns-clause-stand g c =
    let s = entries c.args.self.now in
    let h = c.requires.stand in
    let r = row_at (row_now c.requires.stand c.requires.there) in
    let ws : List ℕ = g.S.WordsIn.words c.args.seg.now in
    let read = c.load-hits.ensures.word (told_at r.1 c.args.at 9 r.2 (omega arith) (omega arith)) in
    let words : g.S.WordsIn.words c.store-2.new.self ≡ touched_words ws c.args.at c.saturating_add.result c.args.t =
    c.store-2.ensures.words ∙ ap (λ (v : List ℕ). slice_set v (c.args.at + 7) c.args.t) (c.store.ensures.words ∙ ap (λ (v : List ℕ). slice_set v (c.args.at + 9) c.saturating_add.result) c.load-hits.ensures.words) in
    subst (λ x. Stands (record c.args.self.now { soonest = c.passes_after-self.result; standing = c.then-self.result }) (g.S.WordsIn.words c.store-2.new.self) (g.S.WordsIn.aside c.store-2.new.self) x) (sym c.then-self.ensures)
    (restand {e' = record c.args.self.now { soonest = c.passes_after-self.result; standing = c.then-self.result }} (stands_along (g.S.WordsIn.words c.store-2.new.self) (g.S.WordsIn.aside c.store-2.new.self)
    (touch_stands c.lower_laws.ensures s c.args.at c.saturating_add.result c.args.t (lowered h c.passes_after-self.result c.passes_after-self.ensures.low) c.requires.there (omega (arith, read, c.saturating_add.ensures))
    (λ now le. subst (λ (n : ℕ). (nat_lt 0 n && nat_lt (c.args.t + n) now) ≡ false) (c.from.ensures ∙ h.limit) (c.passes_after-self.ensures.unpassed now le)))
    words (c.store-2.ensures.aside ∙ (c.store.ensures.aside ∙ c.load-hits.ensures.aside))) refl refl refl refl refl refl)
