use Rattle.std.proofs.Common.{◌≡◌, ◌≢◌, inr, ℕ, ◌-◌, List, sym, ap, ◌∙◌, arith, length, slice_set, subst, refl}
use Rattle.entry_slots.proofs.RowBlocks.{room, home_row}
use Rattle.entry_slots.specs.Standing.{Stands, entries}
use Rattle.entry_slots.proofs.GhostEntries.{restand}
use Rattle.entry_slots.proofs.UnexpiredRows.{emptied}
use Rattle.entry_slots.proofs.KeySearch.{stands_along}
use Rattle.entry_slots.proofs.StorableWords.{may_along}
use Rattle.entry_slots.proofs.ChainCuts.{spot_word}
use Rattle.entry_slots.proofs.RejoinedChains.{cut_spot}
use Rattle.entry_slots.proofs.UnlinkedRows.{own_slot, unlink_stands}
use Rattle.entry_slots.proofs.SpotSearch.{spot_link, spot_there}
use Rattle.entry_slots.proofs.slots.EntrySlots.unlink_at.Goals as goal

pub behind_spot-next-requires : goal.behind_spot-next-requires
behind_spot-next-requires g c = record { stand = c.requires.stand; there = inr c.requires.there }

pub store-requires : goal.store-requires
store-requires g c =
    let h = c.requires.stand in
    let p = c.requires.spot.1 in
    let link = spot_link c.args.spot h p in
    let w = spot_word c.args.spot.link h (cut_spot h c.args.spot.slot (omega (arith, h.from, p.low)) c.args.spot.link 0 link.front link.back link.split link.follows) in
    record {
      place = omega (arith, w.inside, ap length c.behind_spot-next.ensures.kept.words);
      apart = may_along (g.S.WordsIn.words c.args.seg.now) (g.S.WordsIn.words c.behind_spot-next.new.seg) (g.S.WordsIn.aside c.args.seg.now) (g.S.WordsIn.aside c.behind_spot-next.new.seg) c.args.spot.link c.behind_spot-next.ensures.kept.words c.behind_spot-next.ensures.kept.aside w.may;
    }

pub overflow_sub-self : goal.overflow_sub-self
overflow_sub-self g c =
    let h = c.requires.stand in
    let r = own_slot (entries c.args.self.now) c.args.spot.at c.requires.there in
    omega (arith, h.count, r.1.1)

pub returns-clause-stand : goal.returns-clause-stand
returns-clause-stand g c =
    let s = entries c.args.self.now in
    let h = c.requires.stand in
    let there = c.requires.there in
    let p = c.requires.spot.1 in
    let r = own_slot s c.args.spot.at there in
    let ws : List ℕ = g.S.WordsIn.words c.args.seg.now in
    let link = spot_link c.args.spot h p in
    let home = room (home_row r.0 h r.1) in
    let some : c.args.spot.at ≢ 0 = λ q. omega (arith, home.some, r.2) in
    let words : g.S.WordsIn.words c.store.new.self ≡ slice_set ws c.args.spot.link c.behind_spot-next.result =
    c.store.ensures.words ∙ (ap (λ (v : List ℕ). slice_set v c.args.spot.link c.from.result) c.behind_spot-next.ensures.kept.words ∙ ap (λ (n : ℕ). slice_set ws c.args.spot.link n) c.from.ensures) in
    let e' = record c.args.self.now { count = c.args.self.now.count - 1; soonest = c.soonest_after-self.result; standing = c.then-self.result } in
    subst (λ x. Stands e' (g.S.WordsIn.words c.store.new.self) (g.S.WordsIn.aside c.store.new.self) x) (sym c.then-self.ensures)
    (restand {e' = e'} (stands_along (g.S.WordsIn.words c.store.new.self) (g.S.WordsIn.aside c.store.new.self)
    (emptied (unlink_stands c.lower_laws.ensures s h c.args.spot.at c.args.spot.slot c.args.spot.link c.behind_spot-next.result (omega (arith, h.from, p.low)) (spot_there c.args.spot p some) link (c.behind_spot-next.ensures.next some) (c.args.self.now.count - 1) (omega (arith, h.count, r.1.1))) c.soonest_after-self.result c.soonest_after-self.ensures.some)
    words (c.store.ensures.aside ∙ c.behind_spot-next.ensures.kept.aside)) refl refl refl refl refl refl)
