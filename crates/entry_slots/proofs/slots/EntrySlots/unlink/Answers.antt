use Rattle.std.proofs.Common.{◌≡◌, ◌≢◌, inr, ℕ, ◌+◌, ◌-◌, List, sym, ap, ◌∙◌, arith, length, slice_index, slice_set, subst, refl, true}
use Rattle.apcu_model.specs.SlotOrder.{slot_of}
use Rattle.entry_slots.specs.Lists.{has_place}
use Rattle.entry_slots.specs.Entries.{Entries, chain_of}
use Rattle.entry_slots.proofs.RowBlocks.{room, home_row}
use Rattle.entry_slots.specs.Standing.{Stands, entries}
use Rattle.entry_slots.proofs.GhostEntries.{restand}
use Rattle.entry_slots.proofs.UnexpiredRows.{emptied}
use Rattle.entry_slots.proofs.KeySearch.{stands_along}
use Rattle.entry_slots.proofs.StorableWords.{may_along}
use Rattle.entry_slots.proofs.ChainCuts.{spot_word}
use Rattle.entry_slots.proofs.RejoinedChains.{cut_spot}
use Rattle.entry_slots.proofs.UnlinkedRows.{own_slot, unlink_stands}
use Rattle.entry_slots.proofs.slots.EntrySlots.unlink.Goals as goal

-- the row's place is in the chain of the slot
chain_there : (s : Entries) (at slot own : ℕ) → slot ≡ own → has_place at (chain_of s own) ≡ true → has_place at (chain_of s slot) ≡ true
chain_there s at slot own e h = subst (λ (n : ℕ). has_place at (chain_of s n) ≡ true) (sym e) h

pub link_to-link-requires : goal.link_to-link-requires
link_to-link-requires g c =
    let s = entries c.args.self.now in
    let h = c.requires.stand in
    let r = own_slot s c.args.at c.requires.there in
    record {
      stand = stands_along (g.S.WordsIn.words c.slot_at-slot.new.seg) (g.S.WordsIn.aside c.slot_at-slot.new.seg) h c.slot_at-slot.ensures.kept.words c.slot_at-slot.ensures.kept.aside;
      there = inr (chain_there s c.args.at c.slot_at-slot.result (slot_of s.conf r.0.key) (c.slot_at-slot.ensures.slot r.0 r.1 r.2) r.3);
      slot = c.slot_at-slot.ensures.low;
    }

pub behind-next-requires : goal.behind-next-requires
behind-next-requires g c =
    let s = entries c.args.self.now in
    let h = c.requires.stand in
    record {
      stand = stands_along (g.S.WordsIn.words c.link_to-link.new.seg) (g.S.WordsIn.aside c.link_to-link.new.seg) h (c.link_to-link.ensures.kept.words ∙ c.slot_at-slot.ensures.kept.words) (c.link_to-link.ensures.kept.aside ∙ c.slot_at-slot.ensures.kept.aside);
      there = inr c.requires.there;
    }

pub store-requires : goal.store-requires
store-requires g c =
    let s = entries c.args.self.now in
    let h = c.requires.stand in
    let r = own_slot s c.args.at c.requires.there in
    let chain = chain_there s c.args.at c.slot_at-slot.result (slot_of s.conf r.0.key) (c.slot_at-slot.ensures.slot r.0 r.1 r.2) r.3 in
    let h1 = stands_along (g.S.WordsIn.words c.slot_at-slot.new.seg) (g.S.WordsIn.aside c.slot_at-slot.new.seg) h c.slot_at-slot.ensures.kept.words c.slot_at-slot.ensures.kept.aside in
    let link = c.link_to-link.ensures.link in
    let w = spot_word c.link_to-link.result h1 (cut_spot h1 c.slot_at-slot.result c.slot_at-slot.ensures.low c.link_to-link.result 0 link.front link.back link.split link.follows) in
    record {
      place = omega (arith, w.inside, ap length (c.behind-next.ensures.kept.words ∙ c.link_to-link.ensures.kept.words));
      apart = may_along (g.S.WordsIn.words c.slot_at-slot.new.seg) (g.S.WordsIn.words c.behind-next.new.seg) (g.S.WordsIn.aside c.slot_at-slot.new.seg) (g.S.WordsIn.aside c.behind-next.new.seg) c.link_to-link.result (c.behind-next.ensures.kept.words ∙ c.link_to-link.ensures.kept.words) (c.behind-next.ensures.kept.aside ∙ c.link_to-link.ensures.kept.aside) w.may;
    }

pub overflow_sub-self : goal.overflow_sub-self
overflow_sub-self g c =
    let s = entries c.args.self.now in
    let h = c.requires.stand in
    let r = own_slot s c.args.at c.requires.there in
    omega (arith, h.count, r.1.1)

pub returns-clause-stand : goal.returns-clause-stand
returns-clause-stand g c =
    let s = entries c.args.self.now in
    let h = c.requires.stand in
    let there = c.requires.there in
    let r = own_slot s c.args.at there in
    let ws : List ℕ = g.S.WordsIn.words c.args.seg.now in
    let slot : ℕ = c.slot_at-slot.result in
    let chain = chain_there s c.args.at slot (slot_of s.conf r.0.key) (c.slot_at-slot.ensures.slot r.0 r.1 r.2) r.3 in
    let w0 : g.S.WordsIn.words c.slot_at-slot.new.seg ≡ ws = c.slot_at-slot.ensures.kept.words in
    let h1 = stands_along (g.S.WordsIn.words c.slot_at-slot.new.seg) (g.S.WordsIn.aside c.slot_at-slot.new.seg) h w0 c.slot_at-slot.ensures.kept.aside in
    let link = c.link_to-link.ensures.link in
    let home = room (home_row r.0 h r.1) in
    let some : c.args.at ≢ 0 = λ q. omega (arith, home.some, r.2) in
    let next : c.behind-next.result ≡ slice_index (g.S.WordsIn.words c.slot_at-slot.new.seg) (c.args.at + 1) = c.behind-next.ensures.next some ∙ ap (λ (v : List ℕ). slice_index v (c.args.at + 1)) c.link_to-link.ensures.kept.words in
    let words : g.S.WordsIn.words c.store.new.self ≡ slice_set (g.S.WordsIn.words c.slot_at-slot.new.seg) c.link_to-link.result c.behind-next.result =
    c.store.ensures.words ∙ (ap (λ (v : List ℕ). slice_set v c.link_to-link.result c.from.result) (c.behind-next.ensures.kept.words ∙ c.link_to-link.ensures.kept.words) ∙ ap (λ (n : ℕ). slice_set (g.S.WordsIn.words c.slot_at-slot.new.seg) c.link_to-link.result n) c.from.ensures) in
    let e' = record c.args.self.now { count = c.args.self.now.count - 1; soonest = c.soonest_after-self.result; standing = c.then-self.result } in
    subst (λ x. Stands e' (g.S.WordsIn.words c.store.new.self) (g.S.WordsIn.aside c.store.new.self) x) (sym c.then-self.ensures)
    (restand {e' = e'} (stands_along (g.S.WordsIn.words c.store.new.self) (g.S.WordsIn.aside c.store.new.self)
    (emptied (unlink_stands c.lower_laws.ensures s h1 c.args.at slot c.link_to-link.result c.behind-next.result c.slot_at-slot.ensures.low chain link next (c.args.self.now.count - 1) (omega (arith, h.count, r.1.1))) c.soonest_after-self.result c.soonest_after-self.ensures.some)
    words (c.store.ensures.aside ∙ (c.behind-next.ensures.kept.aside ∙ c.link_to-link.ensures.kept.aside))) refl refl refl refl refl refl)
