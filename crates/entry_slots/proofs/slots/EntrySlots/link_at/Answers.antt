use Rattle.std.proofs.Common.{◌≡◌, ℕ, ◌+◌, ◌<◌, List, sym, ap, ◌∙◌, arith, length, slice_set, subst, refl}
use Rattle.std.specs.List.{AllByRecursion}
use Rattle.std.proofs.lemmas.List.Elements.{recursion_from_All, All-from_get_or}
use Rattle.seg_words.specs.Windows.{Aside}
use Rattle.seg_words.specs.Layout.{words_in}
use Rattle.php_graph.specs.Size.{image_length}
use Rattle.value_image.specs.Contained.{graph_of}
use Rattle.value_image.specs.Rows.{written, MayWrite}
use Rattle.apcu_model.specs.SlotOrder.{slot_of}
use Rattle.entry_slots.specs.declared.slots.EntrySlots.{EntrySlots}
use Rattle.entry_slots.specs.declared.writing.NewHead.{NewHead}
use Rattle.entry_slots.specs.Entries.{Entries, chain_of, stored_row}
use Rattle.entry_slots.specs.Standing.{Stands, entries}
use Rattle.entry_slots.proofs.GhostEntries.{restand}
use Rattle.entry_slots.proofs.UnexpiredRows.{lowered}
use Rattle.entry_slots.specs.Links.{IsLinkTo}
use Rattle.entry_slots.specs.EntryWords.{entry_words}
use Rattle.entry_slots.proofs.KeySearch.{stands_along}
use Rattle.entry_slots.proofs.StorableWords.{may_along}
use Rattle.entry_slots.proofs.ChainCuts.{IsLinkWord, spot_word}
use Rattle.entry_slots.proofs.RejoinedChains.{cut_spot}
use Rattle.entry_slots.proofs.DistinctPlaces.{rows_few}
use Rattle.entry_slots.proofs.NewEntryLink.{old_row, old_place, taken_room, taken_write, entry_stands, link_stands}
use Rattle.entry_slots.proofs.SpotSearch.{spot_link}
use Rattle.entry_slots.proofs.slots.EntrySlots.link_at.Goals as goal

write_along : (ws ws' : List ℕ) (aside aside' : Aside) (at n : ℕ) → ws' ≡ ws → aside' ≡ aside → MayWrite ws aside.windows at n → MayWrite ws' aside'.windows at n
write_along ws ws' aside aside' at n ew ea may = subst (λ a. MayWrite ws' a.windows at n) (sym ea) (subst (λ w. MayWrite w aside.windows at n) (sym ew) may)

-- the word of the chain, after the block was written
link_word : {e : EntrySlots} {ws : List ℕ} {aside : Aside} (s : Entries) (h : Stands e ws aside s) (slot m target : ℕ) (ws' : List ℕ) → Stands e ws' aside s → slot < e.sma.bounds.from → IsLinkTo ws slot (chain_of s slot) target m → IsLinkWord ws' aside.windows m
link_word s h slot m target ws' h' lt link = spot_word m h' (cut_spot h' slot lt m 0 link.front link.back link.split link.follows)

pub behind_spot-requires : goal.behind_spot-requires
behind_spot-requires g c =
    let s = entries c.args.self.now in
    let h = c.requires.stand in
    record {
      stand = h;
      there = old_place s c.args.key.now c.args.spot.at h (old_row s c.args.key.now c.args.spot.at c.requires.spot.old_is);
    }

pub put_entry-requires : goal.put_entry-requires
put_entry-requires g c =
    let s = entries c.args.self.now in
    let h = c.requires.stand in
    let r = taken_room s h c.args.at c.args.key.now (graph_of c.args.content.now) c.requires.taken in
    record {
      short = c.requires.short;
      graph = c.requires.graph;
      small = omega (arith, r.0, r.1);
      apart = write_along (g.S.WordsIn.words c.args.seg.now) (g.S.WordsIn.words c.behind_spot.new.seg) (g.S.WordsIn.aside c.args.seg.now) (g.S.WordsIn.aside c.behind_spot.new.seg) (c.args.at + 1) (11 + words_in (length c.args.key.now) + image_length (graph_of c.args.content.now))
          c.behind_spot.ensures.kept.words c.behind_spot.ensures.kept.aside (taken_write s h c.args.at c.args.key.now (graph_of c.args.content.now) c.requires.taken);
    }

pub store-requires : goal.store-requires
store-requires g c =
    let s = entries c.args.self.now in
    let h = c.requires.stand in
    let new_head : NewHead = record { next = c.behind_spot.result; ttl = c.args.ttl; now = c.args.t; number = c.args.self.now.next_number } in
    let ws : List ℕ = g.S.WordsIn.words c.args.seg.now in
    let ws1 : List ℕ = written ws (c.args.at + 1) (entry_words c.args.key.now (graph_of c.args.content.now) new_head) in
    let link = spot_link c.args.spot h c.requires.spot.in_chain in
    let h1 = entry_stands s h c.args.at c.args.key.now (graph_of c.args.content.now) c.requires.taken c.lower_laws.ensures new_head in
    let w = link_word s h c.args.spot.slot c.args.spot.link c.args.spot.at ws1 h1 (omega (arith, h.from, c.requires.spot.in_chain.low)) link in
    let words : g.S.WordsIn.words c.put_entry.new.seg ≡ ws1 = c.put_entry.ensures.words ∙ ap (λ (v : List ℕ). written v (c.args.at + 1) (entry_words c.args.key.now (graph_of c.args.content.now) new_head)) c.behind_spot.ensures.kept.words in
    record {
      place = subst (λ (v : List ℕ). c.args.spot.link < length v) (sym words) w.inside;
      apart = may_along ws1 (g.S.WordsIn.words c.put_entry.new.seg) (g.S.WordsIn.aside c.args.seg.now) (g.S.WordsIn.aside c.put_entry.new.seg) c.args.spot.link words (c.put_entry.ensures.beside.aside ∙ c.behind_spot.ensures.kept.aside) w.may;
    }

pub count_after-self-requires : goal.count_after-self-requires
count_after-self-requires g c =
    let s = entries c.args.self.now in
    let h = c.requires.stand in
    let r = taken_room s h c.args.at c.args.key.now (graph_of c.args.content.now) c.requires.taken in
    let few = rows_few h in
    omega (arith, r.1, few)

pub returns-clause-stand : goal.returns-clause-stand
returns-clause-stand g c =
    let s = entries c.args.self.now in
    let h = c.requires.stand in
    let taken = c.requires.taken in
    let replaces = c.requires.spot.old_is in
    let new_head : NewHead = record { next = c.behind_spot.result; ttl = c.args.ttl; now = c.args.t; number = c.args.self.now.next_number } in
    let ws : List ℕ = g.S.WordsIn.words c.args.seg.now in
    let slot : ℕ = c.args.spot.slot in
    let ws1 : List ℕ = written ws (c.args.at + 1) (entry_words c.args.key.now (graph_of c.args.content.now) new_head) in
    let is : slot ≡ slot_of s.conf c.args.key.now = c.requires.spot.slot_is in
    let link = spot_link c.args.spot h c.requires.spot.in_chain in
    let words1 : g.S.WordsIn.words c.put_entry.new.seg ≡ ws1 = c.put_entry.ensures.words ∙ ap (λ (v : List ℕ). written v (c.args.at + 1) (entry_words c.args.key.now (graph_of c.args.content.now) new_head)) c.behind_spot.ensures.kept.words in
    let words : g.S.WordsIn.words c.store.new.self ≡ slice_set ws1 c.args.spot.link c.args.at = c.store.ensures.words ∙ (ap (λ (v : List ℕ). slice_set v c.args.spot.link c.from.result) words1 ∙ ap (λ (n : ℕ). slice_set ws1 c.args.spot.link n) c.from.ensures) in
    let bytes : AllByRecursion (λ b. b < 256) c.args.key.now = recursion_from_All (λ b. b < 256) c.args.key.now (All-from_get_or (λ b. b < 256) c.args.key.now 0 (λ i lt. omega (arith, c.type_inv.key i))) in
    let e' = record c.args.self.now { next_number = c.saturating_add-self.result; count = c.count_after-self.result; soonest = c.soonest_with-self.result; standing = c.then-self.result } in
    subst (λ x. Stands e' (g.S.WordsIn.words c.store.new.self) (g.S.WordsIn.aside c.store.new.self) x) (sym c.then-self.ensures)
    (restand {e' = e'} (stands_along (g.S.WordsIn.words c.store.new.self) (g.S.WordsIn.aside c.store.new.self)
    (link_stands s (lowered h c.soonest_with-self.result c.soonest_with-self.ensures.low) c.args.at c.args.key.now (graph_of c.args.content.now) taken c.lower_laws.ensures new_head c.requires.graph (c.requires.short, bytes) (omega (arith, c.ranges.ttl)) refl c.args.spot.at slot c.args.spot.link replaces is (omega (arith, h.from, c.requires.spot.in_chain.low)) link
    (λ some. c.behind_spot.ensures.next some) c.behind_spot.ensures.none
    c.saturating_add-self.result c.count_after-self.result (omega (arith, c.saturating_add-self.ensures)) c.count_after-self.ensures
    (λ now le. c.soonest_with-self.ensures.unexpired s.conf (stored_row c.args.key.now (graph_of c.args.content.now) c.args.ttl c.args.t c.args.at s.next_number) now h.limit refl refl refl le))
    words (c.store.ensures.aside ∙ (c.put_entry.ensures.beside.aside ∙ c.behind_spot.ensures.kept.aside))) refl refl refl refl refl refl)
