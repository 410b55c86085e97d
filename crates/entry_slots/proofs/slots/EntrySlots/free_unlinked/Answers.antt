use Rattle.std.proofs.Common.{ℕ, List, sym, subst, refl, ◌∙◌}
use Rattle.seg_words.specs.Windows.{Aside}
use Rattle.sma_blocks.specs.declared.sma.Sma.{Sma}
use Rattle.sma_blocks.specs.Ready.{IsReady}
use Rattle.entry_slots.specs.Entries.{given_at}
use Rattle.entry_slots.specs.Standing.{Stands, entries}
use Rattle.entry_slots.proofs.GhostEntries.{restand}
use Rattle.entry_slots.proofs.RowListMoves.{given_stands, given_freed, live_there, unlinked_there}
use Rattle.entry_slots.proofs.slots.EntrySlots.free_unlinked.Goals as goal

pub give-requires : goal.give-requires
give-requires g c =
    let s = entries c.args.self.now in
    let r = unlinked_there s c.requires.stand c.args.at c.requires.there in
    record {
      live = live_there s c.requires.stand c.args.at r.0 r.1 r.2;
      unnamed = c.requires.unnamed;
      ready = c.requires.stand.ready;
    }

pub returns-clause-freed : goal.returns-clause-freed
returns-clause-freed g c = c.then-self.ensures ∙ given_freed (entries c.args.self.now) c.requires.stand c.args.at c.requires.there

pub returns-clause-stand : goal.returns-clause-stand
returns-clause-stand g c =
    let at = c.args.at in
    let old = c.args.self.now in
    let s = entries old in
    let ws : List ℕ = g.S.WordsIn.words c.give.new.seg in
    let aside : Aside = g.S.WordsIn.aside c.args.seg.now in
    let sma : Sma = c.give.new.self in
    let r = unlinked_there s c.requires.stand at c.requires.there in
    let ready : IsReady sma ws aside = subst (λ (a : Aside). IsReady sma ws a) c.give.ensures.beside.aside c.give.ensures.ready in
    let done = given_stands c.lower_laws.ensures s c.requires.stand at r.0 r.1 r.2 sma ws c.give.ensures.given c.give.ensures.others c.give.ensures.bounds ready in
    let e' = record old { sma = sma; standing = c.then-self.result } in
    subst (λ x. Stands e' ws (g.S.WordsIn.aside c.give.new.seg) x) (sym c.then-self.ensures)
    (subst (λ a. Stands e' ws a (given_at at s)) (sym c.give.ensures.beside.aside) (restand {e' = e'} done refl refl refl refl refl refl))
