use Rattle.std.proofs.Common.{◌≡◌, ◌≢◌, ℕ, ◌+◌, List, sym, ap, ◌∙◌, subst, slice_index, refl, arith, length}
use Rattle.entry_slots.specs.Entries.{off_at}
use Rattle.entry_slots.specs.Links.{IsRemovedLink}
use Rattle.entry_slots.specs.Standing.{Stands, entries}
use Rattle.entry_slots.proofs.GhostEntries.{restand}
use Rattle.entry_slots.proofs.RowBlocks.{room, told_at}
use Rattle.entry_slots.proofs.KeySearch.{stands_along}
use Rattle.entry_slots.proofs.StorableWords.{may_along}
use Rattle.entry_slots.proofs.ChainCuts.{spot_word}
use Rattle.entry_slots.proofs.RemovedRows.{link_home}
use Rattle.entry_slots.proofs.RowListMoves.{named_stands, loose_there, off_none, off_small, off_head, off_word}
use Rattle.entry_slots.proofs.slots.EntrySlots.take_off.Goals as goal

pub returns-in_default-clause-stand : goal.returns-in_default-clause-stand
returns-in_default-clause-stand g c =
    let s = entries c.args.self.now in
    let e' = record c.args.self.now { standing = c.then-self.result } in
    subst (λ x. Stands e' (g.S.WordsIn.words c.removed_link.new.seg) (g.S.WordsIn.aside c.removed_link.new.seg) x) (sym c.then-self.ensures)
    (restand {e' = e'} (stands_along (g.S.WordsIn.words c.removed_link.new.seg) (g.S.WordsIn.aside c.removed_link.new.seg) (off_none s c.requires.stand c.args.at c.in_default.ensures.none.1) c.removed_link.ensures.kept.words c.removed_link.ensures.kept.aside) refl refl refl refl refl refl)

pub next_of-next-requires : goal.next_of-next-requires
next_of-next-requires g c =
    let s = entries c.args.self.now in
    let h1 = stands_along (g.S.WordsIn.words c.removed_link.new.seg) (g.S.WordsIn.aside c.removed_link.new.seg) c.requires.stand c.removed_link.ensures.kept.words c.removed_link.ensures.kept.aside in
    let link = subst (λ (w : List ℕ). IsRemovedLink w s.removed c.args.at c.in-Some.link) (sym c.removed_link.ensures.kept.words) c.in-Some.ensures.some in
    let r = loose_there s h1 c.args.at c.requires.there in
    let w = room r.1 in
    let some : c.args.at ≢ 0 = λ q. omega (arith, w.some, r.2) in
    record {
      inside = omega (arith, w.high, w.enough, r.2);
      told = told_at r.1 c.args.at 1 r.2 (omega arith) (omega arith);
      place = off_small s h1 c.args.at c.in-Some.link some link;
    }

pub name-requires : goal.name-requires
name-requires g c = record {
  may = λ some.
      let s = entries c.args.self.now in
      let h1 = stands_along (g.S.WordsIn.words c.removed_link.new.seg) (g.S.WordsIn.aside c.removed_link.new.seg) c.requires.stand c.removed_link.ensures.kept.words c.removed_link.ensures.kept.aside in
      let link = subst (λ (w : List ℕ). IsRemovedLink w s.removed c.args.at c.in-Some.link) (sym c.removed_link.ensures.kept.words) c.in-Some.ensures.some in
      let w = spot_word c.in-Some.link h1 (link_home s h1 c.args.at c.in-Some.link link some) in
      record {
        inside = omega (arith, w.inside, ap length c.next_of-next.ensures.kept.words);
        may = may_along (g.S.WordsIn.words c.removed_link.new.seg) (g.S.WordsIn.words c.next_of-next.new.seg) (g.S.WordsIn.aside c.removed_link.new.seg) (g.S.WordsIn.aside c.next_of-next.new.seg) c.in-Some.link c.next_of-next.ensures.kept.words c.next_of-next.ensures.kept.aside w.may;
      };
}

pub returns-clause-stand : goal.returns-clause-stand
returns-clause-stand g c =
    let s = entries c.args.self.now in
    let h = c.requires.stand in
    let there = c.requires.there in
    let ws : List ℕ = g.S.WordsIn.words c.next_of-next.new.seg in
    let words = c.next_of-next.ensures.kept.words ∙ c.removed_link.ensures.kept.words in
    let h1 = stands_along (g.S.WordsIn.words c.next_of-next.new.seg) (g.S.WordsIn.aside c.next_of-next.new.seg) h words (c.next_of-next.ensures.kept.aside ∙ c.removed_link.ensures.kept.aside) in
    let link = subst (λ (w : List ℕ). IsRemovedLink w s.removed c.args.at c.in-Some.link) (sym words) c.in-Some.ensures.some in
    let r = loose_there s h1 c.args.at there in
    let w = room r.1 in
    let some : c.args.at ≢ 0 = λ q. omega (arith, w.some, r.2) in
    let next : c.next_of-next.result ≡ slice_index ws (c.args.at + 1) = c.next_of-next.ensures.next ∙ ap (λ (v : List ℕ). slice_index v (c.args.at + 1)) (sym c.next_of-next.ensures.kept.words) in
    let e' = record c.name.new.self { standing = c.then-self-2.result } in
    let is = c.then-self-2.ensures ∙ ap (λ k. off_at c.args.at k.state) c.name.ensures.standing in
    subst (λ x. Stands e' (g.S.WordsIn.words c.name.new.seg) (g.S.WordsIn.aside c.name.new.seg) x) (sym is)
    (restand {e' = e'} (stands_along (g.S.WordsIn.words c.name.new.seg) (g.S.WordsIn.aside c.name.new.seg)
    (named_stands c.args.self.now c.name.new.self ws (g.S.WordsIn.words c.name.new.seg) (g.S.WordsIn.aside c.next_of-next.new.seg) c.in-Some.link c.next_of-next.result (off_at c.args.at s) c.name.ensures.head c.name.ensures.word
    (λ none. off_head s h1 c.args.at c.lower_laws.ensures some c.in-Some.link link none c.next_of-next.result next)
    (λ word. off_word s h1 c.args.at c.lower_laws.ensures some c.in-Some.link link word c.next_of-next.result next))
    refl c.name.ensures.beside.aside) refl refl refl refl refl refl)
