use Rattle.std.proofs.Common.{◌≡◌, ℕ, ◌+◌, List, sym, ap, ◌∙◌, subst, slice_index, refl}
use Rattle.entry_slots.specs.Entries.{moved_at}
use Rattle.entry_slots.specs.Links.{IsRemovedLink}
use Rattle.entry_slots.specs.Standing.{Stands, entries}
use Rattle.entry_slots.proofs.KeySearch.{stands_along}
use Rattle.entry_slots.proofs.GhostEntries.{restand}
use Rattle.entry_slots.proofs.ChainCuts.{spot_word}
use Rattle.entry_slots.proofs.RemovedRows.{link_home}
use Rattle.entry_slots.proofs.RowListMoves.{named_stands, unlinked_there, moved_head, moved_word}
use Rattle.entry_slots.proofs.slots.EntrySlots.append.Goals as goal

pub name-requires : goal.name-requires
name-requires g c = record {
  may = λ some.
      let s = entries c.args.self.now in
      let h1 = stands_along (g.S.WordsIn.words c.removed_link.new.seg) (g.S.WordsIn.aside c.removed_link.new.seg) c.requires.stand c.removed_link.ensures.kept.words c.removed_link.ensures.kept.aside in
      let link = subst (λ (w : List ℕ). IsRemovedLink w s.removed 0 c.in-Some.link) (sym c.removed_link.ensures.kept.words) c.in-Some.ensures.some in
      let w = spot_word c.in-Some.link h1 (link_home s h1 0 c.in-Some.link link some) in
      record { inside = w.inside; may = w.may };
}

pub returns-clause-stand : goal.returns-clause-stand
returns-clause-stand g c =
    let s = entries c.args.self.now in
    let ws : List ℕ = g.S.WordsIn.words c.removed_link.new.seg in
    let h1 = stands_along ws (g.S.WordsIn.aside c.removed_link.new.seg) c.requires.stand c.removed_link.ensures.kept.words c.removed_link.ensures.kept.aside in
    let link = subst (λ (w : List ℕ). IsRemovedLink w s.removed 0 c.in-Some.link) (sym c.removed_link.ensures.kept.words) c.in-Some.ensures.some in
    let q = unlinked_there s h1 c.args.at c.requires.there in
    let alone : slice_index ws (c.args.at + 1) ≡ 0 = ap (λ (w : List ℕ). slice_index w (c.args.at + 1)) c.removed_link.ensures.kept.words ∙ c.requires.alone in
    let e' = record c.name.new.self { standing = c.then-self.result } in
    let is = c.then-self.ensures ∙ ap (λ k. moved_at c.args.at k.state) c.name.ensures.standing in
    subst (λ x. Stands e' (g.S.WordsIn.words c.name.new.seg) (g.S.WordsIn.aside c.name.new.seg) x) (sym is)
    (restand {e' = e'} (stands_along (g.S.WordsIn.words c.name.new.seg) (g.S.WordsIn.aside c.name.new.seg)
    (named_stands c.args.self.now c.name.new.self ws (g.S.WordsIn.words c.name.new.seg) (g.S.WordsIn.aside c.removed_link.new.seg) c.in-Some.link c.args.at (moved_at c.args.at s) c.name.ensures.head c.name.ensures.word
    (λ none. moved_head s h1 c.args.at c.lower_laws.ensures q.0 q.1 q.2 alone c.in-Some.link link none)
    (λ some. moved_word s h1 c.args.at c.lower_laws.ensures q.0 q.1 q.2 alone c.in-Some.link link some))
    refl c.name.ensures.beside.aside) refl refl refl refl refl refl)
