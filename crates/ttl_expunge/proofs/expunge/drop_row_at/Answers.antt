use Rattle.std.proofs.Common.{◌≡◌, true, false, sym, ap, ◌∙◌, subst}
use Rattle.std.proofs.lemmas.Bool.{or_left, not-true, not-false}
use Rattle.seg_words.specs.Windows.{Aside, has, is_named, held_blocks}
use Rattle.entry_slots.specs.Lists.{is_at, has_place, only_at}
use Rattle.entry_slots.specs.Entries.{Entries, freed_at, removed_at}
use Rattle.ttl_expunge.specs.ProbedRows.{Drops}
use Rattle.std.proofs.lemmas.List.Folds.{list_any-append}
use Rattle.ttl_expunge.proofs.DroppedRows.{only_of, freed_one, removed_one, drops_one, only_unrefused, only_loose}
use Rattle.entry_slots.specs.Standing.{entries}
use Rattle.ttl_expunge.proofs.expunge.drop_row_at.Goals as goal

pub is_let_go-is_free-requires : goal.is_let_go-is_free-requires
is_let_go-is_free-requires g c =
    let s = entries c.args.slots.now in
    let o = only_of c.args.spot.at (c.standing_laws.ensures.sound c.args.slots.now (g.S.WordsIn.words c.args.seg.now) (g.S.WordsIn.aside c.args.seg.now) (entries c.args.slots.now) c.requires.ready.stand) c.requires.there in
    record {
      stand = c.requires.ready.stand;
      there = list_any-append (is_at c.args.spot.at) s.rows s.removed ∙ or_left (has_place c.args.spot.at s.rows) (has_place c.args.spot.at s.removed) c.requires.there;
      unrefused = only_unrefused o c.requires.ready.refused;
    }

pub free_unlinked-requires-clause-there : goal.free_unlinked-requires-clause-there
free_unlinked-requires-clause-there g c =
    let o = only_of c.args.spot.at (c.standing_laws.ensures.sound c.args.slots.now (g.S.WordsIn.words c.args.seg.now) (g.S.WordsIn.aside c.args.seg.now) (entries c.args.slots.now) c.requires.ready.stand) c.requires.there in
    ap (λ (x : Entries). has_place c.args.spot.at x.unlinked) c.unlink_at.ensures.unlinked ∙ only_loose o

pub free_unlinked-requires-clause-unnamed : goal.free_unlinked-requires-clause-unnamed
free_unlinked-requires-clause-unnamed g c =
    let a : Aside = g.S.WordsIn.aside c.is_let_go-is_free.new.seg in
    ap (λ (x : Aside). is_named x.windows c.args.spot.at) c.unlink_at.ensures.beside.aside ∙ (c.is_let_go-is_free.ensures.probes.met.decided ∙ not-true (has c.args.spot.at (held_blocks a)) (sym c.is_let_go-is_free.ensures.free ∙ c.if-is_free.true))

pub to_removed-requires-clause-there : goal.to_removed-requires-clause-there
to_removed-requires-clause-there g c =
    let o = only_of c.args.spot.at (c.standing_laws.ensures.sound c.args.slots.now (g.S.WordsIn.words c.args.seg.now) (g.S.WordsIn.aside c.args.seg.now) (entries c.args.slots.now) c.requires.ready.stand) c.requires.there in
    ap (λ (x : Entries). has_place c.args.spot.at x.unlinked) c.unlink_at.ensures.unlinked ∙ only_loose o

pub returns-then-is_free : goal.returns-then-is_free
returns-then-is_free g c =
    let o = only_of c.args.spot.at (c.standing_laws.ensures.sound c.args.slots.now (g.S.WordsIn.words c.args.seg.now) (g.S.WordsIn.aside c.args.seg.now) (entries c.args.slots.now) c.requires.ready.stand) c.requires.there in
    let a : Aside = g.S.WordsIn.aside c.is_let_go-is_free.new.seg in
    let same : g.S.WordsIn.aside c.free_unlinked.new.seg ≡ a = c.free_unlinked.ensures.beside.aside ∙ c.unlink_at.ensures.beside.aside in
    let free : has c.args.spot.at (held_blocks a) ≡ false = not-true (has c.args.spot.at (held_blocks a)) (sym c.is_let_go-is_free.ensures.free ∙ c.if-is_free.true) in
    record {
      drops = subst (λ (x : Aside). Drops (entries c.args.slots.now) (entries c.free_unlinked.new.self) (g.S.WordsIn.aside c.args.seg.now) x c.args.t (only_at c.args.spot.at (entries c.args.slots.now).rows)) (sym same)
          (drops_one o c.is_let_go-is_free.ensures.probes.met c.requires.ready.refused (c.free_unlinked.ensures.freed ∙ (ap (freed_at c.args.spot.at) c.unlink_at.ensures.unlinked ∙ freed_one c.args.t (held_blocks a) o free)));
      stand = c.free_unlinked.ensures.stand;
      rest = c.free_unlinked.ensures.beside.rest ∙ (c.unlink_at.ensures.beside.rest ∙ c.is_let_go-is_free.ensures.probes.rest);
    }

pub returns-else-is_free : goal.returns-else-is_free
returns-else-is_free g c =
    let o = only_of c.args.spot.at (c.standing_laws.ensures.sound c.args.slots.now (g.S.WordsIn.words c.args.seg.now) (g.S.WordsIn.aside c.args.seg.now) (entries c.args.slots.now) c.requires.ready.stand) c.requires.there in
    let a : Aside = g.S.WordsIn.aside c.is_let_go-is_free.new.seg in
    let same : g.S.WordsIn.aside c.to_removed.new.seg ≡ a = c.to_removed.ensures.beside.aside ∙ c.unlink_at.ensures.beside.aside in
    let is : has c.args.spot.at (held_blocks a) ≡ true = not-false (has c.args.spot.at (held_blocks a)) (sym c.is_let_go-is_free.ensures.free ∙ c.if-is_free.false) in
    record {
      drops = subst (λ (x : Aside). Drops (entries c.args.slots.now) (entries c.to_removed.new.self) (g.S.WordsIn.aside c.args.seg.now) x c.args.t (only_at c.args.spot.at (entries c.args.slots.now).rows)) (sym same)
          (drops_one o c.is_let_go-is_free.ensures.probes.met c.requires.ready.refused (c.to_removed.ensures.removed ∙ (ap (removed_at c.args.spot.at c.args.t) c.unlink_at.ensures.unlinked ∙ removed_one c.args.t (held_blocks a) o is)));
      stand = c.to_removed.ensures.stand;
      rest = c.to_removed.ensures.beside.rest ∙ (c.unlink_at.ensures.beside.rest ∙ c.is_let_go-is_free.ensures.probes.rest);
    }
