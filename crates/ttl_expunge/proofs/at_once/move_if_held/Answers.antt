use Rattle.std.proofs.Common.{◌≡◌, true, false, sym, ap, ◌∙◌, subst}
use Rattle.std.proofs.lemmas.Bool.{or_left, not-true, not-false}
use Rattle.seg_words.specs.Windows.{Aside, has, held_blocks}
use Rattle.entry_slots.specs.Lists.{is_at, has_place, only_at}
use Rattle.entry_slots.specs.Entries.{Entries, removed_at}
use Rattle.ttl_expunge.specs.ProbedRows.{Moves}
use Rattle.std.proofs.lemmas.List.Folds.{list_any-append}
use Rattle.ttl_expunge.proofs.DroppedRows.{only_of, only_unrefused, only_loose, removed_one}
use Rattle.ttl_expunge.proofs.SlotMoves.{stays_one, moves_one}
use Rattle.entry_slots.specs.Standing.{entries}
use Rattle.ttl_expunge.proofs.at_once.move_if_held.Goals as goal

pub is_let_go-is_free-requires : goal.is_let_go-is_free-requires
is_let_go-is_free-requires g c =
    let s = entries c.args.slots.now in
    let o = only_of c.args.at (c.standing_laws.ensures.sound c.args.slots.now (g.S.WordsIn.words c.args.seg.now) (g.S.WordsIn.aside c.args.seg.now) (entries c.args.slots.now) c.requires.ready.stand) c.requires.there in
    record {
      stand = c.requires.ready.stand;
      there = list_any-append (is_at c.args.at) s.rows s.removed ∙ or_left (has_place c.args.at s.rows) (has_place c.args.at s.removed) c.requires.there;
      unrefused = only_unrefused o c.requires.ready.refused;
    }

pub to_removed-requires-clause-there : goal.to_removed-requires-clause-there
to_removed-requires-clause-there g c =
    let o = only_of c.args.at (c.standing_laws.ensures.sound c.args.slots.now (g.S.WordsIn.words c.args.seg.now) (g.S.WordsIn.aside c.args.seg.now) (entries c.args.slots.now) c.requires.ready.stand) c.requires.there in
    ap (λ (x : Entries). has_place c.args.at x.unlinked) c.unlink.ensures.unlinked ∙ only_loose o

pub returns-then-not-is_free : goal.returns-then-not-is_free
returns-then-not-is_free g c =
    let s = entries c.args.slots.now in
    let o = only_of c.args.at (c.standing_laws.ensures.sound c.args.slots.now (g.S.WordsIn.words c.args.seg.now) (g.S.WordsIn.aside c.args.seg.now) (entries c.args.slots.now) c.requires.ready.stand) c.requires.there in
    let a : Aside = g.S.WordsIn.aside c.is_let_go-is_free.new.seg in
    let same : g.S.WordsIn.aside c.to_removed.new.seg ≡ a = c.to_removed.ensures.beside.aside ∙ c.unlink.ensures.beside.aside in
    let is : has c.args.at (held_blocks a) ≡ true = not-false (has c.args.at (held_blocks a)) (sym c.is_let_go-is_free.ensures.free ∙ c.if-not-is_free.true) in
    record {
      moves = subst (λ (x : Aside). Moves s (entries c.to_removed.new.self) (g.S.WordsIn.aside c.args.seg.now) x c.args.t (only_at c.args.at s.rows)) (sym same)
          (moves_one o c.is_let_go-is_free.ensures.probes.met c.requires.ready.refused is (c.to_removed.ensures.removed ∙ (ap (removed_at c.args.at c.args.t) c.unlink.ensures.unlinked ∙ removed_one c.args.t (held_blocks a) o is)));
      stand = c.to_removed.ensures.stand;
      rest = c.to_removed.ensures.beside.rest ∙ (c.unlink.ensures.beside.rest ∙ c.is_let_go-is_free.ensures.probes.rest);
    }

pub returns-else-not-is_free : goal.returns-else-not-is_free
returns-else-not-is_free g c =
    let s = entries c.args.slots.now in
    let o = only_of c.args.at (c.standing_laws.ensures.sound c.args.slots.now (g.S.WordsIn.words c.args.seg.now) (g.S.WordsIn.aside c.args.seg.now) (entries c.args.slots.now) c.requires.ready.stand) c.requires.there in
    let a : Aside = g.S.WordsIn.aside c.is_let_go-is_free.new.seg in
    let free : has c.args.at (held_blocks a) ≡ false = not-true (has c.args.at (held_blocks a)) (sym c.is_let_go-is_free.ensures.free ∙ c.if-not-is_free.false) in
    record {
      moves = stays_one o c.is_let_go-is_free.ensures.probes.met c.requires.ready.refused free;
      stand = c.is_let_go-is_free.ensures.probes.stand;
      rest = c.is_let_go-is_free.ensures.probes.rest;
    }
