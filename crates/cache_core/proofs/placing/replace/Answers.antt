use Rattle.std.proofs.lemmas.Grind.{common_steps}
use Rattle.std.proofs.Common.{arith, ◌≡◌, true, false, sym, ap, ◌∙◌, subst}
use Rattle.std.proofs.lemmas.Bool.{or_left, not-true, not-false}
use Rattle.seg_words.specs.Windows.{Aside, has, is_named, held_blocks}
use Rattle.entry_slots.specs.Lists.{is_at, has_place}
use Rattle.entry_slots.specs.Entries.{Entries, freed_at, removed_at}
use Rattle.cache_core.specs.Placing.{Replaces}
use Rattle.std.proofs.lemmas.List.Folds.{list_any-append}
use Rattle.cache_core.proofs.ReplacedRows.{old_is, spot_some, spot_none, replaces_none, replaces_old, replaced_free, replaced_held, old_loose, old_unrefused}
use Rattle.entry_slots.specs.Standing.{entries}
use Rattle.value_image.specs.Contained.{graph_of}
use Rattle.cache_core.proofs.placing.replace.Goals as goal

pub returns-then-old-eq0-clause-replaces : goal.returns-then-old-eq0-clause-replaces
returns-then-old-eq0-clause-replaces g c =
    let sound = c.lower_laws.ensures.standing.sound c.args.slots.now (g.S.WordsIn.words c.args.seg.now) (g.S.WordsIn.aside c.args.seg.now) (entries c.args.slots.now) c.requires.ready.stand in
    replaces_none c.args.at c.args.key.now (graph_of c.args.content.now) c.args.ttl c.args.t (spot_none c.args.key.now c.args.spot.at sound c.requires.spot.old_is c.if-old-eq0.true) c.link_at.ensures.beside.aside c.requires.ready.refused c.link_at.ensures.linked

pub is_let_go-is_free-requires : goal.is_let_go-is_free-requires
is_let_go-is_free-requires g c =
    let s = entries c.args.slots.now in
    let sound = c.lower_laws.ensures.standing.sound c.args.slots.now (g.S.WordsIn.words c.args.seg.now) (g.S.WordsIn.aside c.args.seg.now) (entries c.args.slots.now) c.requires.ready.stand in
    let o = old_is c.args.key.now c.args.spot.at sound (spot_some s c.args.key.now c.args.spot.at c.requires.spot.old_is c.if-old-eq0.false) in
    record {
      stand = c.requires.ready.stand;
      there = list_any-append (is_at c.args.spot.at) s.rows s.removed ∙ or_left (has_place c.args.spot.at s.rows) (has_place c.args.spot.at s.removed) o.listed;
      unrefused = old_unrefused o c.requires.ready.refused;
    }

pub free_unlinked-requires-clause-there : goal.free_unlinked-requires-clause-there
free_unlinked-requires-clause-there g c =
    let sound = c.lower_laws.ensures.standing.sound c.args.slots.now (g.S.WordsIn.words c.args.seg.now) (g.S.WordsIn.aside c.args.seg.now) (entries c.args.slots.now) c.requires.ready.stand in
    let o = old_is c.args.key.now c.args.spot.at sound (spot_some (entries c.args.slots.now) c.args.key.now c.args.spot.at c.requires.spot.old_is c.if-old-eq0.false) in
    ap (λ (x : Entries). has_place c.args.spot.at x.unlinked) c.link_at-2.ensures.linked ∙ old_loose o

pub free_unlinked-requires-clause-unnamed : goal.free_unlinked-requires-clause-unnamed
free_unlinked-requires-clause-unnamed g c =
    let a : Aside = g.S.WordsIn.aside c.is_let_go-is_free.new.seg in
    ap (λ (x : Aside). is_named x.windows c.args.spot.at) c.link_at-2.ensures.beside.aside ∙ (c.is_let_go-is_free.ensures.probes.met.decided ∙ not-true (has c.args.spot.at (held_blocks a)) (sym c.is_let_go-is_free.ensures.free ∙ c.if-is_free.true))

pub to_removed-requires-clause-there : goal.to_removed-requires-clause-there
to_removed-requires-clause-there g c =
    let sound = c.lower_laws.ensures.standing.sound c.args.slots.now (g.S.WordsIn.words c.args.seg.now) (g.S.WordsIn.aside c.args.seg.now) (entries c.args.slots.now) c.requires.ready.stand in
    let o = old_is c.args.key.now c.args.spot.at sound (spot_some (entries c.args.slots.now) c.args.key.now c.args.spot.at c.requires.spot.old_is c.if-old-eq0.false) in
    ap (λ (x : Entries). has_place c.args.spot.at x.unlinked) c.link_at-2.ensures.linked ∙ old_loose o

pub returns-then-is_free-clause-replaces : goal.returns-then-is_free-clause-replaces
returns-then-is_free-clause-replaces g c =
    let s = entries c.args.slots.now in
    let sound = c.lower_laws.ensures.standing.sound c.args.slots.now (g.S.WordsIn.words c.args.seg.now) (g.S.WordsIn.aside c.args.seg.now) (entries c.args.slots.now) c.requires.ready.stand in
    let o = old_is c.args.key.now c.args.spot.at sound (spot_some s c.args.key.now c.args.spot.at c.requires.spot.old_is c.if-old-eq0.false) in
    let a : Aside = g.S.WordsIn.aside c.is_let_go-is_free.new.seg in
    let same : g.S.WordsIn.aside c.free_unlinked.new.seg ≡ a = c.free_unlinked.ensures.beside.aside ∙ c.link_at-2.ensures.beside.aside in
    let free : has c.args.spot.at (held_blocks a) ≡ false = not-true (has c.args.spot.at (held_blocks a)) (sym c.is_let_go-is_free.ensures.free ∙ c.if-is_free.true) in
    subst (λ (x : Aside). Replaces s (entries c.free_unlinked.new.self) (g.S.WordsIn.aside c.args.seg.now) x c.args.at c.args.key.now (graph_of c.args.content.now) c.args.ttl c.args.t) (sym same)
    (replaces_old c.args.at c.args.key.now (graph_of c.args.content.now) c.args.ttl c.args.t o c.is_let_go-is_free.ensures.probes.met c.requires.ready.refused
    (replaced_free (held_blocks a) c.args.at c.args.key.now (graph_of c.args.content.now) c.args.ttl c.args.t o free (c.free_unlinked.ensures.freed ∙ ap (freed_at c.args.spot.at) c.link_at-2.ensures.linked)))

pub returns-else-is_free-clause-replaces : goal.returns-else-is_free-clause-replaces
returns-else-is_free-clause-replaces g c =
    let s = entries c.args.slots.now in
    let sound = c.lower_laws.ensures.standing.sound c.args.slots.now (g.S.WordsIn.words c.args.seg.now) (g.S.WordsIn.aside c.args.seg.now) (entries c.args.slots.now) c.requires.ready.stand in
    let o = old_is c.args.key.now c.args.spot.at sound (spot_some s c.args.key.now c.args.spot.at c.requires.spot.old_is c.if-old-eq0.false) in
    let a : Aside = g.S.WordsIn.aside c.is_let_go-is_free.new.seg in
    let same : g.S.WordsIn.aside c.to_removed.new.seg ≡ a = c.to_removed.ensures.beside.aside ∙ c.link_at-2.ensures.beside.aside in
    let is : has c.args.spot.at (held_blocks a) ≡ true = not-false (has c.args.spot.at (held_blocks a)) (sym c.is_let_go-is_free.ensures.free ∙ c.if-is_free.false) in
    subst (λ (x : Aside). Replaces s (entries c.to_removed.new.self) (g.S.WordsIn.aside c.args.seg.now) x c.args.at c.args.key.now (graph_of c.args.content.now) c.args.ttl c.args.t) (sym same)
    (replaces_old c.args.at c.args.key.now (graph_of c.args.content.now) c.args.ttl c.args.t o c.is_let_go-is_free.ensures.probes.met c.requires.ready.refused
    (replaced_held (held_blocks a) c.args.at c.args.key.now (graph_of c.args.content.now) c.args.ttl c.args.t o is (c.to_removed.ensures.removed ∙ ap (removed_at c.args.spot.at c.args.t) c.link_at-2.ensures.linked)))

pub lower_laws-requires : goal.lower_laws-requires
lower_laws-requires g c = grind (arith, common_steps)

pub link_at-requires-clause-short : goal.link_at-requires-clause-short
link_at-requires-clause-short g c = grind (arith, common_steps)

pub link_at-requires-clause-stand : goal.link_at-requires-clause-stand
link_at-requires-clause-stand g c = c.requires.ready.stand

pub link_at-requires-clause-taken : goal.link_at-requires-clause-taken
link_at-requires-clause-taken g c = grind (arith, common_steps)

pub link_at-requires-clause-spot : goal.link_at-requires-clause-spot
link_at-requires-clause-spot g c = grind (arith, common_steps)

pub returns-then-old-eq0-clause-stand : goal.returns-then-old-eq0-clause-stand
returns-then-old-eq0-clause-stand g c = c.link_at.ensures.stand

pub returns-then-old-eq0-clause-rest : goal.returns-then-old-eq0-clause-rest
returns-then-old-eq0-clause-rest g c = c.link_at.ensures.beside.rest

pub link_at-requires-2-clause-short : goal.link_at-requires-2-clause-short
link_at-requires-2-clause-short g c = grind (arith, common_steps)

pub link_at-requires-2-clause-stand : goal.link_at-requires-2-clause-stand
link_at-requires-2-clause-stand g c = c.is_let_go-is_free.ensures.probes.stand

pub link_at-requires-2-clause-taken : goal.link_at-requires-2-clause-taken
link_at-requires-2-clause-taken g c = grind (arith, common_steps)

pub link_at-requires-2-clause-spot : goal.link_at-requires-2-clause-spot
link_at-requires-2-clause-spot g c = grind (arith, common_steps)

pub free_unlinked-requires-clause-stand : goal.free_unlinked-requires-clause-stand
free_unlinked-requires-clause-stand g c = c.link_at-2.ensures.stand

pub to_removed-requires-clause-stand : goal.to_removed-requires-clause-stand
to_removed-requires-clause-stand g c = c.link_at-2.ensures.stand

pub returns-then-is_free-clause-stand : goal.returns-then-is_free-clause-stand
returns-then-is_free-clause-stand g c = c.free_unlinked.ensures.stand

pub returns-then-is_free-clause-rest : goal.returns-then-is_free-clause-rest
returns-then-is_free-clause-rest g c = c.free_unlinked.ensures.beside.rest ∙ (c.link_at-2.ensures.beside.rest ∙ c.is_let_go-is_free.ensures.probes.rest)

pub returns-else-is_free-clause-stand : goal.returns-else-is_free-clause-stand
returns-else-is_free-clause-stand g c = c.to_removed.ensures.stand

pub returns-else-is_free-clause-rest : goal.returns-else-is_free-clause-rest
returns-else-is_free-clause-rest g c = c.to_removed.ensures.beside.rest ∙ (c.link_at-2.ensures.beside.rest ∙ c.is_let_go-is_free.ensures.probes.rest)
