use Rattle.std.proofs.Common.{◌≡◌, false, cond, sym, ap, ◌∙◌, subst}
use Rattle.std.proofs.lemmas.Bool.{or_right, not-true, not-false}
use Rattle.seg_words.specs.Probing.{Met}
use Rattle.seg_words.specs.Windows.{Aside, has, held_blocks}
use Rattle.entry_slots.specs.Lists.{is_at, has_place}
use Rattle.entry_slots.specs.Entries.{freed_at}
use Rattle.std.proofs.lemmas.List.Folds.{list_any-append}
use Rattle.entry_slots.specs.Standing.{entries}
use Rattle.ttl_expunge.proofs.expunge.sweep_at.Goals as goal

pub is_let_go-requires-clause-there : goal.is_let_go-requires-clause-there
is_let_go-requires-clause-there g c =
    let s = entries c.args.slots.now in
    list_any-append (is_at c.args.at) s.rows s.removed ∙ or_right (has_place c.args.at s.rows) (has_place c.args.at s.removed) c.requires.there

pub free-requires-clause-there : goal.free-requires-clause-there
free-requires-clause-there g c =
    let s = entries c.args.slots.now in
    list_any-append (is_at c.args.at) s.unlinked s.removed ∙ or_right (has_place c.args.at s.unlinked) (has_place c.args.at s.removed) c.requires.there

pub free-requires-clause-unnamed : goal.free-requires-clause-unnamed
free-requires-clause-unnamed g c = c.is_let_go.ensures.probes.met.decided ∙ not-true (has c.args.at (held_blocks (g.S.WordsIn.aside c.is_let_go.new.seg))) (sym c.is_let_go.ensures.free ∙ c.if-is_let_go.true)

pub returns-then-is_let_go-clause-swept : goal.returns-then-is_let_go-clause-swept
returns-then-is_let_go-clause-swept g c =
    let s = entries c.args.slots.now in
    let free : has c.args.at (held_blocks (g.S.WordsIn.aside c.is_let_go.new.seg)) ≡ false = not-true (has c.args.at (held_blocks (g.S.WordsIn.aside c.is_let_go.new.seg))) (sym c.is_let_go.ensures.free ∙ c.if-is_let_go.true) in
    c.free.ensures.freed ∙ ap (λ b. cond b s (freed_at c.args.at s)) (sym (ap (λ (a : Aside). has c.args.at (held_blocks a)) c.free.ensures.beside.aside ∙ free))

pub returns-then-is_let_go-clause-probes : goal.returns-then-is_let_go-clause-probes
returns-then-is_let_go-clause-probes g c = record {
  met = subst (λ a. Met (g.S.WordsIn.aside c.args.seg.now) a c.args.at) (sym c.free.ensures.beside.aside) c.is_let_go.ensures.probes.met;
  stand = c.free.ensures.stand;
  rest = c.free.ensures.beside.rest ∙ c.is_let_go.ensures.probes.rest;
}

pub returns-else-is_let_go-clause-swept : goal.returns-else-is_let_go-clause-swept
returns-else-is_let_go-clause-swept g c =
    let s = entries c.args.slots.now in
    ap (λ b. cond b s (freed_at c.args.at s)) (sym (not-false (has c.args.at (held_blocks (g.S.WordsIn.aside c.is_let_go.new.seg))) (sym c.is_let_go.ensures.free ∙ c.if-is_let_go.false)))
