use Rattle.std.proofs.Common.{◌∙◌, Some, refl, sym, subst, arith}
use Rattle.entry_slots.specs.Standing.{Stands, entries}
use Rattle.entry_slots.proofs.GhostEntries.{restand}
use Rattle.entry_slots.proofs.TakenBlocks.{take_place, take_some, take_none}
use Rattle.std.proofs.lemmas.Grind.{common_steps}
use Rattle.entry_slots.proofs.slots.EntrySlots.take.Goals as goal

pub returns-in_default-clause-place : goal.returns-in_default-clause-place
returns-in_default-clause-place g c = sym c.in_default.is ∙ (c.take.ensures.place ∙ take_place (entries c.args.self.now) c.args.n c.requires.stand)

pub returns-in_default-clause-stand : goal.returns-in_default-clause-stand
returns-in_default-clause-stand g c =
    take_none c.take.new.self (g.S.WordsIn.words c.take.new.seg) (g.S.WordsIn.aside c.take.new.seg) c.requires.stand c.in_default.ensures.bounds c.in_default.ensures.ready c.in_default.ensures.none c.in_default.ensures.beside.aside

pub returns-clause-place : goal.returns-clause-place
returns-clause-place g c = c.in-Some.ensures.place ∙ take_place (entries c.args.self.now) c.args.n c.requires.stand

pub returns-clause-stand : goal.returns-clause-stand
returns-clause-stand g c =
    let old = c.args.self.now in
    let e' = record old { sma = c.take.new.self; standing = c.then-self.result } in
    let done = take_some c.lower_laws.ensures old (g.S.WordsIn.words c.args.seg.now) (g.S.WordsIn.aside c.args.seg.now) c.args.n c.take.new.self (g.S.WordsIn.words c.take.new.seg) (g.S.WordsIn.aside c.take.new.seg) (Some c.in-Some.at)
    c.requires.size.1 c.in-Some.ensures.place c.in-Some.ensures.taken c.in-Some.ensures.others c.in-Some.ensures.bounds c.in-Some.ensures.beside.aside c.in-Some.ensures.ready (entries old) c.requires.stand in
    subst (λ x. Stands e' (g.S.WordsIn.words c.take.new.seg) (g.S.WordsIn.aside c.take.new.seg) x) (sym c.then-self.ensures)
    (restand {e' = e'} done refl refl refl refl refl refl)

pub returns-clause-none : goal.returns-clause-none
returns-clause-none c = grind (arith, common_steps)

pub returns-clause-same : goal.returns-clause-same
returns-clause-same c = grind (arith, common_steps)
