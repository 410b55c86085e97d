use Rattle.std.proofs.Common.{◌≡◌, ◌+◌, true, false, cond, sym, ap, ◌∙◌, subst, arith, List, [], ◌∷◌, filter}
use Rattle.apcu_model.specs.Cache.{Row}
use Rattle.std.proofs.lemmas.Bool.{or_left}
use Rattle.std.proofs.lemmas.List.Folds.{list_any-append}
use Rattle.entry_slots.specs.Lists.{is_at, has_place, only_at}
use Rattle.ttl_expunge.specs.Steps.{DropsRows}
use Rattle.ttl_expunge.specs.DropRules.{is_to_drop}
use Rattle.ttl_expunge.proofs.DroppedRows.{only_of}
use Rattle.ttl_expunge.proofs.EventSteps.{may_kept, drops_kept, drops_nothing}
use Rattle.entry_slots.specs.Standing.{entries}
use Rattle.ttl_expunge.proofs.chains.drop_if.Goals as goal

pub returns-then-is_dropped-clause-drops : goal.returns-then-is_dropped-clause-drops
returns-then-is_dropped-clause-drops g c =
    let s = entries c.args.slots.now in
    let o = only_of c.args.spot.at (c.standing_laws.ensures.sound c.args.slots.now (g.S.WordsIn.words c.args.seg.now) (g.S.WordsIn.aside c.args.seg.now) (entries c.args.slots.now) c.requires.ready.stand) c.requires.there in
    let is : is_to_drop c.args.rule c.args.t o.row ≡ true = sym (c.is_dropped.ensures.dropped o.row o.there o.place) ∙ c.if-is_dropped.true in
    let all : filter (is_to_drop c.args.rule c.args.t) (only_at c.args.spot.at s.rows) ≡ only_at c.args.spot.at s.rows = ap (filter (is_to_drop c.args.rule c.args.t)) o.only ∙ (ap (λ b. cond b (o.row ∷ []) []) is ∙ sym o.only) in
    subst (λ (l : List Row). DropsRows g.S.WordsIn c.args.slots.now c.drop_row_at.new.slots c.args.seg.now c.drop_row_at.new.seg c.args.t l) (sym all)
    (drops_kept c.is_dropped.ensures.kept c.drop_row_at.ensures)

pub returns-then-is_dropped-clause-link : goal.returns-then-is_dropped-clause-link
returns-then-is_dropped-clause-link g c = λ row there place.
    let is : is_to_drop c.args.rule c.args.t row ≡ true = sym (c.is_dropped.ensures.dropped row there place) ∙ c.if-is_dropped.true in
    ap (λ b. cond b c.args.spot.link (c.args.spot.at + 1)) (sym is)

pub returns-else-is_dropped-clause-drops : goal.returns-else-is_dropped-clause-drops
returns-else-is_dropped-clause-drops g c =
    let s = entries c.args.slots.now in
    let o = only_of c.args.spot.at (c.standing_laws.ensures.sound c.args.slots.now (g.S.WordsIn.words c.args.seg.now) (g.S.WordsIn.aside c.args.seg.now) (entries c.args.slots.now) c.requires.ready.stand) c.requires.there in
    let is : is_to_drop c.args.rule c.args.t o.row ≡ false = sym (c.is_dropped.ensures.dropped o.row o.there o.place) ∙ c.if-is_dropped.false in
    let none : filter (is_to_drop c.args.rule c.args.t) (only_at c.args.spot.at s.rows) ≡ [] = ap (filter (is_to_drop c.args.rule c.args.t)) o.only ∙ ap (λ b. cond b (o.row ∷ []) []) is in
    subst (λ (l : List Row). DropsRows g.S.WordsIn c.args.slots.now c.args.slots.now c.args.seg.now c.is_dropped.new.seg c.args.t l) (sym none)
    (drops_nothing c.args.slots.now c.args.t c.is_dropped.ensures.kept c.requires.ready)

pub returns-else-is_dropped-clause-link : goal.returns-else-is_dropped-clause-link
returns-else-is_dropped-clause-link g c = λ row there place.
    let is : is_to_drop c.args.rule c.args.t row ≡ false = sym (c.is_dropped.ensures.dropped row there place) ∙ c.if-is_dropped.false in
    ap (λ b. cond b c.args.spot.link (c.args.spot.at + 1)) (sym is)

pub drop_row_at-requires-clause-ready : goal.drop_row_at-requires-clause-ready
drop_row_at-requires-clause-ready g c = may_kept c.args.slots.now c.is_dropped.ensures.kept c.requires.ready

pub drop_row_at-requires-clause-spot : goal.drop_row_at-requires-clause-spot
drop_row_at-requires-clause-spot g c = c.requires.spot

pub drop_row_at-requires-clause-there : goal.drop_row_at-requires-clause-there
drop_row_at-requires-clause-there g c = c.requires.there

pub overflow_add-result : goal.overflow_add-result
overflow_add-result g c =
    let s = entries c.args.slots.now in
    let listed = list_any-append (is_at c.args.spot.at) s.rows s.removed ∙ or_left (has_place c.args.spot.at s.rows) (has_place c.args.spot.at s.removed) c.requires.there in
    let p = c.standing_laws.ensures.probed c.args.slots.now (g.S.WordsIn.words c.args.seg.now) (g.S.WordsIn.aside c.args.seg.now) s c.args.spot.at c.requires.ready.stand listed [] in
    omega (arith, p.inside, c.requires.ready.stand.ready.end, c.requires.ready.stand.ready.short)
