use Rattle.std.proofs.Common.{◌∙◌, ◌++◌, ap, sym}
use Rattle.std.proofs.lemmas.List.Elements.{Contains-append_left}
use Rattle.seg_words.specs.Members.{any_from}
use Rattle.std.proofs.lemmas.Bool.{eq-eqb}
use Rattle.entry_slots.specs.Lists.{is_at}
use Rattle.entry_slots.specs.Entries.{place_of}
use Rattle.entry_slots.specs.Standing.{entries}
use Rattle.mark_play.proofs.RowPlaces.{KeyRow, key_row, gone_place, other_place, its_place, rows_zero}
use Rattle.mark_play.proofs.holding.row_of.Goals as goal

pub returns-in_default-clause-place : goal.returns-in_default-clause-place
returns-in_default-clause-place g c =
    let s = entries c.args.slots.now in
    gone_place s c.args.window.now c.requires.key (sym c.in_default.is ∙ c.find.ensures.row ∙ ap (λ key. place_of key s) c.as_slice.ensures.bytes)

pub head-requires-clause-there : goal.head-requires-clause-there
head-requires-clause-there g c =
    let s = entries c.args.slots.now in
    let k : KeyRow c.args.window.now.key s.rows c.in-Some.at = key_row c.args.window.now.key s c.in-Some.at (c.in-Some.ensures.row ∙ ap (λ key. place_of key s) c.as_slice.ensures.bytes) in
    any_from (is_at c.in-Some.at) (s.rows ++ s.removed) k.row (Contains-append_left s.rows s.removed k.row k.there) (eq-eqb k.row.place c.in-Some.at k.place)

pub returns-then-head-window-clause-place : goal.returns-then-head-window-clause-place
returns-then-head-window-clause-place g c =
    let s = entries c.args.slots.now in
    let k : KeyRow c.args.window.now.key s.rows c.in-Some.at = key_row c.args.window.now.key s c.in-Some.at (c.in-Some.ensures.row ∙ ap (λ key. place_of key s) c.as_slice.ensures.bytes) in
    other_place s c.args.window.now c.in-Some.at c.head.result.number c.requires.key c.requires.stand.apart k
    (c.head.ensures.head k.row (record { there = Contains-append_left s.rows s.removed k.row k.there; place = k.place })).number c.if-head-window.true

pub returns-clause-place : goal.returns-clause-place
returns-clause-place g c =
    let s = entries c.args.slots.now in
    let k : KeyRow c.args.window.now.key s.rows c.in-Some.at = key_row c.args.window.now.key s c.in-Some.at (c.in-Some.ensures.row ∙ ap (λ key. place_of key s) c.as_slice.ensures.bytes) in
    its_place s.rows c.args.window.now.number c.head.result.number c.in-Some.at k.row k.there k.place
    (c.head.ensures.head k.row (record { there = Contains-append_left s.rows s.removed k.row k.there; place = k.place })).number c.if-head-window.false
    (rows_zero s (c.lower_laws.ensures.standing.sound c.args.slots.now (g.S.WordsIn.words c.args.seg.now) (g.S.WordsIn.aside c.args.seg.now) s c.requires.stand).placed)
