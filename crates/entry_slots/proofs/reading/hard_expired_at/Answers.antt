use Rattle.std.proofs.Common.{ℕ, ◌+◌, List, sym, ap, ◌∙◌, arith, length, slice_index}
use Rattle.entry_slots.proofs.RowBlocks.{row_there, room, told_at, home_listed}
use Rattle.entry_slots.proofs.Blocks.{read_along}
use Rattle.entry_slots.proofs.RowLookUps.{endless, own_over}
use Rattle.entry_slots.proofs.GhostEntries.{entry_now}
use Rattle.entry_slots.proofs.reading.hard_expired_at.Goals as goal

pub overflow_add-at : goal.overflow_add-at
overflow_add-at g c = let r = row_there (entry_now c.requires.there.1.stand c.requires.there.1.there) in let w = room r.1 in omega (arith, w.high, w.enough, w.short, r.2)

pub overflow_add-at-2 : goal.overflow_add-at-2
overflow_add-at-2 g c = let r = row_there (entry_now c.requires.there.1.stand c.requires.there.1.there) in let w = room r.1 in omega (arith, w.high, w.enough, w.short, r.2)

pub load-own-requires : goal.load-own-requires
load-own-requires g c = let r = row_there (entry_now c.requires.there.1.stand c.requires.there.1.there) in let w = room r.1 in omega (arith, w.high, w.enough, r.2)

pub load-ctime-requires : goal.load-ctime-requires
load-ctime-requires g c = let r = row_there (entry_now c.requires.there.1.stand c.requires.there.1.there) in let w = room r.1 in omega (arith, w.high, w.enough, r.2, ap length c.load-own.ensures.words)

pub returns-then-own-eq0-clause-over : goal.returns-then-own-eq0-clause-over
returns-then-own-eq0-clause-over g c = λ e row has is.
    let ws : List ℕ = g.S.WordsIn.words c.args.seg.now in
    let home = home_listed row has.stand is.there in
    let own = c.load-own.ensures.word (told_at home c.args.at 4 is.place (omega arith) (omega arith)) in
    endless row c.load-own.result c.args.t (own ∙ (ap (λ (n : ℕ). slice_index ws (n + 4)) (sym is.place) ∙ home.entry.ttl)) c.if-own-eq0.true

pub returns-clause-over : goal.returns-clause-over
returns-clause-over g c = λ e row has is.
    let ws : List ℕ = g.S.WordsIn.words c.args.seg.now in
    let home = home_listed row has.stand is.there in
    let at = c.args.at in
    let own = c.load-own.ensures.word (told_at home at 4 is.place (omega arith) (omega arith)) in
    let ctime = read_along ws (g.S.WordsIn.words c.load-own.new.self) (g.S.WordsIn.aside c.args.seg.now) (g.S.WordsIn.aside c.load-own.new.self) (at + 5) c.load-ctime.result c.load-own.ensures.words c.load-own.ensures.aside (told_at home at 5 is.place (omega arith) (omega arith)) c.load-ctime.ensures.word in
    c.has_passed.ensures
    ∙ own_over row c.load-own.result c.load-ctime.result c.args.t
    (own ∙ (ap (λ (n : ℕ). slice_index ws (n + 4)) (sym is.place) ∙ home.entry.ttl))
    (ctime ∙ (ap (λ (n : ℕ). slice_index ws (n + 5)) (sym is.place) ∙ home.entry.ctime))

pub returns-clause-kept : goal.returns-clause-kept
returns-clause-kept g c = record {
  words = c.load-ctime.ensures.words ∙ c.load-own.ensures.words;
  aside = c.load-ctime.ensures.aside ∙ c.load-own.ensures.aside;
  rest = c.load-ctime.ensures.rest ∙ c.load-own.ensures.rest;
}
