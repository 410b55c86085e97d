use Rattle.std.proofs.Common.{◌≡◌, ◌&&◌, ℕ, ◌+◌, List, false, sym, ap, ◌∙◌, arith, length, slice_index}
use Rattle.std.specs.Prelude.{nat_lt}
use Rattle.entry_slots.specs.Standing.{entries}
use Rattle.entry_slots.proofs.RowBlocks.{row_there, room, told_at, home_listed}
use Rattle.entry_slots.proofs.Blocks.{read_along}
use Rattle.entry_slots.proofs.RowLookUps.{own_over, own_decides, limit_decides}
use Rattle.entry_slots.proofs.GhostEntries.{entry_now}
use Rattle.entry_slots.proofs.slots.EntrySlots.expires_after.Goals as goal

pub overflow_add-at : goal.overflow_add-at
overflow_add-at g c = let r = row_there (entry_now c.requires.stand c.requires.there) in let w = room r.1 in omega (arith, w.high, w.enough, w.short, r.2)

pub overflow_add-at-2 : goal.overflow_add-at-2
overflow_add-at-2 g c = let r = row_there (entry_now c.requires.stand c.requires.there) in let w = room r.1 in omega (arith, w.high, w.enough, w.short, r.2)

pub overflow_add-at-then-own-gt0 : goal.overflow_add-at-then-own-gt0
overflow_add-at-then-own-gt0 g c = let r = row_there (entry_now c.requires.stand c.requires.there) in let w = room r.1 in omega (arith, w.high, w.enough, w.short, r.2)

pub load-own-requires : goal.load-own-requires
load-own-requires g c = let r = row_there (entry_now c.requires.stand c.requires.there) in let w = room r.1 in omega (arith, w.high, w.enough, r.2)

pub load-ctime-requires : goal.load-ctime-requires
load-ctime-requires g c = let r = row_there (entry_now c.requires.stand c.requires.there) in let w = room r.1 in omega (arith, w.high, w.enough, r.2, ap length c.load-own.ensures.words)

pub load-atime-requires : goal.load-atime-requires
load-atime-requires g c = let r = row_there (entry_now c.requires.stand c.requires.there) in let w = room r.1 in omega (arith, w.high, w.enough, r.2, ap length c.load-own.ensures.words)

pub returns-then-own-gt0-clause-unexpired : goal.returns-then-own-gt0-clause-unexpired
returns-then-own-gt0-clause-unexpired g c = λ row now is le.
    let ws : List ℕ = g.S.WordsIn.words c.args.seg.now in
    let home = home_listed row c.requires.stand is.there in
    let at = c.args.at in
    let own : c.load-own.result ≡ row.ttl = c.load-own.ensures.word (told_at home at 4 is.place (omega arith) (omega arith)) ∙ (ap (λ (n : ℕ). slice_index ws (n + 4)) (sym is.place) ∙ home.entry.ttl) in
    let ctime = read_along ws (g.S.WordsIn.words c.load-own.new.self) (g.S.WordsIn.aside c.args.seg.now) (g.S.WordsIn.aside c.load-own.new.self) (at + 5) c.load-ctime.result c.load-own.ensures.words c.load-own.ensures.aside (told_at home at 5 is.place (omega arith) (omega arith)) c.load-ctime.ensures.word in
    sym (own_decides row (entries c.args.self.now).conf c.load-own.result now false own c.if-own-gt0.true
    (sym (c.passes_after.ensures.unpassed now le) ∙ own_over row c.load-own.result c.load-ctime.result now own (ctime ∙ (ap (λ (n : ℕ). slice_index ws (n + 5)) (sym is.place) ∙ home.entry.ctime))))

pub returns-clause-unexpired : goal.returns-clause-unexpired
returns-clause-unexpired g c = λ row now is le.
    let ws : List ℕ = g.S.WordsIn.words c.args.seg.now in
    let home = home_listed row c.requires.stand is.there in
    let at = c.args.at in
    let limit : ℕ = c.args.self.now.limit in
    let own : c.load-own.result ≡ row.ttl = c.load-own.ensures.word (told_at home at 4 is.place (omega arith) (omega arith)) ∙ (ap (λ (n : ℕ). slice_index ws (n + 4)) (sym is.place) ∙ home.entry.ttl) in
    let atime = read_along ws (g.S.WordsIn.words c.load-own.new.self) (g.S.WordsIn.aside c.args.seg.now) (g.S.WordsIn.aside c.load-own.new.self) (at + 7) c.load-atime.result c.load-own.ensures.words c.load-own.ensures.aside (told_at home at 7 is.place (omega arith) (omega arith)) c.load-atime.ensures.word in
    let used = atime ∙ (ap (λ (n : ℕ). slice_index ws (n + 7)) (sym is.place) ∙ home.entry.atime) in
    sym (limit_decides row (entries c.args.self.now).conf c.load-own.result limit now false own (omega (arith, c.if-own-gt0.false)) c.requires.stand.limit
    (sym (c.passes_after-2.ensures.unpassed now le) ∙ (ap (λ (n : ℕ). nat_lt 0 n && nat_lt (c.load-atime.result + n) now) c.from.ensures
    ∙ ap (λ (n : ℕ). nat_lt 0 limit && nat_lt (n + limit) now) used)))
