use Rattle.std.proofs.Common.{◌≡◌, length, sym, subst, arith, rules}
use Rattle.cache_c.specs.Asked.{IsToldBy}
use Rattle.cache_c.proofs.Standing.{done_kept}
use Rattle.cache_c.proofs.HeldRows.{seats_kept, seats_left}
use Rattle.cache_c.proofs.cache.Cache.hold.Goals as goal

pub returns-then-not-is_long-clause-seats : goal.returns-then-not-is_long-clause-seats
returns-then-not-is_long-clause-seats c = λ ask kind number set.
    seats_left ask c.look-at.result.0
    (λ seat takes. c.is_long.ensures.no (search rules) (omega (arith, takes.some, takes.number, number)) takes.text (omega (arith, takes.long, set)))
    c.look-at.ensures.left

pub returns-clause-done : goal.returns-clause-done
returns-clause-done c =
    let d = c.look-at.ensures.done in
    record { reply = d.reply; done = done_kept d.done c.sit.ensures.core c.sit.ensures.words; told = subst (λ ws. IsToldBy ws d.reply c.look-at.result.0) (sym c.sit.ensures.words) d.told }

pub returns-clause-seats : goal.returns-clause-seats
returns-clause-seats c = λ ask kind number set.
    let yes = c.is_long.ensures.yes c.if-not-is_long.false in
    let all : length c.look-at.new.self.words.seats ≡ 64 = search rules in
    seats_kept ask c.args.seat c.args.least c.look-at.result.1 c.look-at.result.0 kind number set yes.0 yes.1 yes.2 all (c.look-at.ensures.text yes.1) c.look-at.ensures.left (c.look-at.ensures.block (c.look-at.ensures.text yes.1)) c.sit.ensures.memory c.sit.ensures.words (c.sit.ensures.seats)
