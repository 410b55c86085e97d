use Rattle.std.proofs.Common.{◌≡◌, length, refl, ap, arith, rules}
use Rattle.late_words.specs.contracts.late_words.LateWordsWordsIn.TheImpl as late
use Rattle.cache_c.proofs.Standing.{stands_seated}
use Rattle.cache_c.proofs.HeldRows.{let_go, no_seat}
use Rattle.cache_c.proofs.cache.Cache.let_go.Goals as goal

pub returns-then-seat-ge-SEATS-clause-free : goal.returns-then-seat-ge-SEATS-clause-free
returns-then-seat-ge-SEATS-clause-free c = no_seat c.args.self.now c.args.seat c.if-seat-ge-SEATS.true

pub returns-clause-stand : goal.returns-clause-stand
returns-clause-stand c = stands_seated c.requires.stand refl c.hold.ensures.late c.args.seat 0 c.hold.ensures.seats (λ some. absurd (omega (arith, some))) (λ some. absurd (omega (arith, some)))

pub returns-clause-free : goal.returns-clause-free
returns-clause-free c =
    let all : length c.args.self.now.words.seats ≡ 64 = search rules in
    let_go c.args.seat (omega (arith, c.if-seat-ge-SEATS.false)) all refl (ap (λ w. late.ghosts.rest w) c.hold.ensures.late) (ap (λ w. late.ghosts.words w) c.hold.ensures.late) c.hold.ensures.seats
