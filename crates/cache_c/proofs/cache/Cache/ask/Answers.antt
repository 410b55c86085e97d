use Rattle.std.proofs.Common.{◌≡◌, true, refl, arith}
use Rattle.std.proofs.lemmas.Bool.Decides.{nat_tests}
use Rattle.cache_c.specs.Asked.{is_short}
use Rattle.cache_c.specs.Standing.{cache_words}
use Rattle.cache_c.specs.contracts.seat_words.SeatWordsWordsIn.TheImpl as held
use Rattle.cache_c.proofs.HeldRows.{seats_left}
use Rattle.cache_c.proofs.cache.Cache.ask.Goals as goal

pub returns-clause-seats : goal.returns-clause-seats
returns-clause-seats c = seats_left c.args.ask.now c.answer.result (λ seat takes. c.if-ask-eq-HOLD.false takes.hold) c.answer.ensures.left

pub slot_of_hash-slot-requires : goal.slot_of_hash-slot-requires
slot_of_hash-slot-requires c = record { stand = record { words = cache_words c.args.self.now; aside = held.ghosts.aside c.args.self.now.words; stand = c.requires.may.stand.copied } }

pub hold-requires-clause-slot : goal.hold-requires-clause-slot
hold-requires-clause-slot c =
    let short : is_short c.args.key.now ≡ true = grind (arith, nat_tests, c.if-key-ge4294967296.false) in
    c.slot_of_hash-slot.ensures.slot c.args.key.now (c.requires.may.hash short)

pub answer-requires-clause-slot : goal.answer-requires-clause-slot
answer-requires-clause-slot c =
    let short : is_short c.args.key.now ≡ true = grind (arith, nat_tests, c.if-key-ge4294967296.false) in
    c.slot_of_hash-slot.ensures.slot c.args.key.now (c.requires.may.hash short)

pub returns-then-ask-eq-HOLD-clause-seats : goal.returns-then-ask-eq-HOLD-clause-seats
returns-then-ask-eq-HOLD-clause-seats c = c.hold.ensures.seats c.args.ask.now c.if-ask-eq-HOLD.true refl refl
