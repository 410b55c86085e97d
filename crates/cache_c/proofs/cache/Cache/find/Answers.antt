use Rattle.cache_c.specs.contracts.seat_words.SeatWordsWordsIn.TheImpl as held
use Rattle.std.proofs.Common.{◌≡◌, ◌∙◌, true, Some, None, Option, sym, ap, subst, arith}
use Rattle.std.proofs.lemmas.Bool.Decides.{nat_tests}
use Rattle.std.specs.Prelude.{if◌then◌else◌}
use Rattle.apcu_model.specs.Cache.{Row}
use Rattle.apcu_model.specs.Expiry.{live_row}
use Rattle.entry_slots.specs.Standing.{entries}
use Rattle.cache_core.specs.CoreCache.{cache_of}
use Rattle.cache_info.proofs.InfoAnswers.{live_at, live_listed}
use Rattle.cache_c.specs.Standing.{cache_words}
use Rattle.cache_c.specs.Asked.{is_short}
use Rattle.cache_c.specs.Told.{IsFoundBy, IsRowBy, found_row}
use Rattle.cache_c.proofs.cache.Cache.find.Goals as goal

pub row-requires-clause-there : goal.row-requires-clause-there
row-requires-clause-there c =
    let core = c.args.self.now.core in
    let here = live_at c.args.key.now c.args.t (cache_of core) (c.in-Some.at, c.in-Some._value) (sym c.in-Some.is ∙ c.peek_in.ensures.found) in
    live_listed (entries core.slots) here.row c.in-Some.at here.there here.place

pub returns-clause-row : goal.returns-clause-row
returns-clause-row c =
    let core = c.args.self.now.core in
    let all = cache_of core in
    let key = c.args.key.now in
    let here = live_at key c.args.t all (c.in-Some.at, c.in-Some._value) (sym c.in-Some.is ∙ c.peek_in.ensures.found) in
    let told = c.row.ensures.told here.row (record { there = here.there; place = here.place }) in
    let placed = subst (λ n. IsRowBy (cache_words c.row.new.self) n here.row c.row.result) c.slot_of_key-slot.ensures.slot told in
    let short : is_short key ≡ true = grind (arith, nat_tests, c.if-key-ge4294967296.false) in
    let live : found_row key c.args.t all ≡ Some here.row = ap (λ b. if b then live_row key c.args.t all else None) short ∙ here.live in
    subst (λ (o : Option Row). IsFoundBy (cache_words c.row.new.self) all key o c.row.result) (sym live) placed

pub slot_of_key-slot-requires : goal.slot_of_key-slot-requires
slot_of_key-slot-requires c = record { stand = record { words = cache_words c.args.self.now; aside = held.ghosts.aside c.args.self.now.words; stand = c.requires.stand.copied } }
