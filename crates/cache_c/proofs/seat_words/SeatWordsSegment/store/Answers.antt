use Rattle.std.proofs.Common.{◌∙◌, List, ℕ, map, ap}
use denote.RawPtr.{Ptr}
use Rattle.cache_c.specs.declared.seat_words.Held.{Held}
use Rattle.cache_c.specs.Seats.{HeldImage, held_image}
use Rattle.cache_c.proofs.Seats.{images_stored}
use Rattle.late_words.specs.contracts.late_words.LateWordsWordsIn.TheImpl as late
use Rattle.cache_c.proofs.seat_words.SeatWordsSegment.store.Goals as goal

pub returns-clause-rest : goal.returns-clause-rest
returns-clause-rest c =
    let s = c.args.self.now in
    let held : Ptr → List HeldImage → Held = λ memory l. record { seats = s.seats; images = l; memory = memory } in
    ap (λ (memory : Ptr). held memory (map (held_image (late.ghosts.words c.store.new.self)) s.seats)) c.store.ensures.rest
    ∙ ap (λ (ws : List ℕ). held (late.ghosts.rest s.late) (map (held_image ws) s.seats)) c.store.ensures.words
    ∙ ap (held (late.ghosts.rest s.late)) (images_stored (late.ghosts.words s.late) s.seats c.args.i c.args.w c.requires.apart)
