use Rattle.std.proofs.Common.{◌≡◌, ◌∙◌, ◌+◌, ◌++◌, List, ℕ, length, take, drop, map, ap, sym, arith, rules}
use denote.RawPtr.{Ptr}
use Rattle.cache_c.specs.declared.seat_words.Held.{Held}
use Rattle.cache_c.specs.Seats.{HeldImage, held_image}
use Rattle.cache_c.proofs.Seats.{run_keeps}
use Rattle.late_words.specs.contracts.late_words.LateWordsWordsIn.TheImpl as late
use Rattle.cache_c.proofs.seat_words.SeatWordsSegment.store_eight.Goals as goal

pub returns-clause-rest : goal.returns-clause-rest
returns-clause-rest c =
    let s = c.args.self.now in
    let run = c.args.eight.now in
    let words = late.ghosts.words s.late in
    let count : length run ≡ 8 = search rules in
    let held : Ptr → List HeldImage → Held = λ memory l. record { seats = s.seats; images = l; memory = memory } in
    let kept = run_keeps words run s.seats c.args.i (omega (arith, count, c.requires.place)) (λ k low. c.requires.apart k (omega (arith, low, count))) in
    ap (λ (memory : Ptr). held memory (map (held_image (late.ghosts.words c.store_eight.new.self)) s.seats)) c.store_eight.ensures.rest
    ∙ ap (λ (ws : List ℕ). held (late.ghosts.rest s.late) (map (held_image ws) s.seats)) (c.store_eight.ensures.words ∙ ap (λ (n : ℕ). take c.args.i words ++ (run ++ drop (c.args.i + n) words)) (sym count))
    ∙ ap (held (late.ghosts.rest s.late)) kept
