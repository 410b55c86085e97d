use Rattle.std.proofs.Common.{ℕ, ◌%◌, arith, List, sym, ap, ◌∙◌, refl, subst}
use Rattle.seg_words.specs.Windows.{Aside}
use Rattle.sma_blocks.specs.Live.{live_blocks}
use Rattle.apcu_model.specs.Conf.{piece_even, room_of}
use Rattle.entry_slots.specs.declared.slots.EntrySlots.{EntrySlots}
use Rattle.entry_slots.specs.Standing.{Stands}
use Rattle.entry_slots.proofs.EmptyEntries.{bare_stands}
use Rattle.entry_slots.proofs.slots.EntrySlots.format.Goals as goal

pub end_chains-requires-clause-inside : goal.end_chains-requires-clause-inside
end_chains-requires-clause-inside g c = omega (arith, room_of c.requires.usable, c.requires.all)

pub format-requires-clause-even_piece : goal.format-requires-clause-even_piece
format-requires-clause-even_piece g c = ap (λ (x : ℕ). x % 2) c.piece.ensures ∙ piece_even c.requires.usable

pub format-requires-clause-room : goal.format-requires-clause-room
format-requires-clause-room g c = omega (arith, room_of c.requires.usable, c.requires.all, c.end_chains.ensures.others.count)

pub returns-clause-stand : goal.returns-clause-stand
returns-clause-stand g c =
    let ws : List ℕ = g.S.WordsIn.words c.format.new.seg in
    let aside : Aside = g.S.WordsIn.aside c.format.new.seg in
    let e' : EntrySlots = record { sma = c.format.result; removed = 0; next_number = 1; count = 0; limit = c.args.conf.now.ttl; soonest = 18446744073709551615; standing = c.start.result } in
    subst (λ x. Stands e' ws aside x) (sym c.start.ensures)
    (bare_stands e' ws aside c.args.conf.now c.requires.usable
    (λ slot lt. c.format.ensures.before.before slot lt ∙ c.end_chains.ensures.ended slot lt)
    refl refl refl c.format.ensures.ready
    (ap (live_blocks ws) c.format.ensures.from ∙ c.format.ensures.empty)
    c.format.ensures.from
    (c.format.ensures.ready.end ∙ (c.format.ensures.before.count ∙ (c.end_chains.ensures.others.count ∙ c.requires.all)))
    (c.format.ensures.piece ∙ c.piece.ensures))
