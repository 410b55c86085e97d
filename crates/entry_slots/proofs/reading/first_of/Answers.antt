use Rattle.std.proofs.Common.{◌≡◌, ℕ, ◌<◌, ◌∙◌, arith, slice_index}
use Rattle.apcu_model.specs.Conf.{room_of}
use Rattle.entry_slots.proofs.Blocks.{told_slot}
use Rattle.entry_slots.proofs.Chains.{small_slot, chain_first}
use Rattle.entry_slots.specs.Standing.{entries}
use Rattle.entry_slots.specs.Entries.{chain_of}
use Rattle.entry_slots.proofs.reading.first_of.Goals as goal

low_slot : {from slots slot : ℕ} → from ≡ slots → slot < slots → slot < from
low_slot e lt = omega arith

pub load-requires : goal.load-requires
load-requires g c =
    let h = c.requires.low.1 in
    omega (arith, h.low, h.stand.to, room_of h.stand.usable, h.stand.ready.end)

pub overflow_cast-result : goal.overflow_cast-result
overflow_cast-result g c =
    let e = c.requires.low.0 in
    let h = c.requires.low.1 in
    let low = low_slot h.stand.from h.low in
    let small = small_slot c.args.slot (entries e, h.stand) low in
    let read = c.load.ensures.word (told_slot e.sma (g.S.WordsIn.words c.args.seg.now) (g.S.WordsIn.aside c.args.seg.now) c.args.slot h.stand.ready low) in
    omega (arith, small, read)

pub returns-clause-first : goal.returns-clause-first
returns-clause-first g c = λ e h.
    let s = entries e in
    let low = low_slot h.stand.from h.low in
    c.load.ensures.word (told_slot e.sma (g.S.WordsIn.words c.args.seg.now) (g.S.WordsIn.aside c.args.seg.now) c.args.slot h.stand.ready low)
    ∙ chain_first (g.S.WordsIn.words c.args.seg.now) (slice_index (g.S.WordsIn.words c.args.seg.now) c.args.slot) (chain_of s c.args.slot) (h.stand.chains c.args.slot h.low)
