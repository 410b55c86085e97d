use Rattle.std.proofs.Common.{◌≡◌, ℕ, List, sym, ◌∙◌, arith, refl, subst}
use Rattle.seg_words.specs.Windows.{Aside, is_named}
use Rattle.apcu_model.specs.Conf.{room_of}
use Rattle.sma_blocks.specs.Live.{IsLive}
use Rattle.sma_blocks.specs.Ready.{IsReady}
use Rattle.entry_slots.specs.declared.slots.EntrySlots.{EntrySlots}
use Rattle.entry_slots.specs.Entries.{Entries}
use Rattle.entry_slots.specs.Standing.{Stands, entries}
use Rattle.entry_slots.proofs.ClearedRows.{place_live, named_kept, cleared_stands, has_indexed}
use Rattle.entry_slots.proofs.GhostEntries.{restand}
use Rattle.entry_slots.proofs.UnexpiredRows.{emptied}
use Rattle.entry_slots.proofs.slots.EntrySlots.free_rows_beside.Goals as goal

pub end_all-requires-clause-inside : goal.end_all-requires-clause-inside
end_all-requires-clause-inside g c = let h = c.requires.stand in omega (arith, h.from, h.to, h.ready.end, room_of h.usable)

pub end_all-requires-clause-ready : goal.end_all-requires-clause-ready
end_all-requires-clause-ready g c = c.requires.stand.ready

pub keep-requires-clause-live : goal.keep-requires-clause-live
keep-requires-clause-live g c = λ i lt.
    let h = c.requires.stand in
    let s = entries c.args.self.now in
    let sma = c.args.self.now.sma in
    let stays = c.block_laws.ensures.before sma (g.S.WordsIn.words c.args.seg.now) (g.S.WordsIn.words c.end_all.new.seg) (g.S.WordsIn.aside c.args.seg.now) h.ready c.end_all.ensures.others in
    subst (λ blocks. IsLive blocks (Rattle.std.specs.Prelude.slice_index c.args.kept.now i)) (sym stays.blocks)
    (place_live s h c.requires.whole c.args.kept.now c.requires.kept (Rattle.std.specs.Prelude.slice_index c.args.kept.now i) (has_indexed c.args.kept.now i lt))

pub keep-requires-clause-rising : goal.keep-requires-clause-rising
keep-requires-clause-rising g c = c.requires.rising

pub keep-requires-clause-named : goal.keep-requires-clause-named
keep-requires-clause-named g c = λ at named.
    named_kept (entries c.args.self.now) c.requires.stand c.requires.whole c.args.kept.now c.requires.kept c.requires.unnamed at
    (subst (λ (a : Aside). is_named a.windows at ≡ Rattle.std.specs.Prelude.true) c.end_all.ensures.beside.aside named)

pub keep-requires-clause-ready : goal.keep-requires-clause-ready
keep-requires-clause-ready g c =
    let h = c.requires.stand in
    let ws : List ℕ = g.S.WordsIn.words c.end_all.new.seg in
    subst (λ (a : Aside). IsReady c.args.self.now.sma ws a) (sym c.end_all.ensures.beside.aside)
    (c.block_laws.ensures.before c.args.self.now.sma (g.S.WordsIn.words c.args.seg.now) ws (g.S.WordsIn.aside c.args.seg.now) h.ready c.end_all.ensures.others).ready

pub returns-clause-stand : goal.returns-clause-stand
returns-clause-stand g c =
    let old = c.args.self.now in
    let s : Entries = entries old in
    let h = c.requires.stand in
    let ws1 : List ℕ = g.S.WordsIn.words c.end_all.new.seg in
    let ws : List ℕ = g.S.WordsIn.words c.keep.new.seg in
    let aside : Aside = g.S.WordsIn.aside c.keep.new.seg in
    let first : Aside = g.S.WordsIn.aside c.args.seg.now in
    let same : aside ≡ first = c.keep.ensures.beside.aside ∙ c.end_all.ensures.beside.aside in
    let stays = c.block_laws.ensures.before old.sma (g.S.WordsIn.words c.args.seg.now) ws1 first h.ready c.end_all.ensures.others in
    let e' : EntrySlots = record old { sma = c.keep.new.self; count = 0; soonest = 18446744073709551615; standing = c.then-self.result } in
    let done = cleared_stands s h c.requires.whole c.args.kept.now c.requires.kept c.lower_laws.ensures ws1 ws c.keep.new.self c.end_all.ensures.others c.end_all.ensures.ended stays.blocks c.keep.ensures.left c.keep.ensures.others c.keep.ensures.bounds
    (subst (λ (a : Aside). IsReady c.keep.new.self ws a) same c.keep.ensures.ready) in
    subst (λ x. Stands e' ws aside x) (sym c.then-self.ensures)
    (subst (λ (a : Aside). Stands e' ws a (Rattle.entry_slots.specs.Entries.without_rows s)) (sym same) (restand {e' = e'} (emptied done 18446744073709551615 (λ some. absurd (some refl))) refl refl refl refl refl refl))
