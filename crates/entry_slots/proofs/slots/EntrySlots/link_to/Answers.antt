use Rattle.std.proofs.Common.{◌≡◌, inl, ℕ, ◌+◌, ◌≤◌, sym, ap, ◌∙◌, arith, length, refl, subst, []}
use Rattle.std.proofs.lemmas.List.Sums.{length-filter, count_by-le-length}
use Rattle.apcu_model.specs.SlotOrder.{is_in_slot}
use Rattle.entry_slots.specs.Entries.{Entries, chain_of}
use Rattle.entry_slots.specs.Standing.{entries}
use Rattle.entry_slots.proofs.Blocks.{read_along}
use Rattle.entry_slots.proofs.Chains.{home_chain}
use Rattle.entry_slots.proofs.ChainCuts.{spot_word}
use Rattle.entry_slots.proofs.LinkSearch.{Way, way_found, way_next, way_end, way_spot, way_small}
use Rattle.entry_slots.proofs.slots.EntrySlots.link_to.Goals as goal

-- a chain is no longer than all rows
chain_short : (s : Entries) (slot count passed : ℕ) → count ≡ length s.rows → count ≤ passed → length (chain_of s slot) ≤ passed
chain_short s slot count passed e le = omega (arith, length-filter (is_in_slot s.conf slot) s.rows, count_by-le-length (is_in_slot s.conf slot) s.rows)

pub loop-passed-init : goal.loop-passed-init
loop-passed-init g c = record {
  way = record { front = []; back = chain_of (entries c.args.self.now) c.args.slot; split = refl; many = refl; none = refl; link_is = refl; rest = c.requires.stand.chains c.args.slot (omega (arith, c.requires.stand.from, c.requires.slot)) };
  kept = record { words = refl; aside = refl; rest = refl };
}

pub load-named-requires : goal.load-named-requires
load-named-requires g c =
    let h = c.requires.stand in
    let way = c.loop-passed.invariant.way in
    let w = spot_word c.loop-passed.link h (way_spot way (inl c.requires.slot) (home_chain c.args.slot h)) in
    rw c.loop-passed.invariant.kept.words w.inside

pub overflow_cast-named : goal.overflow_cast-named
overflow_cast-named g c =
    let h = c.requires.stand in
    let way = c.loop-passed.invariant.way in
    let w = spot_word c.loop-passed.link h (way_spot way (inl c.requires.slot) (home_chain c.args.slot h)) in
    let read = read_along (g.S.WordsIn.words c.args.seg.now) (g.S.WordsIn.words c.loop-passed.seg) (g.S.WordsIn.aside c.args.seg.now) (g.S.WordsIn.aside c.loop-passed.seg) c.loop-passed.link c.load-named.result c.loop-passed.invariant.kept.words c.loop-passed.invariant.kept.aside w.told c.load-named.ensures.word in
    let small = way_small way (home_chain c.args.slot h) in
    omega (arith, read, small)

pub overflow_add-link : goal.overflow_add-link
overflow_add-link g c =
    let h = c.requires.stand in
    let way = c.loop-passed.invariant.way in
    let w = spot_word c.loop-passed.link h (way_spot way (inl c.requires.slot) (home_chain c.args.slot h)) in
    let read = read_along (g.S.WordsIn.words c.args.seg.now) (g.S.WordsIn.words c.loop-passed.seg) (g.S.WordsIn.aside c.args.seg.now) (g.S.WordsIn.aside c.loop-passed.seg) c.loop-passed.link c.load-named.result c.loop-passed.invariant.kept.words c.loop-passed.invariant.kept.aside w.told c.load-named.ensures.word in
    let small = way_small way (home_chain c.args.slot h) in
    omega (arith, read, small)

pub loop-passed-preserved : goal.loop-passed-preserved
loop-passed-preserved g c =
    let s = entries c.args.self.now in
    let h0 = c.requires.stand in
    let way0 = c.loop-passed.invariant.way in
    let w = spot_word c.loop-passed.link h0 (way_spot way0 (inl c.requires.slot) (home_chain c.args.slot h0)) in
    let read = read_along (g.S.WordsIn.words c.args.seg.now) (g.S.WordsIn.words c.loop-passed.seg) (g.S.WordsIn.aside c.args.seg.now) (g.S.WordsIn.aside c.loop-passed.seg) c.loop-passed.link c.load-named.result c.loop-passed.invariant.kept.words c.loop-passed.invariant.kept.aside w.told c.load-named.ensures.word in
    record {
      way =
          let next = way_next way0 c.requires.there (λ q. c.if-named-target.false (read ∙ q)) in
          subst (λ (n : ℕ). Way (g.S.WordsIn.words c.args.seg.now) c.args.slot (chain_of s c.args.slot) c.args.target n (c.loop-passed._passed + 1)) (ap (λ (n : ℕ). n + 1) (sym read)) next;
      kept = record { words = c.load-named.ensures.words ∙ c.loop-passed.invariant.kept.words; aside = c.load-named.ensures.aside ∙ c.loop-passed.invariant.kept.aside; rest = c.load-named.ensures.rest ∙ c.loop-passed.invariant.kept.rest };
    }

pub returns-then-named-target-clause-link : goal.returns-then-named-target-clause-link
returns-then-named-target-clause-link g c =
    let h = c.requires.stand in
    let way = c.loop-passed.invariant.way in
    let w = spot_word c.loop-passed.link h (way_spot way (inl c.requires.slot) (home_chain c.args.slot h)) in
    let read = read_along (g.S.WordsIn.words c.args.seg.now) (g.S.WordsIn.words c.loop-passed.seg) (g.S.WordsIn.aside c.args.seg.now) (g.S.WordsIn.aside c.loop-passed.seg) c.loop-passed.link c.load-named.result c.loop-passed.invariant.kept.words c.loop-passed.invariant.kept.aside w.told c.load-named.ensures.word in
    way_found way (sym read ∙ c.if-named-target.true)

pub returns-clause-link : goal.returns-clause-link
returns-clause-link g c =
    let h = c.requires.stand in
    way_end c.loop-passed.invariant.way c.requires.there (chain_short (entries c.args.self.now) c.args.slot c.args.self.now.count c.loop-passed._passed h.count c.loop-passed-test.false)
