use Rattle.std.proofs.Common.{◌≡◌, ℕ, ◌+◌, ◌<◌, ◌%◌, ◌≤◌, List, sym, ap, ◌∙◌, arith, length, slice_index}
use Rattle.std.proofs.lemmas.List.Sums.{length-filter, count_by-le-length}
use Rattle.php_graph.specs.Numbers.{hash_of}
use Rattle.apcu_model.specs.SlotOrder.{is_in_slot}
use Rattle.entry_slots.specs.Standing.{entries}
use Rattle.entry_slots.specs.Entries.{Entries, chain_of}
use Rattle.entry_slots.proofs.RowBlocks.{row_there, room, told_at}
use Rattle.entry_slots.proofs.Chains.{small_after, slot_small}
use Rattle.entry_slots.proofs.KeySearch.{walk_start, walk_here, walk_end, walk_whole, walk_next, find_none, find_here, stands_along, here_listed, walk_there, walk_entry, chain_places}
use Rattle.entry_slots.proofs.finding.Finder.find.Goals as goal

-- the slot of a key is one of the slots
low : (slot slots hash : ℕ) → slot ≡ hash % slots → 2 ≤ slots → slot < slots
low slot slots hash e two = omega (arith, e, slot_small hash slots two)

-- a chain is no longer than all rows
chain_short : (s : Entries) (slot count passed : ℕ) → count ≡ length s.rows → count ≤ passed → length (chain_of s slot) ≤ passed
chain_short s slot count passed e le = omega (arith, length-filter (is_in_slot s.conf slot) s.rows, count_by-le-length (is_in_slot s.conf slot) s.rows)

pub first_of-at-requires : goal.first_of-at-requires
first_of-at-requires g c =
    let e = c.requires.finds.0 in
    let f = c.requires.finds.1 in
    record { low = (e, record { stand = f.stand; low = low c.args.slot (entries e).conf.slots (hash_of c.args.key.now) c.requires.finds.2 f.stand.usable.slots_least }) }

pub loop-passed-init : goal.loop-passed-init
loop-passed-init g c = record {
  walk = λ e f is.
      let s = entries e in
      let lt = low c.args.slot s.conf.slots (hash_of c.args.key.now) is f.stand.usable.slots_least in
      walk_start c.args.key.now s c.args.slot c.first_of-at.result f.stand (omega (arith, f.stand.from, lt)) (c.first_of-at.ensures.first e (record { stand = f.stand; low = lt }));
  kept = record { words = c.first_of-at.ensures.kept.words; aside = c.first_of-at.ensures.kept.aside; rest = c.first_of-at.ensures.kept.rest };
}

pub loop-passed-preserved : goal.loop-passed-preserved
loop-passed-preserved g c =
    let words = c.has_key_at.ensures.kept.words ∙ c.loop-passed.invariant.kept.words in
    let slot : ℕ = c.args.slot in
    record {
      walk = λ e f is.
          let s = entries e in
          let walk = c.loop-passed.invariant.walk e f is in
          let here = walk_here walk c.if-at-eq0.false in
          let same = c.has_key_at.ensures.is e here.row
          (record {
            stand = stands_along (g.S.WordsIn.words c.loop-passed.seg) (g.S.WordsIn.aside c.loop-passed.seg) f.stand c.loop-passed.invariant.kept.words c.loop-passed.invariant.kept.aside;
            there = walk_there s slot c.loop-passed.at c.loop-passed._passed walk c.if-at-eq0.false;
          })
          (record { there = here_listed s slot c.loop-passed.at c.loop-passed._passed here; place = sym here.place }) in
          walk_next c.next_of-at.result here (sym c.if-has_key_at.false ∙ same) (c.next_of-at.ensures.next ∙ ap (λ (w : List ℕ). slice_index w (c.loop-passed.at + 1)) words);
      kept = record { words = c.next_of-at.ensures.kept.words ∙ words; aside = c.next_of-at.ensures.kept.aside ∙ (c.has_key_at.ensures.kept.aside ∙ c.loop-passed.invariant.kept.aside); rest = c.next_of-at.ensures.kept.rest ∙ (c.has_key_at.ensures.kept.rest ∙ c.loop-passed.invariant.kept.rest) };
    }

pub has_key_at-requires : goal.has_key_at-requires
has_key_at-requires g c =
    let e = c.requires.finds.0 in
    let f = c.requires.finds.1 in
    record {
      there = (
        e,
        record {
          stand = stands_along (g.S.WordsIn.words c.loop-passed.seg) (g.S.WordsIn.aside c.loop-passed.seg) f.stand c.loop-passed.invariant.kept.words c.loop-passed.invariant.kept.aside;
          there = walk_there (entries e) c.args.slot c.loop-passed.at c.loop-passed._passed (c.loop-passed.invariant.walk e f c.requires.finds.2) c.if-at-eq0.false;
        },
      );
      short = c.requires.short;
    }

pub next_of-at-requires : goal.next_of-at-requires
next_of-at-requires g c =
    let e = c.requires.finds.0 in
    let f = c.requires.finds.1 in
    let s = entries e in
    let entry = walk_entry s c.args.slot c.loop-passed.at c.loop-passed._passed (g.S.WordsIn.words c.has_key_at.new.seg) (g.S.WordsIn.aside c.has_key_at.new.seg) f.stand (c.loop-passed.invariant.walk e f c.requires.finds.2) c.if-at-eq0.false (c.has_key_at.ensures.kept.words ∙ c.loop-passed.invariant.kept.words) (c.has_key_at.ensures.kept.aside ∙ c.loop-passed.invariant.kept.aside) in
    let r = row_there entry in
    let w = room r.1 in
    record {
      inside = omega (arith, w.high, w.enough, r.2);
      told = told_at r.1 c.loop-passed.at 1 r.2 (omega arith) (omega arith);
      place = small_after entry;
    }

pub returns-then-at-eq0-clause-row : goal.returns-then-at-eq0-clause-row
returns-then-at-eq0-clause-row g c = λ e f is.
    let s = entries e in
    find_none s c.args.key.now c.args.slot is (walk_end (c.loop-passed.invariant.walk e f is) c.if-at-eq0.true (chain_places s c.args.slot f.stand))

pub returns-then-has_key_at-clause-row : goal.returns-then-has_key_at-clause-row
returns-then-has_key_at-clause-row g c = λ e f is.
    let s = entries e in
    let slot : ℕ = c.args.slot in
    let walk = c.loop-passed.invariant.walk e f is in
    let here = walk_here walk c.if-at-eq0.false in
    let same = c.has_key_at.ensures.is e here.row
    (record {
      stand = stands_along (g.S.WordsIn.words c.loop-passed.seg) (g.S.WordsIn.aside c.loop-passed.seg) f.stand c.loop-passed.invariant.kept.words c.loop-passed.invariant.kept.aside;
      there = walk_there s slot c.loop-passed.at c.loop-passed._passed walk c.if-at-eq0.false;
    })
    (record { there = here_listed s slot c.loop-passed.at c.loop-passed._passed here; place = sym here.place }) in
    find_here s c.args.key.now slot c.loop-passed.at c.loop-passed._passed is here (sym c.if-has_key_at.true ∙ same)

pub returns-clause-row : goal.returns-clause-row
returns-clause-row g c = λ e f is.
    let s = entries e in
    find_none s c.args.key.now c.args.slot is (walk_whole (c.loop-passed.invariant.walk e f is) (chain_short s c.args.slot c.args.self.rows c.loop-passed._passed f.rows c.loop-passed-test.false))
