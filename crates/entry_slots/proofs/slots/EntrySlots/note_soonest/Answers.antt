use Rattle.std.proofs.Common.{◌≡◌, inl, inr, false, ℕ, sym, ◌∙◌, refl, arith, subst}
use Rattle.std.proofs.lemmas.Bool.{cases_eq}
use Rattle.std.specs.List.{list_any}
use Rattle.apcu_model.specs.Expiry.{is_expired}
use Rattle.entry_slots.specs.Entries.{chain_of}
use Rattle.entry_slots.specs.Standing.{entries}
use Rattle.entry_slots.proofs.KeySearch.{stands_along}
use Rattle.entry_slots.proofs.UnexpiredRows.{with_soonest, all_unexpired}
use Rattle.entry_slots.proofs.slots.EntrySlots.note_soonest.Goals as goal

pub loop-slot-init : goal.loop-slot-init
loop-slot-init g c = record {
  unexpired = λ now slot le lt. absurd (omega (arith, lt));
  kept = record { words = refl; aside = refl; rest = refl };
}

pub soonest_in-soonest-requires : goal.soonest_in-soonest-requires
soonest_in-soonest-requires g c = record {
  stand = stands_along (g.S.WordsIn.words c.loop-slot.seg) (g.S.WordsIn.aside c.loop-slot.seg) c.requires.stand c.loop-slot.invariant.kept.words c.loop-slot.invariant.kept.aside;
  slot = omega (arith, c.loop-slot-test.true, c.requires.stand.from);
}

pub loop-slot-preserved : goal.loop-slot-preserved
loop-slot-preserved g c =
    let s = entries c.args.self.now in
    let seen = c.soonest_in-soonest.ensures in
    record {
      unexpired = λ now slot le lt. elim (cases_eq slot c.loop-slot.slot) [
        | inl here ↦ subst (λ (n : ℕ). list_any (is_expired s.conf now) (chain_of s n) ≡ false) (sym here) (seen.unexpired now le)
        | inr other ↦ c.loop-slot.invariant.unexpired now slot (omega (arith, le, seen.low)) (omega (arith, lt, other))
      ];
      kept = record { words = seen.kept.words ∙ c.loop-slot.invariant.kept.words; aside = seen.kept.aside ∙ c.loop-slot.invariant.kept.aside; rest = seen.kept.rest ∙ c.loop-slot.invariant.kept.rest };
    }

pub returns-clause-stand : goal.returns-clause-stand
returns-clause-stand g c =
    let s = entries c.args.self.now in
    let h = c.requires.stand in
    stands_along (g.S.WordsIn.words c.loop-slot.seg) (g.S.WordsIn.aside c.loop-slot.seg)
    (with_soonest h c.loop-slot.soonest (all_unexpired s c.loop-slot.soonest h.usable.slots_least (λ now slot le lt. c.loop-slot.invariant.unexpired now slot le (omega (arith, lt, h.from, c.loop-slot-test.false)))))
    c.loop-slot.invariant.kept.words c.loop-slot.invariant.kept.aside
