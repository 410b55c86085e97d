use Rattle.std.proofs.Common.{◌≡◌, ◌≢◌, ◌⊎◌, inl, inr, ℕ, true, ◌∙◌, arith}
use Rattle.std.proofs.lemmas.Bool.{or_left}
use Rattle.std.proofs.lemmas.List.Folds.{list_any-append}
use Rattle.entry_slots.specs.Lists.{is_at, has_place}
use Rattle.entry_slots.specs.Entries.{Entries, listed}
use Rattle.entry_slots.specs.Standing.{entries}
use Rattle.entry_slots.proofs.RowBlocks.{row_there, room, told_at}
use Rattle.entry_slots.proofs.Chains.{small_after}
use Rattle.entry_slots.proofs.GhostEntries.{entry_now}
use Rattle.entry_slots.proofs.slots.EntrySlots.behind_spot.Goals as goal

-- a row is an entry
row_listed : (s : Entries) (at : ℕ) → (at ≡ 0) ⊎ (has_place at s.rows ≡ true) → at ≢ 0 → has_place at (listed s) ≡ true
row_listed s at (inl none) some = absurd (some none)
row_listed s at (inr there) some = list_any-append (is_at at) s.rows s.removed ∙ or_left (has_place at s.rows) (has_place at s.removed) there

pub next_of-requires : goal.next_of-requires
next_of-requires g c =
    let entry = entry_now c.requires.stand (row_listed (entries c.args.self.now) c.args.at c.requires.there c.if-at-eq0.false) in
    let r = row_there entry in
    let w = room r.1 in
    record {
      inside = omega (arith, w.high, w.enough, r.2);
      told = told_at r.1 c.args.at 1 r.2 (omega arith) (omega arith);
      place = small_after entry;
    }
