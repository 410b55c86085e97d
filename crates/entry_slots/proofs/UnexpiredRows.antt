-- The moment up to which no row is expired.
use Rattle.std.proofs.Common.{◌≡◌, ◌≢◌, inl, inr, ℕ, ◌+◌, ◌<◌, ◌≤◌, Bool, true, false, cond, eqb, List, [], ◌∷◌, map, refl, sym, ◌∙◌, subst, arith, ◌&&◌}
use Rattle.std.specs.Prelude.{ℤ, nat_lt}
use Rattle.std.proofs.lemmas.Bool.{cases_eq, eq-eqb, or_parts, or_from, false≢true, false_from_ne_true}
use Rattle.std.specs.List.{list_any}
use Rattle.seg_words.specs.Members.{any_from, Contains-kept}
use Rattle.php_graph.specs.Numbers.{hash_of}
use Rattle.apcu_model.specs.SlotOrder.{is_in_slot, slot_of}
use Rattle.entry_slots.proofs.Chains.{slot_small}
use Rattle.seg_words.specs.Windows.{Aside}
use Rattle.php_graph.specs.declared.kind.Kind.TheVariants as kinds
use Rattle.apcu_model.specs.declared.conf.Conf.{Conf}
use Rattle.apcu_model.specs.Cache.{Row}
use Rattle.apcu_model.specs.Expiry.{is_expired, is_hard_expired, is_unused}
use Rattle.apcu_model.specs.Sequential.{touched}
use Rattle.entry_slots.specs.declared.slots.EntrySlots.{EntrySlots}
use Rattle.entry_slots.specs.Lists.{is_at}
use Rattle.entry_slots.specs.Entries.{Entries, chain_of, touched_row, number_row}
use Rattle.entry_slots.specs.Standing.{AreUnexpired, Stands}
use Rattle.entry_slots.proofs.RowChanges.{map_there}

-- it may be any moment up to which no row is expired
pub with_soonest : {e : EntrySlots} {ws : List ℕ} {aside : Aside} {s : Entries} → Stands e ws aside s → (n : ℕ) → AreUnexpired s.conf n s.rows → Stands (record e { soonest = n }) ws aside s
with_soonest h n unexpired = record {
  chains = h.chains;
  removed_chain = h.removed_chain;
  rows = h.rows;
  removed = h.removed;
  unlinked = h.unlinked;
  taken = h.taken;
  ready = h.ready;
  blocks = h.blocks;
  apart = h.apart;
  number = h.number;
  count = h.count;
  limit = h.limit;
  unexpired = unexpired;
  usable = h.usable;
  from = h.from;
  to = h.to;
  piece = h.piece;
}

-- an earlier one
pub lowered : {e : EntrySlots} {ws : List ℕ} {aside : Aside} {s : Entries} → Stands e ws aside s → (n : ℕ) → n ≤ e.soonest → Stands (record e { soonest = n }) ws aside s
lowered h n low = with_soonest h n (λ t le row c. h.unexpired t (omega (arith, low, le)) row c)

-- any moment where no row is left
pub emptied : {e : EntrySlots} {ws : List ℕ} {aside : Aside} {s : Entries} → Stands e ws aside s → (n : ℕ) → (e.count ≢ 0 → n ≡ e.soonest) → Stands (record e { soonest = n }) ws aside s
emptied {e} {ws} {aside} {s} h n kept = elim (cases_eq e.count 0) [
  | inl none ↦ with_soonest h n (λ t le row c. absurd (omega (arith, none, h.count, c.1)))
  | inr some ↦ lowered h n (omega (arith, kept some))
]

-- if no row of any chain is expired, none is
pub all_unexpired : (s : Entries) (soonest : ℕ) → 2 ≤ s.conf.slots → ((now slot : ℕ) → now ≤ soonest → slot < s.conf.slots → list_any (is_expired s.conf now) (chain_of s slot) ≡ false) → AreUnexpired s.conf soonest s.rows
all_unexpired s soonest two h now le row c =
    let slot : ℕ = slot_of s.conf row.key in
    false_from_ne_true (is_expired s.conf now row) (λ over.
    false≢true (sym (h now slot le (slot_small (hash_of row.key) s.conf.slots two))
    ∙ any_from (is_expired s.conf now) (chain_of s slot) row (Contains-kept (is_in_slot s.conf slot) s.rows row c (eq-eqb slot slot refl)) over))

later_and : (a b c : Bool) → (b && c) ≡ false → (a && b && c) ≡ false
later_and false b c h = refl
later_and true b c h = h

-- a row that is used at a moment
pub touched_unexpired : (conf : Conf) (soonest at t : ℕ) (rows : List Row) → AreUnexpired conf soonest rows → ((now : ℕ) → now ≤ soonest → (nat_lt 0 conf.ttl && nat_lt (t + conf.ttl) now) ≡ false) → AreUnexpired conf soonest (map (touched_row at t) rows)
touched_unexpired conf soonest at t rows h unpassed now le x c =
    let r = map_there (touched_row at t) rows x c in
    let was : is_expired conf now r.0 ≡ false = h now le r.0 r.1 in
    subst (λ (y : Row). is_expired conf now y ≡ false) r.2
    (elim (is_at at r.0) as (λ b. is_expired conf now (cond b (touched t r.0) r.0) ≡ false) [
      | true ↦
          or_from (is_hard_expired now (touched t r.0)) (is_unused conf.ttl now (touched t r.0)) (or_parts (is_hard_expired now r.0) (is_unused conf.ttl now r.0) was).0
          (later_and (eqb r.0.ttl 0) (nat_lt 0 conf.ttl) (nat_lt (t + conf.ttl) now) (unpassed now le))
      | false ↦ was
    ])

-- a row that gets an integer
pub number_unexpired : (conf : Conf) (soonest at : ℕ) (n : ℤ) (t : ℕ) (rows : List Row) → AreUnexpired conf soonest rows → AreUnexpired conf soonest (map (number_row at n t) rows)
number_unexpired conf soonest at n t rows h now le x c =
    let r = map_there (number_row at n t) rows x c in
    let was : is_expired conf now r.0 ≡ false = h now le r.0 r.1 in
    subst (λ (y : Row). is_expired conf now y ≡ false) r.2
    (elim (is_at at r.0) as (λ b. is_expired conf now (cond b (record r.0 { graph = kinds.Int n ∷ []; mtime = t }) r.0) ≡ false) [ true ↦ was | false ↦ was ])
