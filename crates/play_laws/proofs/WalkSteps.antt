-- One step of a walk: where it ends, and how often it gives a key.
use Rattle.std.proofs.Common.{◌≡◌, ◌⊎◌, inl, inr, ℕ, zero, suc, ◌+◌, ◌-◌, ◌<◌, ◌≤◌, Bool, true, false, cond, List, length, map, filter, Option, Some, None, refl, sym, ap, ◌∙◌, arith}
use Rattle.std.specs.Prelude.{count_by, Contains, find, unwrap_or, nat_le}
use Rattle.std.specs.List.{flat_map, range_with_len}
use Rattle.std.specs.Str.{bytes_eq}
use Rattle.std.proofs.lemmas.Bool.{leb-true, eqb-true, cases_lt}
use Rattle.std.proofs.lemmas.List.Elements.{Contains-append_cases}
use Rattle.seg_words.specs.Members.{none_in_nil, map_there, Contains-filter}
use Rattle.apcu_model.specs.declared.searching.Pattern.{Pattern}
use Rattle.apcu_model.specs.declared.searching.Fields.{Fields}
use Rattle.apcu_model.specs.declared.searching.List.TheVariants.{Active}
use Rattle.apcu_model.specs.declared.items.ItemRow.{ItemRow}
use Rattle.apcu_model.specs.Cache.{Row, Cache, has_key}
use Rattle.apcu_model.specs.Chunks.{is_item, item_of, slot_items, items_between, chunk_end, chunk_rows, chunk_of}
use Rattle.apcu_model.specs.SlotOrder.{is_in_slot, slot_of}
use Rattle.play_laws.specs.Walks.{chunk_keys, times_given}
use Rattle.play_laws.proofs.KeyCounts.{is_of, count-map, own_slot, other_slot, range_with, range_without}

-- ---- its end

-- what is found of a range stands in it, and passes
record Found (test : ℕ → Bool) (from n at : ℕ) : Type 0 where
  low : from ≤ at
  high : at < from + n
  passes : test at ≡ true

found_in : (test : ℕ → Bool) (from n at : ℕ) → find test (range_with_len from n) ≡ Some at → Found test from n at
found_in test from zero at e = absurd (cc e)
found_in test from (suc n) at e = go (test from) refl (found_in test (from + 1) n at) e
  where
    go : (b : Bool) → test from ≡ b → (find test (range_with_len (from + 1) n) ≡ Some at → Found test (from + 1) n at)
        → cond b (Some from) (find test (range_with_len (from + 1) n)) ≡ Some at → Found test from (suc n) at
    go true is later q =
        let same : from ≡ at = cc q in
        record { low = omega (arith, same); high = omega (arith, same); passes = ap test (sym same) ∙ is }
    go false is later q =
        let f = later q in
        record { low = omega (arith, f.low); high = omega (arith, f.high); passes = f.passes }

-- a step holds enough of them
abbrev holds_enough : Option Pattern → ℕ → Cache → ℕ → ℕ → ℕ → Bool
holds_enough wanted t c from size upto = nat_le size (length (items_between wanted t c from upto))

pub record Ends (wanted : Option Pattern) (t : ℕ) (c : Cache) (from size end : ℕ) : Type 0 where
  pub within : end ≤ c.conf.slots
  pub low : from ≤ c.conf.slots → from ≤ end
  pub further : 1 ≤ size → from < c.conf.slots → from < end

-- no items stand between a slot and itself
nothing_between : (wanted : Option Pattern) (t : ℕ) (c : Cache) (from n : ℕ) → n ≡ 0 → length (flat_map (slot_items wanted t c) (range_with_len from n)) ≡ 0
nothing_between wanted t c from n none = ap (λ k. length (flat_map (slot_items wanted t c) (range_with_len from k))) none

ends_at : (wanted : Option Pattern) (t : ℕ) (c : Cache) (from size : ℕ) (o : Option ℕ)
    → find (holds_enough wanted t c from size) (range_with_len from (c.conf.slots - from)) ≡ o → Ends wanted t c from size (unwrap_or o c.conf.slots)
ends_at wanted t c from size None e = record { within = omega arith; low = λ l. l; further = λ s l. l }
ends_at wanted t c from size (Some at) e =
    let f = found_in (holds_enough wanted t c from size) from (c.conf.slots - from) at e in
    let enough : size ≤ length (items_between wanted t c from at) = leb-true size (length (items_between wanted t c from at)) f.passes in
    record {
      within = omega (arith, f.low, f.high);
      low = λ l. f.low;
      further = λ some l. elim (cases_lt from at) [
        | inl less ↦ less
        | inr same ↦ absurd (omega (arith, some, enough, nothing_between wanted t c from (at - from) (omega (arith, same))))
      ];
    }

pub ends : (wanted : Option Pattern) (t : ℕ) (c : Cache) (from size : ℕ) → Ends wanted t c from size (chunk_end wanted t c from size)
ends wanted t c from size = ends_at wanted t c from size (find (holds_enough wanted t c from size) (range_with_len from (c.conf.slots - from))) refl

-- ---- how often a key is given

keys_counted : (key : List ℕ) (fields : Fields) (rows : List Row) → times_given key (map {A = ItemRow} (λ item. item.key) (map (item_of fields) rows)) ≡ count_by (has_key key) rows
keys_counted key fields rows =
    count-map (λ k. bytes_eq k key) (λ (item : ItemRow). item.key) (map (item_of fields) rows)
    ∙ count-map (λ (item : ItemRow). bytes_eq item.key key) (item_of fields) rows

others_none : (wanted : Option Pattern) (t : ℕ) (c : Cache) (key : List ℕ) (s : ℕ) → slot_of c.conf key ≡ s → (k : ℕ) → (k ≡ s → ⊥) → count_by (has_key key) (slot_items wanted t c k) ≡ 0
others_none wanted t c key s own k other = other_slot wanted t c key k (λ e. other (e ∙ own))

-- a key whose slot the step does not reach is not given
pub not_reached : (wanted : Option Pattern) (fields : Fields) (t : ℕ) (c : Cache) (from size : ℕ) (key : List ℕ) (s : ℕ) → slot_of c.conf key ≡ s → from ≤ c.conf.slots
    → (s < from) ⊎ (chunk_end wanted t c from size ≤ s) → times_given key (chunk_keys (chunk_of wanted from size Active fields t c)) ≡ 0
not_reached wanted fields t c from size key s own inside out =
    let end = chunk_end wanted t c from size in
    let low = (ends wanted t c from size).low inside in
    let where_out : (s < from) ⊎ (from + (end - from) ≤ s) = elim out [ inl before ↦ inl before | inr past ↦ inr (omega (arith, low, past)) ] in
    keys_counted key fields (chunk_rows wanted t c from size)
    ∙ range_without (has_key key) (slot_items wanted t c) s from (end - from) (others_none wanted t c key s own) where_out

-- a key whose slot it reaches is given as often as it is there
pub reached : (wanted : Option Pattern) (fields : Fields) (t : ℕ) (c : Cache) (from size : ℕ) (key : List ℕ) (s : ℕ) → slot_of c.conf key ≡ s → from ≤ s
    → s < chunk_end wanted t c from size → times_given key (chunk_keys (chunk_of wanted from size Active fields t c)) ≡ count_by (is_of wanted t key) c.rows
reached wanted fields t c from size key s own low high =
    let end = chunk_end wanted t c from size in
    let here : count_by (has_key key) (slot_items wanted t c s) ≡ count_by (has_key key) (slot_items wanted t c (slot_of c.conf key)) = ap (λ k. count_by (has_key key) (slot_items wanted t c k)) (sym own) in
    keys_counted key fields (chunk_rows wanted t c from size)
    ∙ (range_with (has_key key) (slot_items wanted t c) s from (end - from) (others_none wanted t c key s own) low (omega (arith, low, high))
    ∙ (here ∙ own_slot wanted t c key))

-- ---- the slots of its items

record InRange (f : ℕ → List Row) (from n : ℕ) (row : Row) : Type 0 where
  at : ℕ
  low : from ≤ at
  high : at < from + n
  there : Contains (f at) row

in_range : (f : ℕ → List Row) (from n : ℕ) (row : Row) → Contains (flat_map f (range_with_len from n)) row → InRange f from n row
in_range f from zero row c = absurd (none_in_nil row c)
in_range f from (suc n) row c = elim (Contains-append_cases (f from) (flat_map f (range_with_len (from + 1) n)) row c) [
  | inl here ↦ record { at = from; low = omega arith; high = omega arith; there = here }
  | inr later ↦
      let r = in_range f (from + 1) n row later in
      record { at = r.at; low = omega (arith, r.low); high = omega (arith, r.high); there = r.there }
]

pub slots_of_items : (wanted : Option Pattern) (from size : ℕ) (fields : Fields) (t : ℕ) (c : Cache) (item : ItemRow)
    → Contains (chunk_of wanted from size Active fields t c).items item → (from ≤ slot_of c.conf item.key) × (slot_of c.conf item.key < chunk_end wanted t c from size)
slots_of_items wanted from size fields t c item there =
    let m = map_there (item_of fields) (chunk_rows wanted t c from size) item there in
    let r = in_range (slot_items wanted t c) from (chunk_end wanted t c from size - from) m.0 m.1 in
    let passes = Contains-filter (is_item wanted t) (filter (is_in_slot c.conf r.at) c.rows) m.0 r.there in
    let slot = Contains-filter (is_in_slot c.conf r.at) c.rows m.0 passes.0 in
    let same : slot_of c.conf m.0.key ≡ r.at = eqb-true (slot_of c.conf m.0.key) r.at slot.1 in
    let own : slot_of c.conf item.key ≡ r.at = ap (λ (i : ItemRow). slot_of c.conf i.key) (sym m.2) ∙ same in
    (omega (arith, own, r.low), omega (arith, own, r.low, r.high))
