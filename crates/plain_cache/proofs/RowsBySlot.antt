-- Rows that are listed slot by slot.
use Rattle.std.proofs.Common.{◌≡◌, ◌∙◌, ℕ, suc, ◌+◌, ◌-◌, ◌<◌, List, ◌++◌, map, filter, sym, ap}
use Rattle.std.proofs.Common.{arith}
use Rattle.std.specs.List.{flat_map, range_with_len}
use Rattle.std.proofs.lemmas.List.{append_assoc, map-append}
use Rattle.apcu_model.specs.declared.conf.Conf.{Conf}
use Rattle.apcu_model.specs.declared.row_info.ListedRow.{ListedRow}
use Rattle.apcu_model.specs.Cache.{Row}
use Rattle.apcu_model.specs.Infos.{listed_of}
use Rattle.apcu_model.specs.SlotOrder.{is_in_slot}

-- one slot more of those that are left
pub slot_goes_on : (conf : Conf) (rows : List Row) (slot : ℕ) (old new : List ListedRow)
    → slot < conf.slots → new ≡ old ++ map listed_of (filter (is_in_slot conf slot) rows)
    → let left = λ (n : ℕ). flat_map (λ s. filter (is_in_slot conf s) rows)
    (range_with_len n (conf.slots - n)) in
    new ++ map listed_of (left (slot + 1)) ≡ old ++ map listed_of (left slot)
slot_goes_on conf rows slot old new low is =
    let f : ℕ → List Row = λ s. filter (is_in_slot conf s) rows in
    let rest = flat_map f (range_with_len (slot + 1) (conf.slots - (slot + 1))) in
    let many : conf.slots - slot ≡ suc (conf.slots - (slot + 1)) = omega (arith, low) in
    ap (λ l. l ++ map listed_of rest) is
    ∙ append_assoc old (map listed_of (f slot)) (map listed_of rest)
    ∙ ap (λ l. old ++ l) (sym (map-append listed_of (f slot) rest))
    ∙ ap (λ n. old ++ map listed_of (flat_map f (range_with_len slot n))) (sym many)
