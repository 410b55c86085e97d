-- The order in which rows are visited.
use Rattle.std.specs.Prelude.{ℕ, ◌%◌, ◌==◌, Bool, List, filter}
use Rattle.std.specs.List.{flat_map, range_with_len}
use Rattle.php_graph.specs.Numbers.{hash_of}
use Rattle.apcu_model.specs.declared.conf.Conf.{Conf}
use Rattle.apcu_model.specs.Cache.{Row}

-- the hash chain of a key
abbrev pub slot_of : Conf → List ℕ → ℕ
slot_of conf key = hash_of key % conf.slots

abbrev pub is_in_slot : Conf → ℕ → Row → Bool
is_in_slot conf slot row = slot_of conf row.key == slot

-- the rows by slot, and in one slot in the order of the list
abbrev pub in_slot_order : Conf → List Row → List Row
in_slot_order conf rows =
    flat_map (λ slot. filter (is_in_slot conf slot) rows) (range_with_len 0 conf.slots)
