-- What an iterator prints: the items of all its steps, or its totals.
use Rattle.std.specs.Prelude.{ℕ, ◌+◌, ◌==◌, if◌then◌else◌, List, [], ◌∷◌, ◌++◌, length, codes}
use Rattle.std.specs.Prelude.{unwrap_or}
use Rattle.std.specs.Fmt.{decimal}
use Rattle.std.specs.Int.{bit_at}
use Rattle.std.specs.List.{flat_map, sum_by}
use Rattle.php_graph.specs.declared.kind.Kind.{Kind}
use Rattle.php_graph.specs.declared.kind.Kind.TheVariants.{Null}
use Rattle.apcu_model.specs.declared.searching.Fields.{Fields}
use Rattle.apcu_model.specs.declared.items.ItemRow.{ItemRow}
use Rattle.apcu_model.specs.declared.request.Reply.{Reply}
use Rattle.apcu_model.specs.declared.request.Reply.TheVariants.{Chunk, Totals}
use Rattle.apcu_model.specs.Infos.{info_number, info_string}
use Rattle.script_read.specs.Arguments.{field_bits}
use Rattle.reply_text.specs.Replies.{Member, array_text, value_members}

-- ---- an item

-- a value under its name
abbrev pub NamedValue : Type 0
NamedValue = List ℕ × List Kind

-- the number of values among these that take a number
abbrev pub numbers_of : List NamedValue → ℕ
numbers_of values = sum_by (λ (v : NamedValue). length v.1) values

-- each value under the name of the field in its place
abbrev pub named_values : List (List ℕ × ℕ) → List (List Kind) → List NamedValue
named_values (field ∷ fields) (value ∷ values) = (field.0, value) ∷ named_values fields values
named_values _ _ = []

-- the fields of an item, in the order of the bits from 0 on; a value that was not selected is null
abbrev pub item_values : ItemRow → List NamedValue
item_values row =
    named_values field_bits
    (info_string row.key 1
    ∷ unwrap_or row.value (Null ∷ [])
    ∷ info_number row.hits 1
    ∷ info_number row.mtime 1
    ∷ info_number row.ctime 1
    ∷ info_number row.dtime 1
    ∷ info_number row.atime 1
    ∷ info_number row.size 1
    ∷ info_number row.ttl 1
    ∷ [])

-- the value, if the bit is set
abbrev pub if_chosen : Fields → ℕ → NamedValue → List NamedValue
if_chosen fields bit v = if bit_at fields.0 bit == 1 then v ∷ [] else []

-- those that are selected, if the first one has this bit, and each other one the next
abbrev pub chosen_from : ℕ → Fields → List NamedValue → List NamedValue
chosen_from bit fields [] = []
chosen_from bit fields (v ∷ vs) = if_chosen fields bit v ++ chosen_from (bit + 1) fields vs

-- the selected fields of a row
unfoldable pub told_of : Fields → ItemRow → List NamedValue
told_of fields row = chosen_from 0 fields (item_values row)

-- the item's text, if this many values of the reply precede it
abbrev pub item_text : Fields → ℕ → ItemRow → List ℕ
item_text fields base row = array_text (value_members (base + 1) (told_of fields row))

-- its values that take a number, itself the first
abbrev pub item_numbers : Fields → ItemRow → ℕ
item_numbers fields row = 1 + numbers_of (told_of fields row)

-- ---- all items

-- items under the keys from n on, if this many values of the reply precede them
abbrev pub item_members : Fields → ℕ → ℕ → List ItemRow → List Member
item_members fields n base [] = []
item_members fields n base (row ∷ rows) =
    (decimal n, item_text fields base row)
    ∷ item_members fields (n + 1) (base + item_numbers fields row) rows

-- the items of one step
abbrev pub items_in : Reply → List ItemRow
items_in (Chunk chunk) = chunk.items
items_in _ = []

-- what a walk prints: an array of the items of its steps, with the keys 0, 1 and so on
abbrev pub walk_text : Fields → List Reply → List ℕ
walk_text fields replies = array_text (item_members fields 0 1 (flat_map items_in replies))

-- ---- totals

abbrev pub total_values : ℕ → ℕ → ℕ → List NamedValue
total_values count hits size =
    (codes "count", info_number count 1)
    ∷ (codes "hits", info_number hits 1)
    ∷ (codes "size", info_number size 1)
    ∷ []

abbrev pub totals_one : Reply → List ℕ
totals_one (Totals count hits size) = array_text (value_members 1 (total_values count hits size))
totals_one _ = []

-- what the totals of an iterator print
abbrev pub totals_text : List Reply → List ℕ
totals_text [] = []
totals_text (reply ∷ replies) = totals_one reply
