-- Values as arguments: nothing if one is of the wrong kind or range.
use Rattle.std.specs.Prelude.{ℕ, ◌==◌, nat_le, bit_or, Bool, true, false, ◌&&◌}
use Rattle.std.specs.Prelude.{if◌then◌else◌, List, [], ◌∷◌, codes, Option, Some, None, IsSome}
use Rattle.std.specs.Prelude.{ℤ, pos, negsuc}
use Rattle.std.specs.Fmt.{signed_decimal}
use Rattle.std.specs.List.{fold}
use Rattle.std.specs.Option.{option_and_then, option_map}
use Rattle.std.specs.Str.{bytes_eq, is_utf8}
use Rattle.php_graph.specs.declared.key.Key.{Key}
use Rattle.php_graph.specs.declared.key.Key.TheVariants as key_kinds
use Rattle.php_graph.specs.declared.child.Child.{Child}
use Rattle.php_graph.specs.declared.child.Child.TheVariants.{Own, Back}
use Rattle.php_graph.specs.declared.kind.Kind.{Kind}
use Rattle.php_graph.specs.declared.kind.Kind.TheVariants as kinds
use Rattle.php_graph.specs.Graph.{kind_at, part_of}
use Rattle.script_read.specs.declared.choices.Asked.{Asked}
use Rattle.script_read.specs.declared.choices.Asked.TheVariants as asks
use Rattle.script_read.specs.declared.choices.Stored.{Stored}
use Rattle.script_read.specs.declared.choices.Stored.TheVariants as stores
use Rattle.apcu_model.specs.declared.searching.Pattern.{Pattern}
use Rattle.apcu_model.specs.declared.searching.Fields.{Fields}
use Rattle.apcu_model.specs.declared.searching.List.{List as RowList}
use Rattle.apcu_model.specs.declared.searching.List.TheVariants.{Active, Deleted}
use Rattle.simple_pool.specs.Names.{is_good_name, is_good_key}
use Rattle.simple_pool.specs.Requests.{is_good_ttl, are_good_keys, are_good_pairs}
use Rattle.script_read.specs.Calls.{last_moment, most_items}

-- the function's results for all of them, if it has one for each
abbrev pub each : {A B : Type 0} → (A → Option B) → List A → Option (List B)
each f [] = Some []
each f (x ∷ xs) = option_and_then (λ y. option_map (λ ys. y ∷ ys) (each f xs)) (f x)

abbrev pub or_else : {A : Type 0} → Option A → Option A → Option A
or_else (Some x) other = Some x
or_else None other = other

-- ---- plain values

abbrev pub any_value : List Kind → Option (List Kind)
any_value g = Some g

abbrev pub key : List Kind → Option (List ℕ)
key (kinds.Str bytes ∷ []) = Some bytes
key _ = None

abbrev pub integer : List Kind → Option ℤ
integer (kinds.Int n ∷ []) = Some n
integer _ = None

abbrev pub truth : List Kind → Option Bool
truth (kinds.Bool b ∷ []) = Some b
truth _ = None

abbrev pub null : List Kind → Option (Unit {0})
null (kinds.Null ∷ []) = Some tt
null _ = None

-- ---- numbers

abbrev pub from_to : ℕ → ℕ → ℤ → Option ℕ
from_to low high (pos n) = if nat_le low n && nat_le n high then Some n else None
from_to low high (negsuc n) = None

-- a ttl, in seconds
abbrev pub ttl_in : List Kind → Option ℕ
ttl_in g = option_and_then (from_to 0 4294967295) (integer g)

abbrev pub moment : List Kind → Option ℕ
moment g = option_and_then (from_to 0 last_moment) (integer g)

-- the least number of items of a step of a walk
abbrev pub chunk_size : List Kind → Option ℕ
chunk_size g = option_and_then (from_to 1 most_items) (integer g)

-- ---- arrays

-- a member that is written here is at a place of the graph
abbrev pub IsThere : List Kind → Child → Type 0
IsThere g (Own x) = IsSome (kind_at g x)
IsThere g (Back x) = Unit {0}

-- the members of an array
abbrev pub members : List Kind → Option (List (Key × Child))
members (kinds.Array ms ∷ places) = Some ms
members _ = None

abbrev pub string_of_kind : Kind → Option (List ℕ)
string_of_kind (kinds.Str bytes) = Some bytes
string_of_kind _ = None

-- the string that is written there
abbrev pub member_string : List Kind → Child → Option (List ℕ)
member_string g (Own x) = option_and_then string_of_kind (kind_at g x)
member_string g (Back x) = None

-- strings, all written there; their own keys are ignored
abbrev pub keys : List Kind → Option (List (List ℕ))
keys g = option_and_then (each (λ m. member_string g m.1)) (members g)

abbrev pub key_bytes : Key → List ℕ
key_bytes (key_kinds.Int n) = signed_decimal n
key_bytes (key_kinds.Str bytes) = bytes

-- a value of its own: no number of another place
abbrev pub own_part : List Kind → ℕ → Option Kind → Option (List Kind)
own_part g x None = None
own_part g x (Some (kinds.Same y)) = None
own_part g x (Some kind) = part_of g x

abbrev pub member_value : List Kind → Child → Option (List Kind)
member_value g (Own x) = own_part g x (kind_at g x)
member_value g (Back x) = None

-- a member's key with its value
abbrev pub pair_at : List Kind → Key × Child → Option (List ℕ × List Kind)
pair_at g m = option_map (λ v. (key_bytes m.0, v)) (member_value g m.1)

-- keys with values that share no place with others; an integer key is its decimal
abbrev pub pairs : List Kind → Option (List (List ℕ × List Kind))
pairs g = option_and_then (each (pair_at g)) (members g)

-- ---- one or many

-- one key, or an array of keys
abbrev pub asked_of : List Kind → Option Asked
asked_of g = or_else (option_map asks.One (key g)) (option_map asks.Many (keys g))

-- one key, or an array of keys with their values
abbrev pub stored : List Kind → Option Stored
stored g = or_else (option_map stores.One (key g)) (option_map stores.Many (pairs g))

-- ---- searches

-- what precedes the last `/`, and what follows it
abbrev pub by_last_slash : List ℕ → Option (List ℕ × List ℕ)
by_last_slash [] = None
by_last_slash (b ∷ bytes) =
    or_else (option_map (λ cut. (b ∷ cut.0, cut.1)) (by_last_slash bytes))
    (if b == 47 then Some ([], bytes) else None)

-- nothing follows a pattern's last `/`, or an `i`: then letters match in either case
abbrev pub pattern_ended : List ℕ × List ℕ → Option Pattern
pattern_ended cut =
    if bytes_eq cut.1 [] then Some (record { text = cut.0; fold = false })
    else if bytes_eq cut.1 (codes "i") then Some (record { text = cut.0; fold = true })
    else None

-- they begin with a `/`, and their last `/` is another one
abbrev pub slashed : List ℕ → Option Pattern
slashed [] = None
slashed (b ∷ bytes) =
    if b == 47 then option_and_then pattern_ended (by_last_slash bytes) else None

-- `/text/` or `/text/i`, in UTF-8; the text may have slashes too
abbrev pub pattern : List ℕ → Option Pattern
pattern bytes = if is_utf8 bytes then slashed bytes else None

-- all keys, or those that a pattern matches
abbrev pub search_for : List Kind → Option (Option Pattern)
search_for (kinds.Null ∷ []) = Some None
search_for (kinds.Str bytes ∷ []) = option_map Some (pattern bytes)
search_for _ = None

-- ---- the fields of an iterator

-- the fields of an item by their names, each with its bit, from bit 0 on
abbrev pub field_bits : List (List ℕ × ℕ)
field_bits =
    (codes "key", 1)
    ∷ (codes "value", 2)
    ∷ (codes "num_hits", 4)
    ∷ (codes "mtime", 8)
    ∷ (codes "creation_time", 16)
    ∷ (codes "deletion_time", 32)
    ∷ (codes "access_time", 64)
    ∷ (codes "mem_size", 128)
    ∷ (codes "ttl", 256)
    ∷ []

abbrev pub all_fields : Fields
all_fields = record { 0 = 511 }

-- the bit by the first row with the name
abbrev pub bit_in : List (List ℕ × ℕ) → List ℕ → Option ℕ
bit_in [] name = None
bit_in (row ∷ rows) name = if bytes_eq name row.0 then Some row.1 else bit_in rows name

abbrev pub field_bit : List ℕ → Option ℕ
field_bit name = bit_in field_bits name

-- the bit of the field that is written there
abbrev pub bit_named : List Kind → Child → Option ℕ
bit_named g child = option_and_then field_bit (member_string g child)

-- an array of fields, all written there; one may occur twice
abbrev pub fields : List Kind → Option Fields
fields g =
    option_map (λ bits. record { 0 = fold bit_or 0 bits })
    (option_and_then (each (λ m. bit_named g m.1)) (members g))

abbrev pub list_named : List ℕ → Option RowList
list_named name =
    if bytes_eq name (codes "active") then Some Active
    else if bytes_eq name (codes "deleted") then Some Deleted
    else None

-- the active rows, or those that were removed
abbrev pub which_list : List Kind → Option RowList
which_list g = option_and_then list_named (key g)

-- ---- pools

-- if it passes the test
abbrev pub kept_if : {A : Type 0} → (A → Bool) → Option A → Option A
kept_if test o = option_and_then (λ x. if test x then Some x else None) o

-- a pool's name, and its keys
abbrev pub pool_name : List Kind → Option (List ℕ)
pool_name g = kept_if is_good_name (key g)

abbrev pub own_key : List Kind → Option (List ℕ)
own_key g = kept_if is_good_key (key g)

abbrev pub own_keys : List Kind → Option (List (List ℕ))
own_keys g = kept_if are_good_keys (keys g)

abbrev pub own_pairs : List Kind → Option (List (List ℕ × List Kind))
own_pairs g = kept_if are_good_pairs (pairs g)

-- a time to live in seconds, or a null for none
abbrev pub own_ttl : List Kind → Option (Option ℤ)
own_ttl g =
    or_else (option_map (λ n. None) (null g)) (option_map Some (kept_if is_good_ttl (integer g)))

-- the default for a value that is left out
abbrev pub null_value : List Kind
null_value = kinds.Null ∷ []
