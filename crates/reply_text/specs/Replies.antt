-- What a call prints for its own replies, in serialize notation.
use Rattle.std.specs.Prelude.{ℕ, ◌+◌, Bool, true, false, if◌then◌else◌, List, [], ◌∷◌, ◌++◌, length}
use Rattle.std.specs.Prelude.{map, codes, Option, Some, None}
use Rattle.std.specs.Fmt.{decimal}
use Rattle.std.specs.Str.{bytes_eq}
use Rattle.php_graph.specs.declared.kind.Kind.{Kind}
use Rattle.notation.specs.Notation.{text_from, text_of, integer_text, string_text, array_head}
use Rattle.notation.specs.Keys.{written_key}
use Rattle.php_graph.specs.Numbers.{int_of_text}
use Rattle.apcu_model.specs.declared.request.Reply.{Reply}
use Rattle.apcu_model.specs.declared.request.Reply.TheVariants.{Flag, Found, Absent, Number}
use Rattle.apcu_model.specs.declared.request.Reply.TheVariants.{Gave, Info}

-- ---- one reply

abbrev pub flag_text : Bool → List ℕ
flag_text true = codes "b:1;"
flag_text false = codes "b:0;"

-- it was done
abbrev pub is_done : Reply → Bool
is_done (Flag done) = done
is_done _ = false

-- whether it was done
abbrev pub done_text : List Reply → List ℕ
done_text [] = []
done_text (reply ∷ replies) = flag_text (is_done reply)

-- the value of a fetch and that it was found, or that it was not
abbrev pub fetched_one : Reply → List ℕ
fetched_one (Found g) = text_of g ++ codes "b:1;"
fetched_one _ = codes "b:0;b:0;"

-- a fetch's reply by what it found
abbrev pub fetched : Option (List Kind) → Reply
fetched None = Absent
fetched (Some g) = Found g

abbrev pub fetched_text : List Reply → List ℕ
fetched_text [] = []
fetched_text (reply ∷ replies) = fetched_one reply

-- the new value of a counter and that it counted, or that it did not
abbrev pub number_one : Reply → List ℕ
number_one (Number n) = integer_text n ++ codes "b:1;"
number_one _ = codes "b:0;b:0;"

abbrev pub number_text : List Reply → List ℕ
number_text [] = []
number_text (reply ∷ replies) = number_one reply

-- the value of an entry
abbrev pub gave_one : Reply → List ℕ
gave_one (Gave g) = text_of g
gave_one _ = []

abbrev pub gave_text : List Reply → List ℕ
gave_text [] = []
gave_text (reply ∷ replies) = gave_one reply

-- information as an array, or a null if there is no such row
abbrev pub info_one : Reply → List ℕ
info_one (Info g) = text_of g
info_one _ = codes "N;"

abbrev pub info_text : List Reply → List ℕ
info_text [] = []
info_text (reply ∷ replies) = info_one reply

-- ---- printed arrays

-- a key, and the text of its result
abbrev pub Member : Type 0
Member = List ℕ × List ℕ

-- these members in their order; a key that is an integer's decimal is that integer
abbrev pub members_text : List Member → List ℕ
members_text [] = []
members_text (m ∷ ms) = written_key (int_of_text m.0) m.0 ++ (m.1 ++ members_text ms)

abbrev pub array_text : List Member → List ℕ
array_text members = array_head (length members) ++ (members_text members ++ codes "}")

-- the keys whose reply says that it was not done
abbrev pub undone : List (List ℕ) → List Reply → List (List ℕ)
undone [] replies = []
undone (key ∷ keys) [] = []
undone (key ∷ keys) (reply ∷ replies) =
    if is_done reply then undone keys replies else key ∷ undone keys replies

-- these keys, each with the same result
abbrev pub all_with : List ℕ → List (List ℕ) → List Member
all_with answer keys = map (λ key. (key, answer)) keys

-- what a store of several keys prints: the keys that were not stored, each with -1
abbrev pub unstored_text : List (List ℕ) → List Reply → List ℕ
unstored_text keys replies = array_text (all_with (codes "i:-1;") (undone keys replies))

-- numbered strings, from number i on
abbrev pub numbered : ℕ → List (List ℕ) → List Member
numbered i [] = []
numbered i (key ∷ keys) = (decimal i, string_text key) ∷ numbered (i + 1) keys

-- what a deletion of several keys prints: the keys that were not deleted, numbered from 0
abbrev pub undeleted_text : List (List ℕ) → List Reply → List ℕ
undeleted_text keys replies = array_text (numbered 0 (undone keys replies))

-- A result is noted for a key: a key that has one keeps its place in the order, with the later
-- result.
abbrev pub noted : {A : Type 0} → List ℕ → A → List (List ℕ × A) → List (List ℕ × A)
noted key answer [] = (key, answer) ∷ []
noted key answer (m ∷ ms) = if bytes_eq m.0 key then (key, answer) ∷ ms else m ∷ noted key answer ms

-- if there is one
abbrev pub noted_if : {A : Type 0} → List ℕ → Option A → List (List ℕ × A) → List (List ℕ × A)
noted_if key None notes = notes
noted_if key (Some answer) notes = noted key answer notes

-- the results of these keys, noted one after the other, after those that are noted
abbrev pub all_noted : {A : Type 0}
    → (Reply → Option A) → List (List ℕ × A) → List (List ℕ) → List Reply → List (List ℕ × A)
all_noted answer_in notes [] replies = notes
all_noted answer_in notes (key ∷ keys) [] = notes
all_noted answer_in notes (key ∷ keys) (reply ∷ replies) =
    all_noted answer_in (noted_if key (answer_in reply) notes) keys replies

-- the key exists
abbrev pub there_in : Reply → Option (Unit {0})
there_in reply = if is_done reply then Some tt else None

-- what a test for several keys prints: those that exist, each with true
abbrev pub there_text : List (List ℕ) → List Reply → List ℕ
there_text keys replies =
    array_text (all_with (codes "b:1;") (map (λ note. note.0) (all_noted there_in [] keys replies)))

-- a value that was found
abbrev pub value_in : Reply → Option (List Kind)
value_in (Found g) = Some g
value_in _ = None

-- the texts of these values, if this many values of the reply precede them
abbrev pub value_members : ℕ → List (List ℕ × List Kind) → List Member
value_members base [] = []
value_members base (m ∷ ms) = (m.0, text_from base m.1) ∷ value_members (base + length m.1) ms

-- what a fetch of several keys prints: those that were found with their values, and that it was
-- done
abbrev pub found_text : List (List ℕ) → List Reply → List ℕ
found_text keys replies =
    array_text (value_members 1 (all_noted value_in [] keys replies)) ++ codes "b:1;"
