-- The tokens of the notation: marks, numbers, and byte strings with their length before them. Each
-- is read from the front of the bytes, and gives its meaning and the bytes after it, or the first
-- fault.
use Rattle.std.specs.Prelude.{◌≡◌, ℕ, ◌+◌, ◌^◌, Bool, true, false, ◌&&◌, ◌||◌, not, ◌==◌, nat_lt}
use Rattle.std.specs.Prelude.{if◌then◌else◌, List, [], ◌∷◌, length, take, drop, slice_index, Option}
use Rattle.std.specs.Prelude.{Some, None, Result, Ok, Err, ℤ, pos, negsuc}
use Rattle.std.specs.Char.{is_ascii_digit}
use Rattle.std.specs.List.{position_or_len}
use Rattle.php_graph.specs.Numbers.{int_of_text}
use Rattle.notation.specs.declared.fault.Reason.{Reason}
use Rattle.notation.specs.declared.fault.Reason.TheVariants.{End, Number, Length, Mark}
use Rattle.notation.specs.declared.fault.Fault.{Fault}
use Rattle.notation.specs.declared.fault.Stop.{Stop}
use Rattle.notation.specs.declared.fault.Stop.TheVariants as stops

infixl 10 ◌>>=◌
abbrev pub ◌>>=◌ : {A B : Type 0} → Result A Fault → (A → Result B Fault) → Result B Fault
(Ok x) >>= f = f x
(Err e) >>= f = Err e

-- The result of a function, by its view, is what reading gives.
abbrev pub Reads : {X Y : Type 0} → (X → Y) → Result X Fault → Result Y Fault → Type 0
Reads view (Ok x) read = read ≡ Ok (view x)
Reads view (Err e) read = read ≡ Err e

-- It is, unless memory ran out.
abbrev pub Fails : {Y : Type 0} → Stop → Result Y Fault → Type 0
Fails stops.Memory read = Unit {0}
Fails (stops.Fault f) read = read ≡ Err f

abbrev pub Gives : {X Y : Type 0} → (X → Y) → Result X Stop → Result Y Fault → Type 0
Gives view (Ok x) read = read ≡ Ok (view x)
Gives view (Err e) read = Fails e read

-- a fault at which these bytes are left
abbrev pub fail : {A : Type 0} → Reason → List ℕ → Result A Fault
fail reason bytes = Err (record { reason = reason; left = length bytes })

-- the bytes after the expected one
abbrev pub mark_at : ℕ → List ℕ → Result (List ℕ) Fault
mark_at mark [] = fail End []
mark_at mark (b ∷ rest) = if b == mark then Ok rest else fail Mark (b ∷ rest)

-- a byte that cannot be in a number
abbrev pub ends_number : ℕ → Bool
ends_number b = not (is_ascii_digit b || b == 45)

-- the length of the longest run of digits and minus signs in front
abbrev pub number_len : List ℕ → ℕ
number_len bytes = position_or_len ends_number bytes

-- the number that was found, with the bytes after its run, or otherwise a fault at the run
abbrev pub found : {A : Type 0} → Option A → List ℕ → List ℕ → Result (A × List ℕ) Fault
found (Some x) rest run = Ok (x, rest)
found None rest run = fail Number run

-- the 64-bit integer whose canonical decimal is the longest run
unfoldable pub number_at : List ℕ → Result (ℤ × List ℕ) Fault
number_at [] = fail End []
number_at (b ∷ rest) =
    found (int_of_text (take (number_len (b ∷ rest)) (b ∷ rest)))
    (drop (number_len (b ∷ rest)) (b ∷ rest)) (b ∷ rest)

-- a length, a count or the number of a place
abbrev pub as_natural : ℤ → Option ℕ
as_natural (pos n) = if nat_lt n (2 ^ 32) then Some n else None
as_natural (negsuc n) = None

-- a boolean: 1 or 0
abbrev pub as_truth : ℤ → Option Bool
as_truth (pos n) = if n == 0 then Some false else if n == 1 then Some true else None
as_truth (negsuc n) = None

-- a number that is such, or a fault at its run
abbrev pub number_as : {A : Type 0} → (ℤ → Option A) → List ℕ → Result (A × List ℕ) Fault
number_as choose bytes = number_at bytes >>= λ n. found (choose n.0) n.1 bytes

abbrev pub natural_at : List ℕ → Result (ℕ × List ℕ) Fault
natural_at bytes = number_as as_natural bytes

-- This many bytes followed by a quote, and the bytes after that. A fault is at the number that is
-- their length.
abbrev pub quoted_at : ℕ → List ℕ → List ℕ → Result (List ℕ × List ℕ) Fault
quoted_at n number bytes =
    if nat_lt n (length bytes) && slice_index bytes n == 34
    then Ok (take n bytes, drop (n + 1) bytes)
    else fail Length number

-- a byte string in quotes, with its length before it
unfoldable pub sized_at : List ℕ → Result (List ℕ × List ℕ) Fault
sized_at bytes = do
  number ← mark_at 58 bytes
  n ← natural_at number
  opening ← mark_at 58 n.1
  inner ← mark_at 34 opening
  quoted_at n.0 number inner

-- what follows the letter of a string
unfoldable pub string_at : List ℕ → Result (List ℕ × List ℕ) Fault
string_at bytes = do
  text ← sized_at bytes
  rest ← mark_at 59 text.1
  Ok (text.0, rest)

-- what follows the letter of an integer
unfoldable pub integer_at : List ℕ → Result (ℤ × List ℕ) Fault
integer_at bytes = do
  number ← mark_at 58 bytes
  n ← number_at number
  rest ← mark_at 59 n.1
  Ok (n.0, rest)

-- the number of members, and what opens them
unfoldable pub count_at : List ℕ → Result (ℕ × List ℕ) Fault
count_at bytes = do
  number ← mark_at 58 bytes
  n ← natural_at number
  brace ← mark_at 58 n.1
  inner ← mark_at 123 brace
  Ok (n.0, inner)
