-- The numbers that the values of options write.
use Rattle.std.specs.Prelude.{ℕ, ◌-◌, ◌*◌, ◌/◌, ◌%◌, Bool, ◌&&◌, ◌||◌, ◌==◌, nat_le, nat_lt}
use Rattle.std.specs.Prelude.{if◌then◌else◌, List, length, take, get_or, Option, Some, None}
use Rattle.std.specs.Option.{option_and_then, option_map}
use Rattle.std.specs.Str.{all_ascii_digits}
use Rattle.std.specs.Str.Parse.{digits_value}

-- ---- numbers

-- digits, at least one and at most this many
abbrev pub is_number : ℕ → List ℕ → Bool
is_number most text =
    all_ascii_digits text && (nat_lt 0 (length text) && nat_le (length text) most)

-- the number that they write, if it is not above this one; leading zeros are allowed
abbrev pub number_in : ℕ → ℕ → List ℕ → Option ℕ
number_in most high text =
    if is_number most text && nat_le (digits_value 10 text) high
    then Some (digits_value 10 text)
    else None

-- ---- sizes

-- how many bytes a letter stands for: K, M and G, or k, m and g; 1 if it is none of them
abbrev pub unit_of : ℕ → ℕ
unit_of letter =
    if letter == 75 || letter == 107 then 1024
    else if letter == 77 || letter == 109 then 1048576
    else if letter == 71 || letter == 103 then 1073741824
    else 1

-- the last byte, and what precedes it
abbrev pub last_byte : List ℕ → ℕ
last_byte text = get_or text (length text - 1) 0

abbrev pub but_last : List ℕ → List ℕ
but_last text = take (length text - 1) text

abbrev pub most_bytes : ℕ
most_bytes = 134217728

-- a number of at most ten digits, and at most one letter after it
abbrev pub bytes_in : List ℕ → Option ℕ
bytes_in text =
    if unit_of (last_byte text) == 1 then number_in 10 most_bytes text
    else option_map (λ n. n * unit_of (last_byte text)) (number_in 10 most_bytes (but_last text))

-- the words of 8 bytes of a segment: an even number of them, from 256 bytes to 128 MB
abbrev pub words_by : ℕ → Option ℕ
words_by bytes =
    if bytes % 16 == 0 && (nat_le 256 bytes && nat_le bytes most_bytes)
    then Some (bytes / 8)
    else None

abbrev pub words_in_size : List ℕ → Option ℕ
words_in_size text = option_and_then words_by (bytes_in text)

-- ---- bounds

-- the same, if it is not below another one
abbrev pub at_least : ℕ → ℕ → Option ℕ
at_least low n = if nat_le low n then Some n else None

-- a number of at most twenty digits, between these two
abbrev pub number_from : ℕ → ℕ → List ℕ → Option ℕ
number_from low high text = option_and_then (at_least low) (number_in 20 high text)
