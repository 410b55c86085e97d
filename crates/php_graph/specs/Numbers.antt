-- The decimal text of an integer, and PHP's string hash.
use Rattle.std.specs.Prelude.{ℕ, ◌+◌, ◌-◌, ◌*◌, ◌%◌, ◌^◌, Bool, true, false, ◌==◌, ◌&&◌, nat_lt}
use Rattle.std.specs.Prelude.{nat_le, if◌then◌else◌, List, [], ◌∷◌, length, Option, Some, None}
use Rattle.std.specs.Prelude.{fold, bit_or, ℤ, pos, negsuc}
use Rattle.std.specs.Char.{is_ascii_digit}
use Rattle.std.specs.List.{list_all}

-- Decimal digits, at least one, and no zero before others.
abbrev pub is_canonical : List ℕ → Bool
is_canonical [] = false
is_canonical (d ∷ ds) =
    list_all is_ascii_digit (d ∷ ds) && (if d == 48 then length ds == 0 else true)

-- the number that digits write after those of n
abbrev pub digits_after : ℕ → List ℕ → ℕ
digits_after n [] = n
digits_after n (d ∷ ds) = digits_after (10 * n + (d - 48)) ds

-- the number from 0 to 2^63 - 1 that digits write
abbrev pub natural_of : List ℕ → Option ℤ
natural_of ds =
    if is_canonical ds && nat_lt (digits_after 0 ds) (2 ^ 63) then Some (pos (digits_after 0 ds))
    else None

-- the number from -2^63 to -1 that digits write after a minus
abbrev pub negative_of : List ℕ → Option ℤ
negative_of ds =
    if is_canonical ds && (nat_lt 0 (digits_after 0 ds) && nat_le (digits_after 0 ds) (2 ^ 63))
    then Some (negsuc (digits_after 0 ds - 1))
    else None

-- The 64-bit integer of which the text is the canonical decimal: digits without a leading zero, '-'
-- (45) before a number below 0, '0' alone. None if the text is no such decimal.
unfoldable pub int_of_text : List ℕ → Option ℤ
int_of_text [] = None
int_of_text (c ∷ ds) = if c == 45 then negative_of ds else natural_of (c ∷ ds)

-- the next state of PHP's string hash: times 33, plus the byte, modulo 2^64
abbrev pub hash_step : ℕ → ℕ → ℕ
hash_step h b = (h * 33 + b) % 2 ^ 64

-- PHP's string hash: it starts with 5381, takes each byte in turn, and has its top bit set in the
-- end.
unfoldable pub hash_of : List ℕ → ℕ
hash_of key = bit_or (fold hash_step 5381 key) (2 ^ 63)
