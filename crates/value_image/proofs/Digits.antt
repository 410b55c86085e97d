-- Bytes as the digits of numbers, compared with byteorder's own definitions.
use Rattle.std.proofs.Common.{◌≡◌, ℕ, zero, suc, ◌+◌, ◌*◌, ◌^◌, List, [], ◌∷◌, ◌++◌, length, take, replicate, slice_index, refl, ap, ap₂, sym, ◌∙◌, arith, length-append}
use Rattle.std.proofs.lemmas.List.{append_assoc, take_at}
use Rattle.byteorder.specs.Endian.{little_from}

-- a byte fills eight bits
pub bytes-bits : (n : ℕ) → 256 ^ n ≡ 2 ^ (8 * n)
bytes-bits zero = refl
bytes-bits (suc n) =
    let more : 8 * suc n ≡ suc (suc (suc (suc (suc (suc (suc (suc (8 * n)))))))) = omega arith in
    rw more (omega (arith, bytes-bits n))

-- zeros behind a list change no place of it
zeros : (m i : ℕ) → slice_index (replicate m 0) i ≡ 0
zeros zero i = refl
zeros (suc m) zero = refl
zeros (suc m) (suc i) = zeros m i

filled : (xs : List ℕ) (m i : ℕ) → slice_index (xs ++ replicate m 0) i ≡ slice_index xs i
filled [] m i = zeros m i
filled (x ∷ xs) m zero = refl
filled (x ∷ xs) m (suc i) = filled xs m i

-- .. nor a number that is read from it
pub little-filled : (i n : ℕ) (xs : List ℕ) (m : ℕ) → little_from i n (xs ++ replicate m 0) ≡ little_from i n xs
little-filled i zero xs m = refl
little-filled i (suc n) xs m =
    ap₂ (λ (a b : ℕ). a + 256 * b) (filled xs m i) (little-filled (suc i) n xs m)

-- the front of a list, with what stands right behind it
pub take-inner : (front own rest post : List ℕ) (n : ℕ) → n ≡ length front + length own → take n (front ++ ((own ++ rest) ++ post)) ≡ front ++ own
take-inner front own rest post n e =
    ap (λ (r : List ℕ). take n (front ++ r)) (append_assoc own rest post)
    ∙ (ap (take n) (sym (append_assoc front own (rest ++ post)))
    ∙ take_at (front ++ own) (rest ++ post) n (length-append front own ∙ sym e))
