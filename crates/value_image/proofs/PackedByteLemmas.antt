-- Bytes packed into words, and words into bytes.
use Rattle.std.proofs.Common.{◌≡◌, ℕ, zero, suc, ◌+◌, ◌*◌, ◌^◌, ◌-◌, ◌/◌, ◌%◌, ◌<◌, ◌≤◌, List, [], ◌∷◌, ◌++◌, length, take, drop, replicate, slice_index, slice_set, get_or, refl, sym, subst, ap, ap₂, ◌∙◌, arith, inl, inr, length-append}
use Rattle.std.proofs.Math.Seq.{take-append-add, take-add}
use Rattle.std.proofs.lemmas.Bool.{cases_lt}
use Rattle.std.proofs.lemmas.Nat.{le_bytes_8, div-mul-add}
use Rattle.std.proofs.Math.Nat.{mul_assoc, mul_comm}
use Rattle.std.proofs.lemmas.List.{take-append-le, take_at, take_all, take_more, take-append-drop, get_or_past, get_or-drop, get_or-take, ext_get_or, drop_all, append-nil, length-drop, length-take, length-take-le, length-replicate, drop-take, drop-drop}
use Rattle.std.proofs.lemmas.List.FromFn.{get_or-map-range_with_len, length-map-range_with_len}
use Rattle.std.proofs.lemmas.Grind.{flat_map-append}
use Rattle.std.specs.Int.{w64, from_le_bytes}
use Rattle.std.specs.List.{AllByRecursion}
use borrow.Rule.Slice.PartMut.{put_mid, post_of}
use Rattle.byteorder.specs.Endian.{little_bytes, little_number, little_from}
use Rattle.byteorder.specs.Numbers.{length-bytes_low_first, little_from-take, little_from-lt}
use Rattle.php_graph.specs.ByteStrings.{AreBytes}
use Rattle.seg_words.specs.Layout.{words_in}
use Rattle.value_image.specs.PackedBytes.{bytes_of, words_of, word_at}
use Rattle.value_image.specs.Rows.{written}
use Rattle.value_image.proofs.Runs.{written-append, written-then, written-is, length-written}
use Rattle.value_image.proofs.Digits.{little-filled, bytes-bits, take-inner}

-- ---- words of bytes

pub length-words_of : (bs : List ℕ) → length (words_of bs) ≡ words_in (length bs)
length-words_of bs = length-map-range_with_len (word_at bs) 0 (words_in (length bs))

pub get_or-words_of : (bs : List ℕ) (k : ℕ) → k < words_in (length bs) → get_or (words_of bs) k 0 ≡ word_at bs k
get_or-words_of bs k lt = get_or-map-range_with_len (word_at bs) 0 (words_in (length bs)) k k 0 lt (omega arith)

-- past the end a number reads zeros
little-past : (i m : ℕ) (xs : List ℕ) → length xs ≤ i → little_from i m xs ≡ 0
little-past i zero xs h = refl
little-past i (suc m) xs h =
    let byte : slice_index xs i ≡ 0 = get_or_past xs i 0 h in
    omega (arith, byte, little-past (suc i) m xs (omega arith))

little-short : (i n k : ℕ) (xs : List ℕ) → n ≤ k → length xs ≤ i + n → little_from i k xs ≡ little_from i n xs
little-short i zero k xs le h = little-past i k xs (omega arith)
little-short i (suc n) zero xs le h = absurd (omega arith)
little-short i (suc n) (suc k) xs le h = omega (arith, little-short (suc i) n k xs (omega arith) (omega arith))

-- a number is its lowest k bytes and those above them
little-split : (k i m : ℕ) (xs : List ℕ) → little_from i (k + m) xs ≡ 256 ^ k * little_from (i + k) m xs + little_from i k xs
little-split zero i m xs = let same : i + 0 ≡ i = omega arith in let none : 0 + m ≡ m = omega arith in rw (same, none) (omega arith)
little-split (suc k) i m xs =
    let same : suc i + k ≡ i + suc k = omega arith in
    let ih = subst (λ (j : ℕ). little_from (suc i) (k + m) xs ≡ 256 ^ k * little_from j m xs + little_from (suc i) k xs) same (little-split k (suc i) m xs) in
    let more = mul_assoc 256 (256 ^ k) (little_from (i + suc k) m xs) in
    let long : suc k + m ≡ suc (k + m) = omega arith in
    let size : 256 ^ suc k ≡ 256 * 256 ^ k = omega arith in
    rw (long, size) (omega (arith, ih, more))

-- the bytes of a number above its lowest k bytes
little-shifted : (k i m : ℕ) (xs : List ℕ) → ((j : ℕ) → slice_index xs j < 256) → little_from i (k + m) xs / 2 ^ (8 * k) ≡ little_from (i + k) m xs
little-shifted k i m xs small =
    let commuted : 256 ^ k * little_from (i + k) m xs + little_from i k xs ≡ little_from (i + k) m xs * 256 ^ k + little_from i k xs = omega (arith, mul_comm (256 ^ k) (little_from (i + k) m xs)) in
    ap (λ (n : ℕ). little_from i (k + m) xs / n) (sym (bytes-bits k))
    ∙ (ap (λ (n : ℕ). n / 256 ^ k) (little-split k i m xs ∙ commuted)
    ∙ div-mul-add (little_from (i + k) m xs) (256 ^ k) (little_from i k xs) (little_from-lt i k xs small))

little-drop : (n i m : ℕ) (xs : List ℕ) → little_from i m (drop n xs) ≡ little_from (n + i) m xs
little-drop n i zero xs = refl
little-drop n i (suc m) xs =
    let at : n + suc i ≡ suc (n + i) = omega arith in
    let ih = subst (λ (j : ℕ). little_from (suc i) m (drop n xs) ≡ little_from j m xs) at (little-drop n (suc i) m xs) in
    let byte = get_or-drop n xs i 0 in
    omega (arith, ih, byte)

-- the last word of a byte string that has eight bytes or more, from its last eight bytes
pub word_at-shifted : (bs : List ℕ) (left x : ℕ) → 8 ≤ length bs → left ≡ length bs % 8 → ((j : ℕ) → slice_index bs j < 256) → x ≡ little_number 8 (drop (length bs - 8) bs)
    → x / 2 ^ (64 - 8 * left) ≡ word_at bs (length bs / 8)
word_at-shifted bs left x long el small e =
    let bits : 64 - 8 * left ≡ 8 * (8 - left) = omega arith in
    let all : 8 ≡ (8 - left) + left = omega arith in
    let start : length bs - 8 + (8 - left) ≡ 8 * (length bs / 8) = omega arith in
    let none : length bs - 8 + 0 ≡ length bs - 8 = omega arith in
    let here : 8 * (length bs / 8) + 0 ≡ 8 * (length bs / 8) = omega arith in
    let whole : x ≡ little_from (length bs - 8) ((8 - left) + left) bs = e ∙ (little-drop (length bs - 8) 0 8 bs ∙ ap₂ (λ (i n : ℕ). little_from i n bs) none all) in
    let cut = little-shifted (8 - left) (length bs - 8) left bs small in
    let last : little_from (8 * (length bs / 8)) 8 bs ≡ little_from (8 * (length bs / 8)) left bs = little-short (8 * (length bs / 8)) left 8 bs (omega arith) (omega arith) in
    ap₂ (λ (y n : ℕ). y / 2 ^ n) whole bits
    ∙ (cut ∙ (ap (λ (i : ℕ). little_from i left bs) start
    ∙ (sym last ∙ (ap (λ (i : ℕ). little_from i 8 bs) (sym here) ∙ sym (little-drop (8 * (length bs / 8)) 0 8 bs)))))

-- the row with one word more of a byte string
pub written-more : (row : List ℕ) (at : ℕ) (bs : List ℕ) (i x : ℕ) → i < words_in (length bs) → x ≡ word_at bs i
    → slice_set (written row at (take i (words_of bs))) (at + i) x ≡ written row at (take (i + 1) (words_of bs))
written-more row at bs i x lt e =
    let len = length-words_of bs in
    let front : length (take i (words_of bs)) ≡ i = length-take-le i (words_of bs) (omega (arith, len)) in
    let word : x ≡ get_or (words_of bs) i 0 = e ∙ sym (get_or-words_of bs i lt) in
    ap₂ (λ (k y : ℕ). slice_set (written row at (take i (words_of bs))) k y) (ap (λ (k : ℕ). at + k) (sym front)) word
    ∙ (sym (written-append row at (take i (words_of bs)) (get_or (words_of bs) i 0 ∷ []))
    ∙ ap (λ (run : List ℕ). written row at run) (sym (take_more (words_of bs) i 0 (omega (arith, len)))))

-- the row with eight words more of a byte string: its 64 bytes are src
pub written-eight : (row : List ℕ) (at : ℕ) (bs eight row' : List ℕ) (i n : ℕ) → n ≡ 64 → 64 * i + 64 ≤ length bs → at + words_in (length bs) ≤ length row → length eight ≡ 8
    → ((k : ℕ) → k < 8 → slice_index eight k ≡ little_number 8 (drop (8 * k) (take n (drop (64 * i) bs))))
    → row' ≡ take (at + 8 * i) (written row at (take (8 * i) (words_of bs))) ++ (eight ++ drop (at + 8 * i + 8) (written row at (take (8 * i) (words_of bs))))
    → row' ≡ written row at (take (8 * (i + 1)) (words_of bs))
written-eight row at bs eight row' i n en room inside size each e =
    let ws = words_of bs in
    let len = length-words_of bs in
    let old = written row at (take (8 * i) ws) in
    let long : length old ≡ length row = length-written row at (take (8 * i) ws) in
    let front : length (take (8 * i) ws) ≡ 8 * i = length-take-le (8 * i) ws (omega (arith, len)) in
    let past = length-drop (8 * i) ws in
    let most : length (take 8 (drop (8 * i) ws)) ≡ 8 = length-take-le 8 (drop (8 * i) ws) (omega (arith, past, len)) in
    let word : (k : ℕ) → k < 8 → slice_index eight k ≡ get_or ws (8 * i + k) 0 =
    (λ k lt.
    let place : 8 * k + (n - 8 * k) ≡ n = omega (arith, lt, en) in
    let start : 64 * i + 8 * k ≡ 8 * (8 * i + k) = omega arith in
    each k lt
    ∙ ap (λ (m : ℕ). little_number 8 (drop (8 * k) (take m (drop (64 * i) bs)))) (sym place)
    ∙ ap (little_number 8) (drop-take (8 * k) (n - 8 * k) (drop (64 * i) bs))
    ∙ little_from-take 0 8 (n - 8 * k) (drop (8 * k) (drop (64 * i) bs)) (omega (arith, lt, en))
    ∙ ap (little_number 8) (drop-drop (8 * k) (64 * i) bs ∙ ap (λ (n : ℕ). drop n bs) (omega arith))
    ∙ sym (get_or-words_of bs (8 * i + k) (omega (arith, lt)))) in
    let same : eight ≡ take 8 (drop (8 * i) ws) = ext_get_or 0 eight (take 8 (drop (8 * i) ws)) (size ∙ sym most)
    (λ k lt. word k (omega (arith, lt, size)) ∙ sym (get_or-take 8 (drop (8 * i) ws) k 0 (omega (arith, lt, size)) ∙ get_or-drop (8 * i) ws k 0)) in
    let next : 8 * i + 8 ≡ 8 * (i + 1) = omega arith in
    let behind : drop (at + 8 * i + 8) old ≡ drop (length eight) (drop (at + 8 * i) old) =
    sym (drop-drop (length eight) (at + 8 * i) old ∙ ap (λ (k : ℕ). drop k old) (omega (arith, size))) in
    e
    ∙ ap (λ (r : List ℕ). take (at + 8 * i) old ++ (eight ++ r)) behind
    ∙ sym (written-is old (at + 8 * i) eight (omega (arith, long, size, inside)))
    ∙ written-then row at (take (8 * i) ws) eight (at + 8 * i) (omega (arith, front))
    ∙ ap (λ (run : List ℕ). written row at (take (8 * i) ws ++ run)) same
    ∙ ap (λ (run : List ℕ). written row at run) (sym (take-add (8 * i) 8 ws) ∙ ap (λ (j : ℕ). take j ws) next)

pub written-all : (row : List ℕ) (at : ℕ) (bs : List ℕ) (i : ℕ) → words_in (length bs) ≤ i → written row at (take i (words_of bs)) ≡ written row at (words_of bs)
written-all row at bs i le =
    let len = length-words_of bs in
    ap (λ (run : List ℕ). written row at run) (take_all i (words_of bs) (omega (arith, len)))

-- ---- bytes of words

-- the first bytes of words, cut inside a word
pub take-bytes_of : (ws : List ℕ) (full left n : ℕ) → n ≡ 8 * full + left → full < length ws → left ≤ 8
    → take n (bytes_of ws) ≡ bytes_of (take full ws) ++ take left (little_bytes 8 (get_or ws full 0))
take-bytes_of [] full left n e lt le = absurd (omega arith)
take-bytes_of (w ∷ ws) zero left n e lt le =
    let same : n ≡ left = omega arith in
    let len = length-bytes_low_first 0 8 w in
    rw same (take-append-le left (little_bytes 8 w) (bytes_of ws) (omega (arith, len)))
take-bytes_of (w ∷ ws) (suc full) left n e lt le =
    let len = length-bytes_low_first 0 8 w in
    let more : n ≡ length (little_bytes 8 w) + (8 * full + left) = omega (arith, len, e) in
    ap (λ (k : ℕ). take k (bytes_of (w ∷ ws))) more
    ∙ (take-append-add (little_bytes 8 w) (bytes_of ws) (8 * full + left)
    ∙ ap (λ (r : List ℕ). little_bytes 8 w ++ r) (take-bytes_of ws full left (8 * full + left) refl (omega arith) le))

pub length-bytes_of : (ws : List ℕ) → length (bytes_of ws) ≡ 8 * length ws
length-bytes_of [] = refl
length-bytes_of (w ∷ ws) =
    let len = length-bytes_low_first 0 8 w in
    let both = length-append (little_bytes 8 w) (bytes_of ws) in
    omega (arith, len, both, length-bytes_of ws)

-- whole words
pub take-bytes_of-whole : (ws : List ℕ) (full n : ℕ) → n ≡ 8 * full → full ≤ length ws → take n (bytes_of ws) ≡ bytes_of (take full ws)
take-bytes_of-whole ws zero n e le = let none : n ≡ 0 = omega arith in rw none refl
take-bytes_of-whole [] (suc full) n e le = absurd (omega arith)
take-bytes_of-whole (w ∷ ws) (suc full) n e le =
    let len = length-bytes_low_first 0 8 w in
    let more : n ≡ length (little_bytes 8 w) + 8 * full = omega (arith, len, e) in
    ap (λ (k : ℕ). take k (bytes_of (w ∷ ws))) more
    ∙ (take-append-add (little_bytes 8 w) (bytes_of ws) (8 * full)
    ∙ ap (λ (r : List ℕ). little_bytes 8 w ++ r) (take-bytes_of-whole ws full (8 * full) refl (omega arith)))

-- the last bytes of a buffer, cut from a word
pub bytes-last : (out ws part : List ℕ) (full left : ℕ) → length out ≡ 8 * full + left → full < length ws → left ≤ 8
    → take (8 * full) out ≡ bytes_of (take full ws) → part ≡ take left (little_bytes 8 (get_or ws full 0))
    → put_mid (8 * full) (length out - 8 * full) out part ≡ take (length out) (bytes_of ws)
bytes-last out ws part full left len lt le before cut =
    let past = length-drop (8 * full) out in
    let rest : post_of (8 * full) (length out - 8 * full) out ≡ [] = drop_all (length out - 8 * full) (drop (8 * full) out) (omega (arith, past)) in
    rw (rest, append-nil, before, cut) (sym (take-bytes_of ws full left (length out) len lt le))

-- the bytes of one word more
pub bytes-next : (ws : List ℕ) (i w : ℕ) → i < length ws → w ≡ get_or ws i 0 → bytes_of (take i ws) ++ little_bytes 8 w ≡ bytes_of (take (i + 1) ws)
bytes-next ws i w lt e =
    ap (λ (x : ℕ). bytes_of (take i ws) ++ little_bytes 8 x) e
    ∙ sym (ap bytes_of (take_more ws i 0 lt)
    ∙ (flat_map-append (little_bytes 8) (take i ws) (get_or ws i 0 ∷ [])
    ∙ ap (λ (b : List ℕ). bytes_of (take i ws) ++ b) (append-nil (little_bytes 8 (get_or ws i 0)))))

-- the bytes of eight words more
pub bytes-eight : (ws eight : List ℕ) (i : ℕ) → length eight ≡ 8 → 8 * i + 8 ≤ length ws → ((k : ℕ) → k < 8 → slice_index eight k ≡ get_or ws (8 * i + k) 0)
    → bytes_of (take (8 * i) ws) ++ bytes_of eight ≡ bytes_of (take (8 * (i + 1)) ws)
bytes-eight ws eight i len room each =
    let past = length-drop (8 * i) ws in
    let size : length (take 8 (drop (8 * i) ws)) ≡ 8 = length-take-le 8 (drop (8 * i) ws) (omega (arith, past)) in
    let same : eight ≡ take 8 (drop (8 * i) ws) = ext_get_or 0 eight (take 8 (drop (8 * i) ws)) (len ∙ sym size)
    (λ k lt. each k (omega (arith, lt, len)) ∙ sym (get_or-take 8 (drop (8 * i) ws) k 0 (omega (arith, lt, len)) ∙ get_or-drop (8 * i) ws k 0)) in
    let n : 8 * i + 8 ≡ 8 * (i + 1) = omega arith in
    ap (λ (x : List ℕ). bytes_of (take (8 * i) ws) ++ bytes_of x) same
    ∙ (sym (flat_map-append (little_bytes 8) (take (8 * i) ws) (take 8 (drop (8 * i) ws)))
    ∙ ap bytes_of (sym (take-add (8 * i) 8 ws) ∙ ap (λ (j : ℕ). take j ws) n))

-- a buffer with the bytes of one word more
pub bytes-more : (out ws buf rest : List ℕ) (i w : ℕ) → 8 * i + 8 ≤ length out → i < length ws → w ≡ get_or ws i 0
    → buf ≡ little_bytes 8 w ++ rest → take (8 * i) out ≡ bytes_of (take i ws)
    → take (8 * (i + 1)) (put_mid (8 * i) (length out - 8 * i) out buf) ≡ bytes_of (take (i + 1) ws)
bytes-more out ws buf rest i w room lt e eb before =
    let front = length-take-le (8 * i) out (omega arith) in
    let own = length-bytes_low_first 0 8 w in
    let n : 8 * (i + 1) ≡ length (take (8 * i) out) + length (little_bytes 8 w) = omega (arith, front, own) in
    ap (λ (bs : List ℕ). take (8 * (i + 1)) (put_mid (8 * i) (length out - 8 * i) out bs)) eb
    ∙ (take-inner (take (8 * i) out) (little_bytes 8 w) rest (post_of (8 * i) (length out - 8 * i) out) (8 * (i + 1)) n
    ∙ (ap (λ (a : List ℕ). a ++ little_bytes 8 w) before ∙ bytes-next ws i w lt e))

-- a buffer with the bytes of eight words more
pub bytes-more-eight : (out ws buf eight : List ℕ) (i n : ℕ) → 64 * i + 64 ≤ length out → length eight ≡ 8 → 8 * i + 8 ≤ length ws → ((k : ℕ) → k < 8 → slice_index eight k ≡ get_or ws (8 * i + k) 0)
    → buf ≡ bytes_of eight → take (64 * i) out ≡ bytes_of (take (8 * i) ws)
    → take (64 * (i + 1)) (put_mid (64 * i) n out buf) ≡ bytes_of (take (8 * (i + 1)) ws)
bytes-more-eight out ws buf eight i n room size inside each eb before =
    let front = length-take-le (64 * i) out (omega arith) in
    let own = length-bytes_of eight in
    let all : 64 * (i + 1) ≡ length (take (64 * i) out) + length (bytes_of eight) = omega (arith, front, own) in
    ap (λ (bs : List ℕ). take (64 * (i + 1)) (put_mid (64 * i) n out bs)) (eb ∙ sym (append-nil (bytes_of eight)))
    ∙ (take-inner (take (64 * i) out) (bytes_of eight) [] (post_of (64 * i) n out) (64 * (i + 1)) all
    ∙ (ap (λ (a : List ℕ). a ++ bytes_of eight) before ∙ bytes-eight ws eight i size inside each))

-- ---- and back

abbrev AreSmall : List ℕ → Type 0
AreSmall xs = (i : ℕ) → get_or xs i 0 < 256

-- eight bytes come back
eight : (xs : List ℕ) → length xs ≡ 8 → AreSmall xs → little_bytes 8 (little_number 8 xs) ≡ xs
eight xs len small =
    let same : little_number 8 xs ≡ from_le_bytes w64 xs = omega arith in
    le_bytes_8 xs (little_number 8 xs) len small same

small-take : (xs : List ℕ) (n : ℕ) → AreSmall xs → AreSmall (take n xs)
small-take xs n small i = elim (cases_lt i n) [
  | inl h ↦ let e = get_or-take n xs i 0 h in omega (arith, e, small i)
  | inr h ↦ let len = length-take n xs in let e = get_or_past (take n xs) i 0 (omega (arith, len)) in omega (arith, e)
]

small-drop : (xs : List ℕ) (n : ℕ) → AreSmall xs → AreSmall (drop n xs)
small-drop xs n small i = let e = get_or-drop n xs i 0 in omega (arith, e, small (n + i))

-- a whole word comes back
chunk : (xs : List ℕ) → 8 ≤ length xs → AreSmall xs → little_bytes 8 (little_number 8 xs) ≡ take 8 xs
chunk xs h small =
    ap (little_bytes 8) (sym (little_from-take 0 8 8 xs (omega arith)))
    ∙ eight (take 8 xs) (length-take-le 8 xs h) (small-take xs 8 small)

zeros_small : (m : ℕ) → AreSmall (replicate m 0)
zeros_small zero i = omega arith
zeros_small (suc m) zero = omega arith
zeros_small (suc m) (suc i) = zeros_small m i

filled_small : (xs : List ℕ) (m : ℕ) → AreSmall xs → AreSmall (xs ++ replicate m 0)
filled_small [] m small i = zeros_small m i
filled_small (x ∷ xs) m small zero = small 0
filled_small (x ∷ xs) m small (suc i) = filled_small xs m (λ j. small (suc j)) i

-- the last bytes come back
tail : (xs : List ℕ) → length xs ≤ 8 → AreSmall xs → take (length xs) (little_bytes 8 (little_number 8 xs)) ≡ xs
tail xs h small =
    let m : length xs + (8 - length xs) ≡ 8 = omega arith in
    let len : length (xs ++ replicate (8 - length xs) 0) ≡ 8 = length-append xs (replicate (8 - length xs) 0) ∙ (ap (λ (k : ℕ). length xs + k) (length-replicate (8 - length xs) 0) ∙ m) in
    let same : little_number 8 xs ≡ little_number 8 (xs ++ replicate (8 - length xs) 0) = sym (little-filled 0 8 xs (8 - length xs)) in
    ap (λ (k : ℕ). take (length xs) (little_bytes 8 k)) same
    ∙ (ap (take (length xs)) (eight (xs ++ replicate (8 - length xs) 0) len (filled_small xs (8 - length xs) small))
    ∙ take_at xs (replicate (8 - length xs) 0) (length xs) refl)

packed-front : (bs : List ℕ) (k : ℕ) → AreSmall bs → 8 * k ≤ length bs → bytes_of (take k (words_of bs)) ≡ take (8 * k) bs
packed-front bs zero small h = refl
packed-front bs (suc k) small h =
    let len = length-words_of bs in
    let past = length-drop (8 * k) bs in
    let e : suc k ≡ k + 1 = omega arith in
    let n : 8 * k + 8 ≡ 8 * suc k = omega arith in
    ap (λ (j : ℕ). bytes_of (take j (words_of bs))) e
    ∙ (ap bytes_of (take_more (words_of bs) k 0 (omega (arith, len)))
    ∙ (flat_map-append (little_bytes 8) (take k (words_of bs)) (get_or (words_of bs) k 0 ∷ [])
    ∙ (ap₂ (λ (a b : List ℕ). a ++ b) (packed-front bs k small (omega arith))
    (append-nil (little_bytes 8 (get_or (words_of bs) k 0)) ∙ (ap (little_bytes 8) (get_or-words_of bs k (omega arith)) ∙ chunk (drop (8 * k) bs) (omega (arith, past)) (small-drop bs (8 * k) small)))
    ∙ (sym (take-add (8 * k) 8 bs) ∙ ap (λ (j : ℕ). take j bs) n))))

-- bytes that were packed into words come back
packed : (bs : List ℕ) → AreSmall bs → take (length bs) (bytes_of (words_of bs)) ≡ bs
packed bs small =
    let len = length-words_of bs in
    let past = length-drop (8 * (length bs / 8)) bs in
    elim (cases_lt 0 (length bs % 8)) [
      | inl more ↦
          let left : length bs % 8 ≡ length (drop (8 * (length bs / 8)) bs) = omega (arith, past) in
          let last = ap (λ (w : ℕ). take (length bs % 8) (little_bytes 8 w)) (get_or-words_of bs (length bs / 8) (omega arith))
          ∙ (ap (λ (k : ℕ). take k (little_bytes 8 (word_at bs (length bs / 8)))) left
          ∙ tail (drop (8 * (length bs / 8)) bs) (omega (arith, past)) (small-drop bs (8 * (length bs / 8)) small)) in
          take-bytes_of (words_of bs) (length bs / 8) (length bs % 8) (length bs) (omega arith) (omega (arith, len)) (omega arith)
          ∙ (ap₂ (λ (a b : List ℕ). a ++ b) (packed-front bs (length bs / 8) small (omega arith)) last
          ∙ take-append-drop (8 * (length bs / 8)) bs)
      | inr none ↦
          take-bytes_of-whole (words_of bs) (length bs / 8) (length bs) (omega arith) (omega (arith, len))
          ∙ (packed-front bs (length bs / 8) small (omega arith) ∙ take_all (8 * (length bs / 8)) bs (omega arith))
    ]

small-all : (bs : List ℕ) → AllByRecursion (λ b. b < 256) bs → AreSmall bs
small-all [] all i = omega arith
small-all (b ∷ bs) all zero = all.0
small-all (b ∷ bs) all (suc i) = small-all bs all.1 i

-- the bytes of the words that stand for them, and of whatever follows
pub unpacked : (bs rest : List ℕ) → AllByRecursion (λ b. b < 256) bs → take (length bs) (bytes_of (words_of bs ++ rest)) ≡ bs
unpacked bs rest all =
    let len = length-words_of bs in
    let long = length-bytes_of (words_of bs) in
    ap (take (length bs)) (flat_map-append (little_bytes 8) (words_of bs) rest)
    ∙ (take-append-le (length bs) (bytes_of (words_of bs)) (bytes_of rest) (omega (arith, len, long))
    ∙ packed bs (small-all bs all))

pub words_of-apart : (x y : List ℕ) → AreBytes x → AreBytes y → length x ≡ length y → words_of x ≡ words_of y → x ≡ y
words_of-apart x y hx hy len e =
    sym (packed x (small-all x hx.1)) ∙ (ap₂ (λ (n : ℕ) (ws : List ℕ). take n (bytes_of ws)) len e ∙ packed y (small-all y hy.1))
