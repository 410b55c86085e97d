-- The bytes of a key, word by word.
use Rattle.std.proofs.Common.{◌≡◌, ℕ, zero, suc, ◌+◌, ◌*◌, ◌/◌, ◌%◌, ◌<◌, ◌^◌, List, [], ◌∷◌, length, get_or, slice_index, take, drop, fold, refl, sym, ap, ◌∙◌, arith}
use Rattle.std.proofs.lemmas.List.{get_or-drop}
use Rattle.std.proofs.lemmas.List.Sums.{fold_more}
use Rattle.std.specs.List.{AllByRecursion}
use Rattle.php_graph.specs.Numbers.{hash_step}
use Rattle.value_image.specs.PackedBytes.{word_at}

-- one of eight bytes, of which each is below 256
pub byte_of : (j : ℕ) (a b c d e f g h w : ℕ) → a < 256 → b < 256 → c < 256 → d < 256 → e < 256 → f < 256 → g < 256 → h < 256
    → w ≡ a + 256 * (b + 256 * (c + 256 * (d + 256 * (e + 256 * (f + 256 * (g + 256 * (h + 0)))))))
    → j < 8 → (w / 2 ^ (8 * j)) % 256 ≡ get_or (a ∷ b ∷ c ∷ d ∷ e ∷ f ∷ g ∷ h ∷ []) j 0
byte_of zero a b c d e f g h w la lb lc ld le lf lg lh is lt = omega arith
byte_of (suc zero) a b c d e f g h w la lb lc ld le lf lg lh is lt = omega arith
byte_of (suc (suc zero)) a b c d e f g h w la lb lc ld le lf lg lh is lt = omega arith
byte_of (suc (suc (suc zero))) a b c d e f g h w la lb lc ld le lf lg lh is lt = omega arith
byte_of (suc (suc (suc (suc zero)))) a b c d e f g h w la lb lc ld le lf lg lh is lt = omega arith
byte_of (suc (suc (suc (suc (suc zero))))) a b c d e f g h w la lb lc ld le lf lg lh is lt = omega arith
byte_of (suc (suc (suc (suc (suc (suc zero)))))) a b c d e f g h w la lb lc ld le lf lg lh is lt = omega arith
byte_of (suc (suc (suc (suc (suc (suc (suc zero))))))) a b c d e f g h w la lb lc ld le lf lg lh is lt = omega arith
byte_of (suc (suc (suc (suc (suc (suc (suc (suc j)))))))) a b c d e f g h w la lb lc ld le lf lg lh is lt = absurd (omega arith)

eight : (xs : List ℕ) (j : ℕ) → j < 8 → get_or (slice_index xs 0 ∷ slice_index xs 1 ∷ slice_index xs 2 ∷ slice_index xs 3 ∷ slice_index xs 4 ∷ slice_index xs 5 ∷ slice_index xs 6 ∷ slice_index xs 7 ∷ []) j 0 ≡ get_or xs j 0
eight xs zero lt = refl
eight xs (suc zero) lt = refl
eight xs (suc (suc zero)) lt = refl
eight xs (suc (suc (suc zero))) lt = refl
eight xs (suc (suc (suc (suc zero)))) lt = refl
eight xs (suc (suc (suc (suc (suc zero))))) lt = refl
eight xs (suc (suc (suc (suc (suc (suc zero)))))) lt = refl
eight xs (suc (suc (suc (suc (suc (suc (suc zero))))))) lt = refl
eight xs (suc (suc (suc (suc (suc (suc (suc (suc j)))))))) lt = absurd (omega arith)

small_at : (xs : List ℕ) (j : ℕ) → AllByRecursion (λ b. b < 256) xs → get_or xs j 0 < 256
small_at [] j h = omega arith
small_at (x ∷ xs) zero h = h.0
small_at (x ∷ xs) (suc j) h = small_at xs j h.1

small_drop : (xs : List ℕ) (n j : ℕ) → AllByRecursion (λ b. b < 256) xs → slice_index (drop n xs) j < 256
small_drop xs n j h = omega (arith, get_or-drop n xs j 0, small_at xs (n + j) h)

-- byte i of a key, from its word
pub key_byte : (key : List ℕ) (i w : ℕ) → AllByRecursion (λ b. b < 256) key → w ≡ word_at key (i / 8) → (w / 2 ^ (8 * (i % 8))) % 256 ≡ get_or key i 0
key_byte key i w small is =
    let xs : List ℕ = drop (8 * (i / 8)) key in
    let lt : i % 8 < 8 = omega arith in
    byte_of (i % 8) (slice_index xs 0) (slice_index xs 1) (slice_index xs 2) (slice_index xs 3) (slice_index xs 4) (slice_index xs 5) (slice_index xs 6) (slice_index xs 7) w
    (small_drop key (8 * (i / 8)) 0 small) (small_drop key (8 * (i / 8)) 1 small) (small_drop key (8 * (i / 8)) 2 small) (small_drop key (8 * (i / 8)) 3 small)
    (small_drop key (8 * (i / 8)) 4 small) (small_drop key (8 * (i / 8)) 5 small) (small_drop key (8 * (i / 8)) 6 small) (small_drop key (8 * (i / 8)) 7 small) is lt
    ∙ (eight xs (i % 8) lt ∙ (get_or-drop (8 * (i / 8)) key (i % 8) 0 ∙ ap (λ (n : ℕ). get_or key n 0) (omega arith)))

-- the hash of one byte more
pub hash_more : (key : List ℕ) (i h b : ℕ) → i < length key → h ≡ fold hash_step 5381 (take i key) → b ≡ get_or key i 0 → (h * 33 + b) % 2 ^ 64 ≡ fold hash_step 5381 (take (i + 1) key)
hash_more key i h b lt eh eb = ap (λ (n : ℕ). hash_step n b) eh ∙ (ap (λ (n : ℕ). hash_step (fold hash_step 5381 (take i key)) n) eb ∙ sym (fold_more hash_step 5381 key i 0 lt))
