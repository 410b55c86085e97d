-- What seats hold, as words are stored elsewhere.
use Rattle.std.proofs.Common.{◌≡◌, ◌⊎◌, inl, inr, ℕ, zero, suc, ◌+◌, ◌-◌, ◌*◌, ◌/◌, ◌%◌, ◌<◌, ◌≤◌, ◌^◌, Bool, true, false, cond, eqb, ltb, List, [], ◌∷◌, ◌++◌, length, take, drop, map, replicate, bit_or, refl, sym, ap, ◌∙◌, subst, arith}
use Rattle.std.specs.Prelude.{slice_index, slice_set, nat_lt, if◌then◌else◌}
use Rattle.std.specs.Int.Bits.{or_zero_r}
use Rattle.std.proofs.Math.Nat.{pow-suc}
use Rattle.std.proofs.Math.Pow.{suc_ones}
use Rattle.std.proofs.lemmas.Bool.{and_parts, and_from, or_left, or_right, or_cases, eqb-true, eq-eqb, lt-ltb, ltb-true, ltb-false, cases_Bool, false≢true, false_from_ne_true}
use Rattle.std.proofs.lemmas.List.{get_or-set_other, drop-set-lt, drop-set-add, take-set-le, drop-take, drop-drop, take-take, length-take, length-take-le, length-drop, length-append, get_or-take, get_or-drop, get_or_append_left, ext_get_or}
use Rattle.std.proofs.Math.Seq.{get_or-append_right}
use Rattle.seg_words.specs.declared.layout.TheConstants.{HEAD_WORDS, KEY_LENGTH, IMAGE_LENGTH}
use Rattle.seg_words.specs.Layout.{words_in}
use Rattle.seg_words.specs.Windows.{has, is_named, holders}
use Rattle.seg_words.specs.Blocks.{IsApart, MayStore, image_place, image_end}
use Rattle.seg_words.proofs.HeldBlocks.{bit_or-low, bit_or-half}
use Rattle.value_image.specs.PackedBytes.{bytes_of}
use Rattle.value_image.proofs.PackedByteLemmas.{take-bytes_of-whole}
use Rattle.cache_c.specs.Seats.{HeldImage, held_image, no_image, BeginsText, AreTexts}

-- each seat is one of the workers that are met
pub all_met : (seats : List ℕ) (at : ℕ) → bit_or (2 ^ length seats - 1) (holders seats at) ≡ 2 ^ length seats - 1
all_met [] at = or_zero_r 0
all_met (seat ∷ seats) at = go (eqb seat at) (all_met seats at)
  where
    n : ℕ
    n = 2 ^ length seats

    some : suc (n - 1) ≡ n
    some = suc_ones (length seats)

    twice : 2 ^ suc (length seats) ≡ n * 2
    twice = pow-suc 2 (length seats)

    joined : (c k : ℕ) → c ≤ 1 → bit_or (n - 1) k ≡ n - 1 → bit_or (2 ^ suc (length seats) - 1) (c + 2 * k) ≡ 2 ^ suc (length seats) - 1
    joined c k one rest =
        let full : ℕ = 2 ^ suc (length seats) - 1 in
        let odd : (c + 2 * k) % 2 ≡ c = omega arith in
        let half : (c + 2 * k) / 2 ≡ k = omega arith in
        let top : full / 2 ≡ n - 1 = omega (arith, some, twice) in
        let end : full % 2 ≡ 1 = omega (arith, some, twice) in
        let low : bit_or full (c + 2 * k) % 2 ≡ 1 = bit_or-low full (c + 2 * k) ∙ omega (arith, odd, end) in
        let high : bit_or full (c + 2 * k) / 2 ≡ n - 1 = bit_or-half full (c + 2 * k) ∙ ap (λ x. bit_or x ((c + 2 * k) / 2)) top ∙ ap (λ x. bit_or (n - 1) x) half ∙ rest in
        omega (arith, low, high, some, twice)

    go : (b : Bool) → bit_or (n - 1) (holders seats at) ≡ n - 1 → bit_or (2 ^ suc (length seats) - 1) (cond b 1 0 + 2 * holders seats at) ≡ 2 ^ suc (length seats) - 1
    go true rest = joined 1 (holders seats at) (omega arith) rest
    go false rest = joined 0 (holders seats at) (omega arith) rest

-- a word outside of the image, and no length of it, is stored
image_stored : (words : List ℕ) (at i w : ℕ) → IsApart words at i → held_image (slice_set words i w) at ≡ held_image words at
image_stored words at i w apart =
    let new = slice_set words i w in
    let p : ℕ = image_place words at in
    let n : ℕ = slice_index words (at + IMAGE_LENGTH) in
    let key : slice_index new (at + KEY_LENGTH) ≡ slice_index words (at + KEY_LENGTH) = get_or-set_other words i (at + KEY_LENGTH) w 0 (λ e. apart.key_length (sym e)) in
    let len : slice_index new (at + IMAGE_LENGTH) ≡ n = get_or-set_other words i (at + IMAGE_LENGTH) w 0 (λ e. apart.image_length (sym e)) in
    let place : image_place new at ≡ p = ap (λ (k : ℕ). at + HEAD_WORDS + words_in k) key in
    let same : take n (drop p new) ≡ take n (drop p words) = elim apart.image [
      | inl before ↦ ap (take n) (drop-set-lt p words i w before)
      | inr behind ↦
          ap (λ (k : ℕ). take n (drop p (slice_set words k w))) (let e : i ≡ p + (i - p) = omega (arith, behind) in e)
          ∙ ap (take n) (drop-set-add p words (i - p) w)
          ∙ take-set-le n (drop p words) (i - p) w (omega (arith, behind))
    ] in
    let image : ℕ → ℕ → List ℕ → HeldImage = λ x y ws. if nat_lt 0 at then record { block = at; place = x; words = take y (drop x ws) } else no_image in
    ap (λ (x : ℕ). image x (slice_index new (at + IMAGE_LENGTH)) new) place
    ∙ ap (λ (y : ℕ). image p y new) len
    ∙ ap (λ (ws : List ℕ). if nat_lt 0 at then record { block = at; place = p; words = ws } else no_image) same

-- words that are alike where the image is
image_alike : (words new : List ℕ) (at : ℕ) → length new ≡ length words → slice_index new (at + KEY_LENGTH) ≡ slice_index words (at + KEY_LENGTH) → slice_index new (at + IMAGE_LENGTH) ≡ slice_index words (at + IMAGE_LENGTH)
    → ((j : ℕ) → image_place words at ≤ j → j < image_end words at → slice_index new j ≡ slice_index words j) → held_image new at ≡ held_image words at
image_alike words new at count key len alike =
    let p : ℕ = image_place words at in
    let n : ℕ = slice_index words (at + IMAGE_LENGTH) in
    let place : image_place new at ≡ p = ap (λ (k : ℕ). at + HEAD_WORDS + words_in k) key in
    let long : length (take n (drop p new)) ≡ length (take n (drop p words)) = omega (arith, length-take n (drop p new), length-take n (drop p words), length-drop p new, length-drop p words, count) in
    let same : take n (drop p new) ≡ take n (drop p words) = ext_get_or 0 (take n (drop p new)) (take n (drop p words)) long (λ k low.
    let short : k < n = omega (arith, low, length-take n (drop p new)) in
    get_or-take n (drop p new) k 0 short ∙ get_or-drop p new k 0 ∙ alike (p + k) (omega arith) (omega (arith, short)) ∙ sym (get_or-take n (drop p words) k 0 short ∙ get_or-drop p words k 0)) in
    let image : ℕ → ℕ → List ℕ → HeldImage = λ x y ws. if nat_lt 0 at then record { block = at; place = x; words = take y (drop x ws) } else no_image in
    ap (λ (x : ℕ). image x (slice_index new (at + IMAGE_LENGTH)) new) place
    ∙ ap (λ (y : ℕ). image p y new) len
    ∙ ap (λ (ws : List ℕ). if nat_lt 0 at then record { block = at; place = p; words = ws } else no_image) same

-- a word that is none of a run
run_apart : (i j n : ℕ) → ((k : ℕ) → k < n → j ≡ i + k → ⊥) → (j < i) ⊎ (i + n ≤ j)
run_apart i j n none = elim (cases_Bool (ltb j i)) [
  | inl before ↦ inl (ltb-true j i before)
  | inr other ↦ elim (cases_Bool (ltb j (i + n))) [
    | inl inner ↦ absurd (none (j - i) (omega (arith, ltb-true j (i + n) inner, ltb-false j i other)) (omega (arith, ltb-false j i other)))
    | inr behind ↦ inr (omega (arith, ltb-false j (i + n) behind))
  ]
]

-- and what it is, once the run was stored
run_beside : (words run : List ℕ) (i j : ℕ) → i + length run ≤ length words → (j < i) ⊎ (i + length run ≤ j) → slice_index (take i words ++ (run ++ drop (i + length run) words)) j ≡ slice_index words j
run_beside words run i j fit apart =
    let front : length (take i words) ≡ i = length-take-le i words (omega (arith, fit)) in
    elim apart [
      | inl before ↦ get_or_append_left (take i words) (run ++ drop (i + length run) words) 0 j (omega (arith, front, before)) ∙ get_or-take i words j 0 before
      | inr behind ↦
          get_or-append_right (take i words) (run ++ drop (i + length run) words) j 0 (omega (arith, front, behind))
          ∙ get_or-append_right run (drop (i + length run) words) (j - length (take i words)) 0 (omega (arith, front, behind))
          ∙ get_or-drop (i + length run) words (j - length (take i words) - length run) 0
          ∙ ap (slice_index words) (omega (arith, front, behind))
    ]

run_length : (words run : List ℕ) (i : ℕ) → i + length run ≤ length words → length (take i words ++ (run ++ drop (i + length run) words)) ≡ length words
run_length words run i fit = omega (
  arith,
  fit,
  length-append (take i words) (run ++ drop (i + length run) words),
  length-append run (drop (i + length run) words),
  length-take-le i words (omega (arith, fit)),
  length-drop (i + length run) words,
)

-- eight words are stored of which no worker that copies relies on one
run_stored : (words run : List ℕ) (i at : ℕ) → i + length run ≤ length words → ((k : ℕ) → k < length run → IsApart words at (i + k)) → held_image (take i words ++ (run ++ drop (i + length run) words)) at ≡ held_image words at
run_stored words run i at fit apart =
    image_alike words (take i words ++ (run ++ drop (i + length run) words)) at (run_length words run i fit)
    (run_beside words run i (at + KEY_LENGTH) fit (run_apart i (at + KEY_LENGTH) (length run) (λ k low e. (apart k low).key_length (sym e))))
    (run_beside words run i (at + IMAGE_LENGTH) fit (run_apart i (at + IMAGE_LENGTH) (length run) (λ k low e. (apart k low).image_length (sym e))))
    (λ j front back. run_beside words run i j fit (run_apart i j (length run) (λ k low e. elim (apart k low).image [
      | inl before ↦ absurd (omega (arith, before, front, e))
      | inr behind ↦ absurd (omega (arith, behind, back, e))
    ])))

pub run_keeps : (words run seats : List ℕ) (i : ℕ) → i + length run ≤ length words → ((k : ℕ) → k < length run → MayStore words seats (i + k)) → map (held_image (take i words ++ (run ++ drop (i + length run) words))) seats ≡ map (held_image words) seats
run_keeps words run seats i fit may = go seats (λ at some there k low. may k low at (and_from (ltb 0 at) (has at seats) (lt-ltb 0 at some) there))
  where
    go : (rest : List ℕ) → ((at : ℕ) → 0 < at → has at rest ≡ true → (k : ℕ) → k < length run → IsApart words at (i + k)) → map (held_image (take i words ++ (run ++ drop (i + length run) words))) rest ≡ map (held_image words) rest
    go [] apart = refl
    go (at ∷ rest) apart =
        ap (λ (image : HeldImage). image ∷ map (held_image (take i words ++ (run ++ drop (i + length run) words))) rest) (one (nat_lt 0 at) refl)
        ∙ ap (λ (l : List HeldImage). held_image words at ∷ l) (go rest (λ x some there. apart x some (or_right (eqb x at) (has x rest) there)))
      where
        one : (b : Bool) → nat_lt 0 at ≡ b → held_image (take i words ++ (run ++ drop (i + length run) words)) at ≡ held_image words at
        one true e = run_stored words run i at fit (apart at (ltb-true 0 at e) (or_left (eqb at at) (has at rest) (eq-eqb at at refl)))
        one false e =
            let none : (ws : List ℕ) → held_image ws at ≡ no_image = λ ws. ap (λ (b : Bool). if b then record { block = at; place = image_place ws at; words = take (slice_index ws (at + IMAGE_LENGTH)) (drop (image_place ws at) ws) } else no_image) e in
            none (take i words ++ (run ++ drop (i + length run) words)) ∙ sym (none words)

-- what is held stays, where no worker that copies relies on the word
pub images_stored : (words seats : List ℕ) (i w : ℕ) → MayStore words seats i → map (held_image (slice_set words i w)) seats ≡ map (held_image words) seats
images_stored words seats i w may = go seats (λ at some there. may at (and_from (ltb 0 at) (has at seats) (lt-ltb 0 at some) there))
  where
    go : (rest : List ℕ) → ((at : ℕ) → 0 < at → has at rest ≡ true → IsApart words at i) → map (held_image (slice_set words i w)) rest ≡ map (held_image words) rest
    go [] apart = refl
    go (at ∷ rest) apart =
        ap (λ (image : HeldImage). image ∷ map (held_image (slice_set words i w)) rest) (one (nat_lt 0 at) refl)
        ∙ ap (λ (l : List HeldImage). held_image words at ∷ l) (go rest (λ x some there. apart x some (or_right (eqb x at) (has x rest) there)))
      where
        one : (b : Bool) → nat_lt 0 at ≡ b → held_image (slice_set words i w) at ≡ held_image words at
        one true e = image_stored words at i w (apart at (ltb-true 0 at e) (or_left (eqb at at) (has at rest) (eq-eqb at at refl)))
        one false e =
            let none : (ws : List ℕ) → held_image ws at ≡ no_image = λ ws. ap (λ (b : Bool). if b then record { block = at; place = image_place ws at; words = take (slice_index ws (at + IMAGE_LENGTH)) (drop (image_place ws at) ws) } else no_image) e in
            none (slice_set words i w) ∙ sym (none words)

abbrev first : List HeldImage → HeldImage
first [] = no_image
first (image ∷ images) = image

abbrev behind : List HeldImage → List HeldImage
behind [] = []
behind (image ∷ images) = images

-- where the images are the same, so is that of each seat which holds one
pub image_same : (f g : ℕ → HeldImage) (seats : List ℕ) (seat : ℕ) → map f seats ≡ map g seats → 0 < slice_index seats seat → f (slice_index seats seat) ≡ g (slice_index seats seat)
image_same f g [] seat same some = absurd (omega (arith, some))
image_same f g (at ∷ seats) zero same some = ap first same
image_same f g (at ∷ seats) (suc seat) same some = image_same f g seats seat (ap behind same) some

-- the block of an image
pub image_words : (words : List ℕ) (at : ℕ) → 0 < at → held_image words at ≡ record { block = at; place = image_place words at; words = take (slice_index words (at + IMAGE_LENGTH)) (drop (image_place words at) words) }
image_words words at some =
    ap (λ (b : Bool). cond b (record { block = at; place = image_place words at; words = take (slice_index words (at + IMAGE_LENGTH)) (drop (image_place words at) words) }) no_image) (lt-ltb 0 at some)

pub some_block : (words : List ℕ) (at : ℕ) → 0 < at → 0 < (held_image words at).block
some_block words at some = subst (λ (i : HeldImage). 0 < i.block) (sym (image_words words at some)) some

-- each image that a seat holds is a string's
texts_have : (words seats : List ℕ) (at : ℕ) → AreTexts (map (held_image words) seats) → 0 < at → has at seats ≡ true → BeginsText (held_image words at)
texts_have words [] at texts some h = absurd (false≢true h)
texts_have words (x ∷ seats) at texts some h = elim (or_cases (eqb at x) (has at seats) h) [
  | inl here ↦
      let same : at ≡ x = eqb-true at x here in
      subst (λ (y : ℕ). BeginsText (held_image words y)) (sym same) (texts.0 (some_block words x (omega (arith, some, same))))
  | inr rest ↦ texts_have words seats at texts.1 some rest
]

pub text_of : (words seats : List ℕ) (at : ℕ) → AreTexts (map (held_image words) seats) → is_named seats at ≡ true → BeginsText (held_image words at)
text_of words seats at texts named =
    let p = and_parts (ltb 0 at) (has at seats) named in
    texts_have words seats at texts (ltb-true 0 at p.0) p.1

-- the first bytes of words are those of the first words
bytes_first : (words : List ℕ) (count n : ℕ) → count ≤ 8 * n → n ≤ length words → take count (bytes_of words) ≡ take count (bytes_of (take n words))
bytes_first words count n few inside =
    sym (take-take count (8 * n) (bytes_of words) few)
    ∙ ap (take count) (take-bytes_of-whole words n (8 * n) refl inside)

-- words of an image are words of the row
pub words_inside : (words : List ℕ) (place m d n : ℕ) → d + n ≤ length (take m (drop place words)) → take n (drop (place + d) words) ≡ take n (drop d (take m (drop place words)))
words_inside words place m d n low =
    let most = length-take m (drop place words) in
    let parts : m ≡ d + (m - d) = omega (arith, low, most) in
    sym (ap (λ (k : ℕ). take n (drop d (take k (drop place words)))) parts
    ∙ ap (take n) (drop-take d (m - d) (drop place words))
    ∙ take-take n (m - d) (drop d (drop place words)) (omega (arith, low, most))
    ∙ ap (take n) (drop-drop d place words))

-- the number of words that this many bytes take
pub few_words : (count : ℕ) → count ≤ 8 * words_in count
few_words count = omega arith

-- ---- the image of a block

-- it lies in the words, if it has any
pub image_inside : (words : List ℕ) (at : ℕ) → 0 < at → 0 < length (held_image words at).words → (held_image words at).place + length (held_image words at).words ≤ length words
image_inside words at some any =
    let is = image_words words at some in
    let p = image_place words at in
    let m = slice_index words (at + IMAGE_LENGTH) in
    let count : length (held_image words at).words ≡ length (take m (drop p words)) = ap (λ (i : HeldImage). length i.words) is in
    let place : (held_image words at).place ≡ p = ap (λ (i : HeldImage). i.place) is in
    omega (arith, any, count, place, length-take m (drop p words), length-drop p words)

-- bytes in it are read from the words
pub bytes_in_image : (words : List ℕ) (at place count : ℕ) → 0 < at → 0 < length (held_image words at).words → (held_image words at).place ≤ place
    → place + words_in count ≤ (held_image words at).place + length (held_image words at).words
    → take count (bytes_of (drop place words)) ≡ take count (bytes_of (take (words_in count) (drop (place - (held_image words at).place) (held_image words at).words)))
bytes_in_image words at place count some any low high =
    let is = image_words words at some in
    let p = image_place words at in
    let m = slice_index words (at + IMAGE_LENGTH) in
    let d : ℕ = place - p in
    let inside = image_inside words at some any in
    let same : (held_image words at).place ≡ p = ap (λ (i : HeldImage). i.place) is in
    let long : length (held_image words at).words ≡ length (take m (drop p words)) = ap (λ (i : HeldImage). length i.words) is in
    let fit : words_in count ≤ length (drop place words) = omega (arith, length-drop place words, inside, high) in
    bytes_first (drop place words) count (words_in count) (few_words count) fit
    ∙ ap (λ (k : ℕ). take count (bytes_of (take (words_in count) (drop k words)))) (let e : place ≡ p + d = omega (arith, low, same) in e)
    ∙ ap (λ (l : List ℕ). take count (bytes_of l)) (words_inside words p m d (words_in count) (omega (arith, low, high, same, long)))
    ∙ ap (λ (i : HeldImage). take count (bytes_of (take (words_in count) (drop (place - i.place) i.words)))) (sym is)

-- what a seat that is taken begins with
pub text_at : (words seats : List ℕ) (seat : ℕ) → AreTexts (map (held_image words) seats) → 0 < slice_index seats seat → BeginsText (held_image words (slice_index seats seat))
text_at words [] seat texts some = absurd (omega (arith, some))
text_at words (at ∷ seats) zero texts some = texts.0 (some_block words at some)
text_at words (at ∷ seats) (suc seat) texts some = text_at words seats seat texts.1 some

-- a seat is taken, or left
pub texts_set : (words seats : List ℕ) (seat at : ℕ) → (0 < (held_image words at).block → BeginsText (held_image words at)) → AreTexts (map (held_image words) seats) → AreTexts (map (held_image words) (slice_set seats seat at))
texts_set words [] seat at text texts = tt
texts_set words (x ∷ seats) zero at text texts = (text, texts.1)
texts_set words (x ∷ seats) (suc seat) at text texts = (texts.0, texts_set words seats seat at text texts.1)

has_set : (seats : List ℕ) (seat at x : ℕ) → has x (slice_set seats seat at) ≡ true → (x ≡ at) ⊎ (has x seats ≡ true)
has_set [] seat at x h = absurd (false≢true h)
has_set (y ∷ seats) zero at x h = elim (or_cases (eqb x at) (has x seats) h) [
  | inl here ↦ inl (eqb-true x at here)
  | inr rest ↦ inr (or_right (eqb x y) (has x seats) rest)
]
has_set (y ∷ seats) (suc seat) at x h = elim (or_cases (eqb x y) (has x (slice_set seats seat at)) h) [
  | inl here ↦ inr (or_left (eqb x y) (has x seats) here)
  | inr rest ↦ elim (has_set seats seat at x rest) [
    | inl is ↦ inl is
    | inr there ↦ inr (or_right (eqb x y) (has x seats) there)
  ]
]

pub named_set : (seats : List ℕ) (seat at x : ℕ) → is_named (slice_set seats seat at) x ≡ true → (x ≡ at) ⊎ (is_named seats x ≡ true)
named_set seats seat at x named =
    let p = and_parts (ltb 0 x) (has x (slice_set seats seat at)) named in
    elim (has_set seats seat at x p.1) [
      | inl is ↦ inl is
      | inr there ↦ inr (and_from (ltb 0 x) (has x seats) p.0 there)
    ]

-- no seat is named if all are 0
pub none_named : (n at : ℕ) → is_named (replicate n 0) at ≡ false
none_named n at = false_from_ne_true (is_named (replicate n 0) at) (λ named.
    let p = and_parts (ltb 0 at) (has at (replicate n 0)) named in no n p.1 (ltb-true 0 at p.0))
  where
    no : (k : ℕ) → has at (replicate k 0) ≡ true → 0 < at → ⊥
    no zero h some = false≢true h
    no (suc k) h some = elim (or_cases (eqb at 0) (has at (replicate k 0)) h) [
      | inl zero_is ↦ absurd (omega (arith, eqb-true at 0 zero_is, some))
      | inr rest ↦ no k rest some
    ]

pub none_texts : (words : List ℕ) (n : ℕ) → AreTexts (map (held_image words) (replicate n 0))
none_texts words zero = tt
none_texts words (suc n) = (λ some. absurd (omega (arith, some)), none_texts words n)

-- seats that are all 0 name no block
pub zeros_named : (seats : List ℕ) → ((k : ℕ) → k < length seats → slice_index seats k ≡ 0) → (at : ℕ) → is_named seats at ≡ false
zeros_named seats zeros at = false_from_ne_true (is_named seats at) (λ named.
    let p = and_parts (ltb 0 at) (has at seats) named in no seats zeros p.1 (ltb-true 0 at p.0))
  where
    no : (l : List ℕ) → ((k : ℕ) → k < length l → slice_index l k ≡ 0) → has at l ≡ true → 0 < at → ⊥
    no [] z h some = false≢true h
    no (x ∷ l) z h some = elim (or_cases (eqb at x) (has at l) h) [
      | inl here ↦ let e : x ≡ 0 = z 0 (omega arith) in absurd (omega (arith, eqb-true at x here, e, some))
      | inr rest ↦ no l (λ k low. z (suc k) (omega (arith, low))) rest some
    ]
