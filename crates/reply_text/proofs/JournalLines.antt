-- The lines of a journal tell its marks, and stand apart from what was printed before them.
use Rattle.std.proofs.Common.{◌≡◌, ℕ, zero, suc, ◌+◌, ◌<◌, ◌≤◌, ◌^◌, Bool, true, false, cond, List, [], ◌∷◌, ◌++◌, length, refl, sym, ap, ap₂, subst, ◌∙◌, append_assoc, inl, inr, arith}
use Rattle.std.specs.Prelude.{◌==◌, ◌&&◌, ◌||◌, not, codes, filter}
use Rattle.std.specs.Fmt.{decimal}
use Rattle.std.specs.Int.{bit_at}
use Rattle.std.specs.List.{flat_map, range_with_len, list_all, list_any}
use Rattle.std.proofs.lemmas.Bool.Decides.{eqb_tells}
use Rattle.std.proofs.lemmas.Bool.{eqb-true, eqb-false}
use Rattle.std.proofs.lemmas.List.{length-append}
use Rattle.std.proofs.lemmas.Nat.Bits.{bit_at-lt, same_from_bits_below}
use Rattle.apcu_model.specs.declared.journal.Mark.{Mark}
use Rattle.apcu_model.specs.History.{is_in_mask}
use Rattle.script_read.specs.Grammar.{ends_line}
use Rattle.reply_text.specs.Output.{mask_text, mark_line, journal_lines}
use Rattle.reply_text.specs.InRange.{AreInRange}
use Rattle.reply_text.proofs.Numbers.{is_digit, both_true, all-joined, decimal_digits, IsCut, number_told}

-- ---- the workers of a mask

-- each after a space
abbrev texts : List ℕ → List ℕ
texts ws = flat_map (λ w. codes " " ++ decimal w) ws

abbrev Small : List ℕ → Type 0
Small [] = Unit {0}
Small (w ∷ ws) = (w < 2 ^ 64) × Small ws

texts_cut : (ws r : List ℕ) → IsCut (texts ws ++ 10 ∷ r)
texts_cut [] r = record { nothing = refl; all = refl }
texts_cut (w ∷ ws) r = record { nothing = refl; all = refl }

texts_told : (ws vs r s : List ℕ) → Small ws → Small vs → texts ws ++ 10 ∷ r ≡ texts vs ++ 10 ∷ s → (ws ≡ vs) × (r ≡ s)
texts_told [] [] r s small small' e = (refl, cc)
texts_told [] (v ∷ vs) r s small small' e = absurd cc
texts_told (w ∷ ws) [] r s small small' e = absurd cc
texts_told (w ∷ ws) (v ∷ vs) r s small small' e =
    let tails : (decimal w ++ texts ws) ++ 10 ∷ r ≡ (decimal v ++ texts vs) ++ 10 ∷ s = cc in
    let joined : decimal w ++ (texts ws ++ 10 ∷ r) ≡ decimal v ++ (texts vs ++ 10 ∷ s) =
    sym (append_assoc (decimal w) (texts ws) (10 ∷ r)) ∙ (tails ∙ append_assoc (decimal v) (texts vs) (10 ∷ s)) in
    let first = number_told w v (texts ws ++ 10 ∷ r) (texts vs ++ 10 ∷ s) small.0 small'.0 (texts_cut ws r) (texts_cut vs s) joined in
    let later = texts_told ws vs r s small.1 small'.1 first.1 in
    (ap₂ (λ (x : ℕ) (xs : List ℕ). x ∷ xs) first.0 later.0, later.1)

-- ---- a mask by its workers

abbrev among : ℕ → List ℕ → Bool
among k xs = list_any (λ x. x == k) xs

-- a choice adds the number in front if it is chosen
chosen : (k x : ℕ) (xs : List ℕ) (b : Bool) → among k (cond b (x ∷ xs) xs) ≡ ((b && (x == k)) || among k xs)
chosen k x xs true = refl
chosen k x xs false = refl

in_turn : (b c d m : Bool) → (d ≡ true → b ≡ c) → ((b && d) || (c && m)) ≡ (c && (d || m))
in_turn true true true m same = refl
in_turn false false true m same = refl
in_turn true false true m same = let wrong = same refl in absurd cc
in_turn false true true m same = let wrong = same refl in absurd cc
in_turn true c false m same = refl
in_turn false c false m same = refl

and_false : (b : Bool) → (b && false) ≡ false
and_false true = refl
and_false false = refl

among_some : (p : ℕ → Bool) (k : ℕ) (xs : List ℕ) → among k (filter p xs) ≡ (p k && among k xs)
among_some p k [] = sym (and_false (p k))
among_some p k (x ∷ xs) =
    chosen k x (filter p xs) (p x)
    ∙ (ap (λ (b : Bool). (p x && (x == k)) || b) (among_some p k xs)
    ∙ in_turn (p x) (p k) (x == k) (among k xs) (λ e. ap p (eqb-true x k e)))

among_range : (k a n : ℕ) → a ≤ k → k < a + n → among k (range_with_len a n) ≡ true
among_range k a zero low high = absurd (omega arith)
among_range k a (suc n) low high = elim (eqb_tells a k) [
  | inl t ↦ ap (λ (b : Bool). b || among k (range_with_len (a + 1) n)) t.0
  | inr t ↦
      let other = t.1 in
      let past : a + 1 ≤ k = omega (arith, other) in
      ap (λ (b : Bool). b || among k (range_with_len (a + 1) n)) t.0 ∙ among_range k (a + 1) n past (omega arith)
]

and_true : (b : Bool) → (b && true) ≡ b
and_true true = refl
and_true false = refl

-- what is picked of a range tells the test below its end
test_told : (p : ℕ → Bool) (n k : ℕ) → k < n → among k (filter p (range_with_len 0 n)) ≡ p k
test_told p n k below =
    among_some p k (range_with_len 0 n) ∙ (ap (λ (b : Bool). p k && b) (among_range k 0 n (omega arith) (omega arith)) ∙ and_true (p k))

small_some : (p : ℕ → Bool) (xs : List ℕ) → Small xs → Small (filter p xs)
small_some p [] small = tt
small_some p (x ∷ xs) small = go (p x) (small_some p xs small.1)
  where
    go : (b : Bool) → Small (filter p xs) → Small (cond b (x ∷ filter p xs) (filter p xs))
    go true later = (small.0, later)
    go false later = later

small_range : (a n : ℕ) → a + n ≤ 64 → Small (range_with_len a n)
small_range a zero few = tt
small_range a (suc n) few = (omega arith, small_range (a + 1) n (omega arith))

mask_cut : (mask n : ℕ) (r : List ℕ) → IsCut (mask_text mask n ++ 10 ∷ r)
unfolding mask_text
mask_cut mask n r = texts_cut (filter (is_in_mask mask) (range_with_len 0 n)) r

-- the text of a mask tells which workers are in it
mask_told : (one other n : ℕ) (r s : List ℕ) → n ≤ 64 → mask_text one n ++ 10 ∷ r ≡ mask_text other n ++ 10 ∷ s
    → ((k : ℕ) → k < n → is_in_mask one k ≡ is_in_mask other k) × (r ≡ s)
unfolding mask_text
mask_told one other n r s few e =
    let range = range_with_len 0 n in
    let small : Small range = small_range 0 n (omega arith) in
    let told = texts_told (filter (is_in_mask one) range) (filter (is_in_mask other) range) r s (small_some (is_in_mask one) range small) (small_some (is_in_mask other) range small) e in (
      λ k below. sym (test_told (is_in_mask one) n k below) ∙ (ap (among k) told.0 ∙ test_told (is_in_mask other) n k below),
      told.1,
    )

bit_told : (one other i : ℕ) → is_in_mask one i ≡ is_in_mask other i → bit_at one i ≡ bit_at other i
bit_told one other i same = elim (eqb_tells (bit_at one i) 1) [
  | inl t ↦
      let is : is_in_mask other i ≡ true = sym same ∙ t.0 in
      t.1 ∙ sym (eqb-true (bit_at other i) 1 is)
  | inr t ↦
      let isnt : is_in_mask other i ≡ false = sym same ∙ t.0 in
      let a = t.1 in
      let b = eqb-false (bit_at other i) 1 isnt in
      let c = bit_at-lt one i in
      let d = bit_at-lt other i in
      omega (arith, a, b, c, d)
]

-- ---- the lines

abbrev mark_at : ℕ → ℕ → Mark
mark_at worker mask = record { worker = worker; mask = mask }

line_split : (mark : Mark) (rest : List ℕ) → mark_line mark ++ rest ≡ decimal mark.worker ++ (mask_text mark.mask 64 ++ 10 ∷ rest)
line_split mark rest =
    append_assoc (decimal mark.worker ++ mask_text mark.mask 64) ends_line rest ∙ append_assoc (decimal mark.worker) (mask_text mark.mask 64) (10 ∷ rest)

line_more : (mark : Mark) (rest : List ℕ) → 0 < length (mark_line mark ++ rest)
line_more mark rest =
    let a = ap length (line_split mark rest) in
    omega (arith, a, length-append (decimal mark.worker) (mask_text mark.mask 64 ++ 10 ∷ rest), length-append (mask_text mark.mask 64) (10 ∷ rest))

pub marks_told : (marks others : List Mark) → AreInRange marks → AreInRange others → flat_map mark_line marks ≡ flat_map mark_line others → marks ≡ others
marks_told [] [] fair fair' e = refl
marks_told [] (o ∷ others) fair fair' e = let n = ap length e in absurd (omega (arith, n, line_more o (flat_map mark_line others)))
marks_told (m ∷ marks) [] fair fair' e = let n = ap length e in absurd (omega (arith, n, line_more m (flat_map mark_line marks)))
marks_told (m ∷ marks) (o ∷ others) fair fair' e =
    let r = flat_map mark_line marks in
    let s = flat_map mark_line others in
    let joined : decimal m.worker ++ (mask_text m.mask 64 ++ 10 ∷ r) ≡ decimal o.worker ++ (mask_text o.mask 64 ++ 10 ∷ s) = sym (line_split m r) ∙ (e ∙ line_split o s) in
    let worker = number_told m.worker o.worker (mask_text m.mask 64 ++ 10 ∷ r) (mask_text o.mask 64 ++ 10 ∷ s) fair.0 fair'.0 (mask_cut m.mask 64 r) (mask_cut o.mask 64 s) joined in
    let mask = mask_told m.mask o.mask 64 r s (omega arith) worker.1 in
    let same : m.mask ≡ o.mask = same_from_bits_below 64 m.mask o.mask fair.1 fair'.1 (λ i below. bit_told m.mask o.mask i (mask.0 i below)) in
    let first : m ≡ o = ap₂ mark_at worker.0 same in
    ap₂ (λ (x : Mark) (xs : List Mark). x ∷ xs) first (marks_told marks others fair.2 fair'.2 mask.1)

-- ---- what was printed before

-- a byte that is no `j`
abbrev quiet : ℕ → Bool
quiet b = not (b == 106)

digit_quiet : (b : ℕ) → is_digit b ≡ true → quiet b ≡ true
digit_quiet b digit = elim (eqb_tells b 106) [
  | inl t ↦
      let wrong : is_digit 106 ≡ true = subst (λ (n : ℕ). is_digit n ≡ true) t.1 digit in
      absurd cc
  | inr t ↦ ap not t.0
]

digits_quiet : (ds : List ℕ) → list_all is_digit ds ≡ true → list_all quiet ds ≡ true
digits_quiet [] all = refl
digits_quiet (d ∷ ds) all =
    let parts = both_true (is_digit d) (list_all is_digit ds) all in
    rw (digit_quiet d parts.0) (digits_quiet ds parts.1)

texts_quiet : (ws : List ℕ) → Small ws → list_all quiet (texts ws) ≡ true
texts_quiet [] small = refl
texts_quiet (w ∷ ws) small = all-joined quiet (decimal w) (texts ws) (digits_quiet (decimal w) (decimal_digits w small.0)) (texts_quiet ws small.1)

mask_quiet : (mask n : ℕ) → n ≤ 64 → list_all quiet (mask_text mask n) ≡ true
unfolding mask_text
mask_quiet mask n few = texts_quiet (filter (is_in_mask mask) (range_with_len 0 n)) (small_some (is_in_mask mask) (range_with_len 0 n) (small_range 0 n (omega arith)))

lines_quiet : (marks : List Mark) → AreInRange marks → list_all quiet (flat_map mark_line marks) ≡ true
lines_quiet [] fair = refl
lines_quiet (m ∷ marks) fair =
    all-joined quiet (mark_line m) (flat_map mark_line marks)
    (all-joined quiet (decimal m.worker ++ mask_text m.mask 64) ends_line
    (all-joined quiet (decimal m.worker) (mask_text m.mask 64) (digits_quiet (decimal m.worker) (decimal_digits m.worker fair.0)) (mask_quiet m.mask 64 (omega arith))) refl)
    (lines_quiet marks fair.2)

has_j : (xs ys : List ℕ) → list_all quiet (xs ++ 106 ∷ ys) ≡ false
has_j [] ys = refl
has_j (x ∷ xs) ys = rw (has_j xs ys) (and_false (quiet x))

-- so the last line `journal` of a text is where it begins
apart : (xs ys lines others : List ℕ) → list_all quiet lines ≡ true → list_all quiet others ≡ true
    → xs ++ (codes "journal" ++ ends_line ++ lines) ≡ ys ++ (codes "journal" ++ ends_line ++ others) → lines ≡ others
apart [] [] lines others q q' e = cc
apart (x ∷ xs) (y ∷ ys) lines others q q' e =
    let tails : xs ++ (codes "journal" ++ ends_line ++ lines) ≡ ys ++ (codes "journal" ++ ends_line ++ others) = cc in
    apart xs ys lines others q q' tails
apart [] (y ∷ ys) lines others q q' e =
    let tails : codes "ournal" ++ ends_line ++ lines ≡ ys ++ (codes "journal" ++ ends_line ++ others) = cc in
    let wrong : true ≡ false = sym q ∙ (ap (list_all quiet) tails ∙ has_j ys (codes "ournal" ++ ends_line ++ others)) in
    absurd cc
apart (x ∷ xs) [] lines others q q' e =
    let tails : xs ++ (codes "journal" ++ ends_line ++ lines) ≡ codes "ournal" ++ ends_line ++ others = cc in
    let wrong : true ≡ false = sym q' ∙ (ap (list_all quiet) (sym tails) ∙ has_j xs (codes "ournal" ++ ends_line ++ lines)) in
    absurd cc

-- a text that ends in a journal tells it
pub journal_told : (before other_before : List ℕ) (journal other : List Mark) → AreInRange journal → AreInRange other → before ++ journal_lines journal ≡ other_before ++ journal_lines other → journal ≡ other
journal_told before other_before journal other fair fair' e =
    marks_told journal other fair fair' (apart before other_before (flat_map mark_line journal) (flat_map mark_line other) (lines_quiet journal fair) (lines_quiet other fair') e)
