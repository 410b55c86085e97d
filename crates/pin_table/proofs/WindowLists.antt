-- Lists by place, windows, and how often a word is a pin count.
use Rattle.std.proofs.Common.{◌≡◌, ◌≢◌, ℕ, zero, suc, ◌+◌, ◌*◌, ◌/◌, ◌%◌, ◌<◌, ◌≤◌, ◌==◌, ◌⊎◌, ◌&&◌, ⊎_elim, inl, inr, Bool, true, false, cond, ltb, eqb, List, [], ◌∷◌, ◌++◌, length, take, drop, set, get_or, slice_index, max, bit_or, refl, ap, sym, ◌∙◌, subst, arith}
use Rattle.std.proofs.lemmas.Bool.{and_parts, and_from, or_cases, or_left, or_right, eqb-true, ltb-true, lt-ltb, eq-eqb, false≢true, false_from_ne_true}
use Rattle.std.proofs.lemmas.Bool.Decides.{nat_tests}
use Rattle.std.proofs.lemmas.List.{get_or-take, get_or-drop}
use Rattle.std.specs.Int.{bit_at}
use Rattle.std.specs.List.{list_any}
use Rattle.std.proofs.lemmas.Nat.Bits.{bit_at-zero, bit_at_lowest, bit_at-suc, bit_at_or}
use Rattle.seg_words.specs.declared.layout.TheConstants.{PIN_COUNT}
use mathlib.Core.Option.{some, some-injective, some-ne-none}
use lib.ListN.{get_elem?}
use Rattle.seg_words.specs.Windows.{has, is_named, closed_on, holders, held_by}
use Rattle.seg_words.specs.Blocks.{IsTold, MayStore}
use Rattle.pin_table.specs.Pins.{is_count, pins_on}

pub differs : (a b : ℕ) → (a == b) ≡ false → a ≢ b
differs a b h = grind (arith, nat_tests)

pub unlike : (a b : ℕ) → a ≢ b → (a == b) ≡ false
unlike a b h = grind (arith, nat_tests)

pub alike : (a b : ℕ) → a ≡ b → (a == b) ≡ true
alike a b h = grind (arith, nat_tests)

pub set_same : {A : Type 0} (l : List A) (i : ℕ) (d : A) → set l i (get_or l i d) ≡ l
set_same [] i d = refl
set_same (x ∷ xs) zero d = refl
set_same (x ∷ xs) (suc i) d = ap (λ t. x ∷ t) (set_same xs i d)

pub at_end : {A : Type 0} (l : List A) (a b : A) (j : ℕ) → get_elem? (l ++ a ∷ []) j ≡ some b → (get_elem? l j ≡ some b) ⊎ ((j ≡ length l) × (a ≡ b))
at_end [] a b zero e = inr (refl, some-injective a b e)
at_end [] a b (suc j) e = absurd (some-ne-none b (sym e))
at_end (x ∷ xs) a b zero e = inl e
at_end (x ∷ xs) a b (suc j) e = ⊎_elim (λ h. inl h) (λ h. inr (ap suc h.0, h.1)) (at_end xs a b j e)

pub at_less : {A : Type 0} (l : List A) (i : ℕ) (a : A) → get_elem? l i ≡ some a → i < length l
at_less [] i a e = absurd (some-ne-none a (sym e))
at_less (x ∷ xs) zero a e = omega arith
at_less (x ∷ xs) (suc i) a e = omega (arith, at_less xs i a e)

pub at_there : {A : Type 0} (l : List A) (i : ℕ) → i < length l → (a : A) × (get_elem? l i ≡ some a)
at_there [] i h = absurd (omega arith)
at_there (x ∷ xs) zero h = (x, refl)
at_there (x ∷ xs) (suc i) h = at_there xs i (omega arith)

pub same_there : {A : Type 0} (l : List A) (i : ℕ) (a b : A) → get_elem? l i ≡ some a → get_elem? l i ≡ some b → a ≡ b
same_there l i a b p q = some-injective a b (sym p ∙ q)

pub zero_set : (l : List ℕ) (w v : ℕ) → w < length l → get_elem? l v ≡ some 0 → get_elem? (set l w 0) v ≡ some 0
zero_set [] w v h e = absurd (omega arith)
zero_set (x ∷ xs) zero zero h e = refl
zero_set (x ∷ xs) zero (suc v) h e = e
zero_set (x ∷ xs) (suc w) zero h e = e
zero_set (x ∷ xs) (suc w) (suc v) h e = zero_set xs w v (omega arith) e

-- what a window names
pub has_there : (x : ℕ) (l : List ℕ) (v : ℕ) → get_elem? l v ≡ some x → has x l ≡ true
has_there x [] v h = absurd (some-ne-none x (sym h))
has_there x (y ∷ ys) zero h = or_left (eqb x y) (has x ys) (eq-eqb x y (sym (some-injective y x h)))
has_there x (y ∷ ys) (suc v) h = or_right (eqb x y) (has x ys) (has_there x ys v h)

pub there_has : (x : ℕ) (l : List ℕ) → has x l ≡ true → (v : ℕ) × (get_elem? l v ≡ some x)
there_has x [] h = absurd (false≢true h)
there_has x (y ∷ ys) h = go (there_has x ys) (or_cases (eqb x y) (has x ys) h)
  where
    go : (has x ys ≡ true → (v : ℕ) × (get_elem? ys v ≡ some x)) → (eqb x y ≡ true) ⊎ (has x ys ≡ true) → (v : ℕ) × (get_elem? (y ∷ ys) v ≡ some x)
    go later (inl e) = (0, ap some (sym (eqb-true x y e)))
    go later (inr r) = let t = later r in (suc t.0, t.1)

pub named_there : (l : List ℕ) (v at : ℕ) → get_elem? l v ≡ some at → 0 < at → is_named l at ≡ true
named_there l v at h pos = and_from (ltb 0 at) (has at l) (lt-ltb 0 at pos) (has_there at l v h)

pub there_named : (l : List ℕ) (at : ℕ) → is_named l at ≡ true → (0 < at) × ((v : ℕ) × (get_elem? l v ≡ some at))
there_named l at h = let p = and_parts (ltb 0 at) (has at l) h in (ltb-true 0 at p.0, there_has at l p.1)

pub not_named : (l : List ℕ) (at : ℕ) → ((v : ℕ) → get_elem? l v ≡ some at → 0 < at → ⊥) → is_named l at ≡ false
not_named l at nix = false_from_ne_true (is_named l at) (λ h. let t = there_named l at h in nix t.1.0 t.1.1 t.0)

pub none_there : (l : List ℕ) (v at : ℕ) → is_named l at ≡ false → get_elem? l v ≡ some at → 0 < at → ⊥
none_there l v at nix h pos = false≢true (sym nix ∙ named_there l v at h pos)

-- windows that have closed
pub closed_back : (x : ℕ) (l : List ℕ) (v b : ℕ) → get_elem? (closed_on x l) v ≡ some b → 0 < b → (get_elem? l v ≡ some b) × (b ≢ x)
closed_back x [] v b h pos = absurd (some-ne-none b (sym h))
closed_back x (y ∷ ys) zero b h pos = go (y == x) refl h
  where
    go : (c : Bool) → (y == x) ≡ c → get_elem? (cond c 0 y ∷ closed_on x ys) 0 ≡ some b → (get_elem? (y ∷ ys) 0 ≡ some b) × (b ≢ x)
    go true is h = let e : 0 ≡ b = some-injective 0 b h in absurd (omega arith)
    go false is h = let e : y ≡ b = some-injective y b h in (h, λ s. differs y x is (e ∙ s))
closed_back x (y ∷ ys) (suc v) b h pos = closed_back x ys v b h pos

pub closed_keeps : (x : ℕ) (l : List ℕ) (v b : ℕ) → get_elem? l v ≡ some b → b ≢ x → get_elem? (closed_on x l) v ≡ some b
closed_keeps x [] v b h ne = h
closed_keeps x (y ∷ ys) zero b h ne =
    let s : y ≡ b = some-injective y b h in
    let e : (y == x) ≡ false = unlike y x (λ q. ne (sym s ∙ q)) in
    rw e h
closed_keeps x (y ∷ ys) (suc v) b h ne = closed_keeps x ys v b h ne

pub length-closed : (x : ℕ) (l : List ℕ) → length (closed_on x l) ≡ length l
length-closed x [] = refl
length-closed x (y ∷ ys) = ap suc (length-closed x ys)

-- the loop that closes windows
pub closed_step : (ws : List ℕ) (x v : ℕ) → v < length ws → set (closed_on x (take v ws) ++ drop v ws) v (cond (get_or ws v 0 == x) 0 (get_or ws v 0)) ≡ closed_on x (take (v + 1) ws) ++ drop (v + 1) ws
closed_step [] x v h = absurd (omega arith)
closed_step (y ∷ ys) x zero h = refl
closed_step (y ∷ ys) x (suc v) h =
    let e : suc v + 1 ≡ suc (v + 1) = omega arith in
    rw e (ap (λ t. cond (y == x) 0 y ∷ t) (closed_step ys x v (omega arith)))

pub closed_here : (ws : List ℕ) (x v : ℕ) → v < length ws → get_or (closed_on x (take v ws) ++ drop v ws) v 0 ≡ get_or ws v 0
closed_here [] x v h = absurd (omega arith)
closed_here (y ∷ ys) x zero h = refl
closed_here (y ∷ ys) x (suc v) h = closed_here ys x v (omega arith)

pub closed_end : (ws : List ℕ) (x v : ℕ) → length ws ≤ v → closed_on x (take v ws) ++ drop v ws ≡ closed_on x ws
closed_end [] x zero h = refl
closed_end [] x (suc v) h = refl
closed_end (y ∷ ys) x zero h = absurd (omega arith)
closed_end (y ∷ ys) x (suc v) h = ap (λ t. cond (y == x) 0 y ∷ t) (closed_end ys x v (omega arith))

-- the workers of a mask, and what their windows name
pub holders_bit : (ws : List ℕ) (at v : ℕ) → bit_at (holders ws at) v ≡ 1 → get_elem? ws v ≡ some at
holders_bit [] at v h = absurd (omega (arith, bit_at-zero v))
holders_bit (y ∷ ys) at zero h = go (y == at) refl (sym (bit_at_lowest (holders (y ∷ ys) at)) ∙ h)
  where
    go : (b : Bool) → (y == at) ≡ b → (cond b 1 0 + 2 * holders ys at) % 2 ≡ 1 → get_elem? (y ∷ ys) 0 ≡ some at
    go true is q = ap some (eqb-true y at is)
    go false is q = absurd (omega (arith, q))
holders_bit (y ∷ ys) at (suc v) h = holders_bit ys at v (go (y == at) (sym (bit_at-suc (holders (y ∷ ys) at) v) ∙ h))
  where
    go : (b : Bool) → bit_at ((cond b 1 0 + 2 * holders ys at) / 2) v ≡ 1 → bit_at (holders ys at) v ≡ 1
    go true q = let e : (1 + 2 * holders ys at) / 2 ≡ holders ys at = omega arith in subst (λ n. bit_at n v ≡ 1) e q
    go false q = let e : (0 + 2 * holders ys at) / 2 ≡ holders ys at = omega arith in subst (λ n. bit_at n v ≡ 1) e q

pub held_bit : (m : ℕ) (ws : List ℕ) (x : ℕ) → has x (held_by m ws) ≡ true → (v : ℕ) × (bit_at m v ≡ 1) × (get_elem? ws v ≡ some x)
held_bit m [] x h = absurd (false≢true h)
held_bit m (w ∷ ws) x h = go (eqb (m % 2) 1) refl (ltb 0 w) (held_bit (m / 2) ws x) h
  where
    down : (v : ℕ) × (bit_at (m / 2) v ≡ 1) × (get_elem? ws v ≡ some x) → (v : ℕ) × (bit_at m v ≡ 1) × (get_elem? (w ∷ ws) v ≡ some x)
    down t = (suc t.0, bit_at-suc m t.0 ∙ t.1, t.2)

    go : (b : Bool) → eqb (m % 2) 1 ≡ b → (c : Bool) → (has x (held_by (m / 2) ws) ≡ true → (v : ℕ) × (bit_at (m / 2) v ≡ 1) × (get_elem? ws v ≡ some x))
        → has x (cond (b && c) (w ∷ held_by (m / 2) ws) (held_by (m / 2) ws)) ≡ true → (v : ℕ) × (bit_at m v ≡ 1) × (get_elem? (w ∷ ws) v ≡ some x)
    go false is c later q = down (later q)
    go true is false later q = down (later q)
    go true is true later q = elim (or_cases (eqb x w) (has x (held_by (m / 2) ws)) q) [
      | inl e ↦ (0, bit_at_lowest m ∙ eqb-true (m % 2) 1 is, ap some (sym (eqb-true x w e)))
      | inr r ↦ down (later r)
    ]

pub or_bit : (a b v : ℕ) → bit_at (bit_or a b) v ≡ 1 → (bit_at a v ≡ 1) ⊎ (bit_at b v ≡ 1)
or_bit a b v h = go (bit_at a v) refl (sym (bit_at_or a b v) ∙ h)
  where
    go : (n : ℕ) → bit_at a v ≡ n → max n (bit_at b v) ≡ 1 → (bit_at a v ≡ 1) ⊎ (bit_at b v ≡ 1)
    go zero e q = inr (omega (arith, q))
    go (suc zero) e q = inl e
    go (suc (suc n)) e q = absurd (omega (arith, q))

-- pin counts
pub counts : (i at : ℕ) → 0 < at → i ≡ at + PIN_COUNT → is_count i at ≡ true
counts i at pos e = and_from (ltb 0 at) (eqb i (at + PIN_COUNT)) (lt-ltb 0 at pos) (eq-eqb i (at + PIN_COUNT) e)

pub counted : (i at : ℕ) → is_count i at ≡ true → (0 < at) × (i ≡ at + PIN_COUNT)
counted i at h = let p = and_parts (ltb 0 at) (eqb i (at + PIN_COUNT)) h in (ltb-true 0 at p.0, eqb-true i (at + PIN_COUNT) p.1)

pub uncounted : (i at : ℕ) → (0 < at → i ≢ at + PIN_COUNT) → is_count i at ≡ false
uncounted i at nix = false_from_ne_true (is_count i at) (λ h. let p = counted i at h in nix p.0 p.1)

-- one place changes
pub pins_on-set : (i : ℕ) (l : List ℕ) (v a b : ℕ) → get_elem? l v ≡ some b → pins_on i (set l v a) + cond (is_count i b) 1 0 ≡ pins_on i l + cond (is_count i a) 1 0
pins_on-set i [] v a b h = absurd (some-ne-none b (sym h))
pins_on-set i (y ∷ ys) zero a b h = let e : y ≡ b = some-injective y b h in rw (← e) (omega arith)
pins_on-set i (y ∷ ys) (suc v) a b h = let ih = pins_on-set i ys v a b h in omega (arith, ih)

pub pins_on-le : (i : ℕ) (l : List ℕ) → pins_on i l ≤ length l
pins_on-le i [] = omega arith
pins_on-le i (y ∷ ys) = go (is_count i y) (pins_on-le i ys)
  where
    go : (b : Bool) → pins_on i ys ≤ length ys → cond b 1 0 + pins_on i ys ≤ length (y ∷ ys)
    go true ih = omega arith
    go false ih = omega arith

pub pins_pos : (i : ℕ) (l : List ℕ) (v at : ℕ) → get_elem? l v ≡ some at → 0 < at → i ≡ at + PIN_COUNT → 0 < pins_on i l
pins_pos i [] v at h pos e = absurd (some-ne-none at (sym h))
pins_pos i (y ∷ ys) zero at h pos e = let c : is_count i y ≡ true = subst (λ z. is_count i z ≡ true) (sym (some-injective y at h)) (counts i at pos e) in rw c (omega arith)
pins_pos i (y ∷ ys) (suc v) at h pos e = let ih = pins_pos i ys v at h pos e in omega arith

pub pins_none : (i : ℕ) (l : List ℕ) → ((v at : ℕ) → get_elem? l v ≡ some at → 0 < at → i ≢ at + PIN_COUNT) → pins_on i l ≡ 0
pins_none i [] nix = refl
pins_none i (y ∷ ys) nix =
    let c : is_count i y ≡ false = uncounted i y (λ pos. nix 0 y refl pos) in
    rw c (omega (arith, pins_none i ys (λ v at g. nix (suc v) at g)))

pub pins_exists : (i : ℕ) (l : List ℕ) → 0 < pins_on i l → (v at : ℕ) × (get_elem? l v ≡ some at) × (0 < at) × (i ≡ at + PIN_COUNT)
pins_exists i [] h = absurd (omega arith)
pins_exists i (y ∷ ys) h = go (is_count i y) refl (pins_exists i ys) h
  where
    go : (b : Bool) → is_count i y ≡ b → (0 < pins_on i ys → (v at : ℕ) × (get_elem? ys v ≡ some at) × (0 < at) × (i ≡ at + PIN_COUNT)) → 0 < cond b 1 0 + pins_on i ys
        → (v at : ℕ) × (get_elem? (y ∷ ys) v ≡ some at) × (0 < at) × (i ≡ at + PIN_COUNT)
    go true is rest h = let p = counted i y is in (0, y, refl, p.0, p.1)
    go false is rest h = let r = rest (omega arith) in (suc r.0, r.1, r.2, r.3, r.4)

-- a word that is told is the pin count of no block that a window names
pub told_not : (ws : List ℕ) (i v at : ℕ) → IsTold ws i → get_elem? ws v ≡ some at → 0 < at → i ≢ at + PIN_COUNT
told_not [] i v at told h pos e = some-ne-none at (sym h)
told_not (y ∷ ys) i zero at told h pos e =
    let c : is_count i y ≡ true = subst (λ z. is_count i z ≡ true) (sym (some-injective y at h)) (counts i at pos e) in
    false≢true (sym told ∙ or_left (is_count i y) (list_any (is_count i) ys) c)
told_not (y ∷ ys) i (suc v) at told h pos e = told_not ys i v at (false_from_ne_true (list_any (is_count i) ys) (λ q. false≢true (sym told ∙ or_right (is_count i y) (list_any (is_count i) ys) q))) h pos e

pub told_from : (ws : List ℕ) (i : ℕ) → ((v at : ℕ) → get_elem? ws v ≡ some at → 0 < at → i ≢ at + PIN_COUNT) → IsTold ws i
told_from [] i nix = refl
told_from (y ∷ ys) i nix =
    let c : is_count i y ≡ false = uncounted i y (λ pos. nix 0 y refl pos) in
    rw c (told_from ys i (λ v at g. nix (suc v) at g))

-- a row of words that a store outside does not change
pub range_set : (l : List ℕ) (i x m n : ℕ) → (i < m) ⊎ (m + n ≤ i) → take n (drop m (set l i x)) ≡ take n (drop m l)
range_set [] i x m n h = refl
range_set (y ∷ ys) zero x zero zero h = refl
range_set (y ∷ ys) zero x zero (suc n) h = absurd (⊎_elim (λ (a : 0 < 0). omega arith) (λ (a : 0 + suc n ≤ 0). omega arith) h)
range_set (y ∷ ys) (suc i) x zero zero h = refl
range_set (y ∷ ys) (suc i) x zero (suc n) h =
    let le : 0 + suc n ≤ suc i = ⊎_elim (λ (a : suc i < 0). absurd (omega arith)) (λ a. a) h in
    ap (λ t. y ∷ t) (range_set ys i x 0 n (inr (omega arith)))
range_set (y ∷ ys) zero x (suc m) n h = refl
range_set (y ∷ ys) (suc i) x (suc m) n h = range_set ys i x m n (⊎_elim (λ (a : suc i < suc m). inl (omega arith)) (λ (a : suc m + n ≤ suc i). inr (omega arith)) h)

-- a word of a row that is read from m on
pub range_index : (l : List ℕ) (m n i : ℕ) → i < n → slice_index (take n (drop m l)) i ≡ slice_index l (m + i)
range_index l m n i h = get_or-take n (drop m l) i 0 h ∙ get_or-drop m l i 0

-- after they have closed on it, no window names the block
pub unnamed_closed : (at : ℕ) (ws : List ℕ) → is_named (closed_on at ws) at ≡ false
unnamed_closed at ws = not_named (closed_on at ws) at (λ v h pos. (closed_back at ws v at h pos).1 refl)

-- if nothing is being pinned, a word that is told with these windows is told with all blocks that
-- are named
pub told_with : (pinning : ℕ) (ws : List ℕ) (i : ℕ) → pinning ≡ 0 → IsTold ws i → IsTold (pinning ∷ ws) i
told_with pinning ws i nothing told = subst (λ n. IsTold (n ∷ ws) i) (sym nothing) told

-- a word that may be stored is told
pub told_apart : (words ws : List ℕ) (i : ℕ) → MayStore words ws i → IsTold ws i
told_apart words ws i may = told_from ws i (λ v at h pos. (may at (named_there ws v at h pos)).pin_count)
