-- Calls on several keys, key by key.
use Rattle.std.proofs.Common.{◌≡◌, ◌⊎◌, inl, inr, ℕ, suc, ◌+◌, ◌<◌, ◌≤◌, Bool, true, false, cond, List, [], ◌∷◌, ◌++◌, length, drop, get_or, map, Option, refl, sym, ap, ap₂, ◌∙◌, append_assoc, drop-cons, add-one, arith}
use Rattle.std.specs.Prelude.{min, not}
use Rattle.std.specs.Borrow.{Bor}
use Rattle.std.specs.Str.{bytes_eq}
use Rattle.std.proofs.Math.ListN.{drop_of_length-le}
use Rattle.std.proofs.Math.Nat.{min-eq_left, min-eq_right}
use Rattle.std.proofs.lemmas.Bool.{cases_lt}
use Rattle.php_graph.specs.declared.kind.Kind.{Kind}
use Rattle.apcu_model.specs.declared.request.Reply.{Reply}
use Rattle.reply_text.specs.Notes.{lent_notes}
use Rattle.reply_text.specs.Replies.{is_done, undone, noted, noted_if, all_noted}

-- an element of a list, and those behind it
pub split_at : {A : Type 0} (xs : List A) (i : ℕ) (x : A) → i < length xs → x ≡ get_or xs i x → drop i xs ≡ x ∷ drop (i + 1) xs
split_at xs i x lt is = drop-cons xs i x lt ∙ ap₂ (λ y k. y ∷ drop k xs) (sym is) (sym (add-one i))

-- a key was done
pub undone_skip : (all front : List (List ℕ)) (k : List ℕ) (r : Reply) (ks later : List (List ℕ)) (rs others : List Reply) → ks ≡ k ∷ later → rs ≡ r ∷ others → is_done r ≡ true
    → front ++ undone ks rs ≡ all → front ++ undone later others ≡ all
undone_skip all front k r ks later rs others ks_are rs_are done so_far =
    let one : undone ks rs ≡ undone later others = ap₂ undone ks_are rs_are ∙ ap (λ (b : Bool). cond b (undone later others) (k ∷ undone later others)) done in
    ap (λ (l : List (List ℕ)). front ++ l) (sym one) ∙ so_far

-- a key was not done
pub undone_take : (all front new : List (List ℕ)) (k : List ℕ) (r : Reply) (ks later : List (List ℕ)) (rs others : List Reply) → ks ≡ k ∷ later → rs ≡ r ∷ others → is_done r ≡ false
    → new ≡ front ++ k ∷ [] → front ++ undone ks rs ≡ all → new ++ undone later others ≡ all
undone_take all front new k r ks later rs others ks_are rs_are done more so_far =
    let one : undone ks rs ≡ k ∷ undone later others = ap₂ undone ks_are rs_are ∙ ap (λ (b : Bool). cond b (undone later others) (k ∷ undone later others)) done in
    ap (λ (l : List (List ℕ)). l ++ undone later others) more ∙ (append_assoc front (k ∷ []) (undone later others) ∙ (ap (λ (l : List (List ℕ)). front ++ l) (sym one) ∙ so_far))

-- all keys or all replies were gone over
pub past_both : (a b i : ℕ) → min a b ≤ i → (a ≤ i) ⊎ (b ≤ i)
past_both a b i past = elim (cases_lt b a) [
  | inl less ↦
      let le : b ≤ a = omega (arith, less) in
      let m : min a b ≡ b = min-eq_right le in
      inr (omega (arith, past, m))
  | inr le ↦
      let m : min a b ≡ a = min-eq_left le in
      inl (omega (arith, past, m))
]

-- a place that is not past them is in both
pub in_both : (a b i : ℕ) → i < min a b → (i < a) × (i < b)
in_both a b i low = elim (cases_lt b a) [
  | inl less ↦
      let le : b ≤ a = omega (arith, less) in
      let m : min a b ≡ b = min-eq_right le in (omega (arith, low, m, less), omega (arith, low, m))
  | inr le ↦
      let m : min a b ≡ a = min-eq_left le in (omega (arith, low, m), omega (arith, low, m, le))
]

pub is_false : (b : Bool) → not b ≡ true → b ≡ false
is_false true e = absurd cc
is_false false e = refl

pub is_true : (b : Bool) → not b ≡ false → b ≡ true
is_true true e = refl
is_true false e = absurd cc

none_of : (ks : List (List ℕ)) → undone ks [] ≡ []
none_of [] = refl
none_of (k ∷ ks) = refl

pub undone_past : (ks : List (List ℕ)) (rs : List Reply) → (ks ≡ []) ⊎ (rs ≡ []) → undone ks rs ≡ []
undone_past ks rs past = elim past [
  | inl none ↦ ap (λ (l : List (List ℕ)). undone l rs) none
  | inr none ↦ ap (undone ks) none ∙ none_of ks
]

-- a key's answer was noted, if there is one
pub noted_more : {A : Type 0} (answer_in : Reply → Option A) (all ns new : List (List ℕ × A)) (k : List ℕ) (r : Reply) (ks later : List (List ℕ)) (rs others : List Reply)
    → ks ≡ k ∷ later → rs ≡ r ∷ others → new ≡ noted_if k (answer_in r) ns → all_noted answer_in ns ks rs ≡ all → all_noted answer_in new later others ≡ all
noted_more answer_in all ns new k r ks later rs others ks_are rs_are more so_far =
    ap (λ n. all_noted answer_in n later others) more ∙ (sym (ap₂ (all_noted answer_in ns) ks_are rs_are) ∙ so_far)

none_noted : {A : Type 0} (answer_in : Reply → Option A) (ns : List (List ℕ × A)) (ks : List (List ℕ)) → all_noted answer_in ns ks [] ≡ ns
none_noted answer_in ns [] = refl
none_noted answer_in ns (k ∷ ks) = refl

pub noted_past : {A : Type 0} (answer_in : Reply → Option A) (ns : List (List ℕ × A)) (ks : List (List ℕ)) (rs : List Reply) → (ks ≡ []) ⊎ (rs ≡ []) → all_noted answer_in ns ks rs ≡ ns
noted_past answer_in ns ks rs past = elim past [
  | inl none ↦ ap (λ l. all_noted answer_in ns l rs) none
  | inr none ↦ ap (all_noted answer_in ns ks) none ∙ none_noted answer_in ns ks
]

-- a value was noted by reference
pub lent_noted : (k : List ℕ) (g : Bor (List Kind)) (ns : List (List ℕ × Bor (List Kind))) → lent_notes (noted k g ns) ≡ noted k g.now (lent_notes ns)
lent_noted k g [] = refl
lent_noted k g (m ∷ ms) = by (bytes_eq m.0 k) (lent_noted k g ms)
  where
    by : (b : Bool) → lent_notes (noted k g ms) ≡ noted k g.now (lent_notes ms)
        → lent_notes (cond b ((k, g) ∷ ms) (m ∷ noted k g ms)) ≡ cond b ((k, g.now) ∷ lent_notes ms) ((m.0, m.1.now) ∷ noted k g.now (lent_notes ms))
    by true later = refl
    by false later = ap (λ l. (m.0, m.1.now) ∷ l) later

-- what both lists have left
pub gone : {A B : Type 0} (xs : List A) (ys : List B) (i : ℕ) → (length xs ≤ i) ⊎ (length ys ≤ i) → (drop i xs ≡ []) ⊎ (drop i ys ≡ [])
gone xs ys i past = elim past [
  | inl le ↦ inl (drop_of_length-le xs le)
  | inr le ↦ inr (drop_of_length-le ys le)
]

-- the first of what is left of some pairs
pub pair_there : (pairs : List (List ℕ × List Kind)) (i : ℕ) → i < length pairs → drop i pairs ≡ get_or pairs i ([], []) ∷ drop (i + 1) pairs
pair_there pairs i low = drop-cons pairs i ([], []) low ∙ ap (λ k. get_or pairs i ([], []) ∷ drop k pairs) (sym (add-one i))

pub key_there : (keys : List (List ℕ)) (i : ℕ) → i < length keys → drop i keys ≡ get_or keys i [] ∷ drop (i + 1) keys
key_there keys i low = drop-cons keys i [] low ∙ ap (λ k. get_or keys i [] ∷ drop k keys) (sym (add-one i))

-- no pair or no reply is left
pub pairs_past : (pairs : List (List ℕ × List Kind)) (rs : List Reply) (i : ℕ) → (length pairs ≤ i) ⊎ (length rs ≤ i) → undone (map (λ (pair : List ℕ × List Kind). pair.0) (drop i pairs)) (drop i rs) ≡ []
pairs_past pairs rs i past = elim past [
  | inl le ↦ ap (λ l. undone (map (λ (pair : List ℕ × List Kind). pair.0) l) (drop i rs)) (drop_of_length-le pairs le)
  | inr le ↦ ap (undone (map (λ (pair : List ℕ × List Kind). pair.0) (drop i pairs))) (drop_of_length-le rs le) ∙ none_of (map (λ (pair : List ℕ × List Kind). pair.0) (drop i pairs))
]

pub lent_len : (ns : List (List ℕ × Bor (List Kind))) → length (lent_notes ns) ≡ length ns
lent_len [] = refl
lent_len (n ∷ ns) = ap suc (lent_len ns)

pub told_len : (l : List (Bor (List ℕ) × Bor (List Kind))) → length {A = List ℕ × Bor (List Kind)} (map (λ (v : Bor (List ℕ) × Bor (List Kind)). (v.0.now, v.1)) l) ≡ length l
told_len [] = refl
told_len (v ∷ vs) = ap suc (told_len vs)

-- both references read
pub both_read : (l : List (Bor (List ℕ) × Bor (List Kind))) → map (λ (v : Bor (List ℕ) × Bor (List Kind)). (v.0.now, v.1.now)) l ≡ lent_notes (map (λ (v : Bor (List ℕ) × Bor (List Kind)). (v.0.now, v.1)) l)
both_read [] = refl
both_read (v ∷ vs) = ap (λ l. (v.0.now, v.1.now) ∷ l) (both_read vs)
