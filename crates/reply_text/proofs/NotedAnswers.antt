-- Answers that are noted for keys, and where each key's answer stands.
use Rattle.std.proofs.Common.{◌≡◌, ℕ, suc, ◌<◌, Bool, true, false, cond, List, [], ◌∷◌, ◌++◌, length, Option, Some, None, refl, sym, ap, ◌∙◌, subst, arith}
use Rattle.std.specs.Prelude.{slice_set}
use Rattle.std.specs.Option.{option_map}
use Rattle.std.specs.Str.{bytes_eq}
use Rattle.std.specs.Ordering.{is_eq, nat_cmp}
use Rattle.std.specs.Cmp.Lexicographic.{slice_cmp}
use Rattle.std.specs.BTreeMap.{BTreeMap, get, Updates}
use Rattle.std.proofs.lemmas.Bool.{false≢true}
use Rattle.std.proofs.lemmas.Map.Text.{is_eq-slice_cmp}
use Rattle.std.proofs.lemmas.Slice.Eq.{bytes_eq-Decides}
use Rattle.reply_text.specs.Replies.{noted}
use Rattle.reply_text.specs.Notes.{note_of, KnowsNotes}

within_step : (n : ℕ) (b : Bool) (o : Option ℕ) (i : ℕ) → cond b (Some 0) (option_map suc o) ≡ Some i → ((j : ℕ) → o ≡ Some j → j < n) → i < suc n
within_step n true o i e below = let z : 0 ≡ i = cc in omega (arith, z)
within_step n false (Some j) i e below = let s : suc j ≡ i = cc in omega (arith, s, below j refl)
within_step n false None i e below = absurd cc

-- a place that is known is one of the notes
pub note_within : {A : Type 0} (key : List ℕ) (ns : List (List ℕ × A)) (i : ℕ) → note_of key ns ≡ Some i → i < length ns
note_within key [] i e = absurd cc
note_within key (m ∷ ms) i e = within_step (length ms) (bytes_eq m.0 key) (note_of key ms) i e (note_within key ms)

there_step : {A : Type 0} (key : List ℕ) (a : A) (m : List ℕ × A) (ms : List (List ℕ × A)) (b : Bool) (o : Option ℕ) (i : ℕ) → cond b (Some 0) (option_map suc o) ≡ Some i
    → ((j : ℕ) → o ≡ Some j → noted key a ms ≡ slice_set ms j (key, a)) → cond b ((key, a) ∷ ms) (m ∷ noted key a ms) ≡ slice_set (m ∷ ms) i (key, a)
there_step key a m ms true o i e later = let z : 0 ≡ i = cc in subst (λ k. (key, a) ∷ ms ≡ slice_set (m ∷ ms) k (key, a)) z refl
there_step key a m ms false (Some j) i e later = let s : suc j ≡ i = cc in subst (λ k. m ∷ noted key a ms ≡ slice_set (m ∷ ms) k (key, a)) s (ap (λ l. m ∷ l) (later j refl))
there_step key a m ms false None i e later = absurd cc

-- the key has a result: it is replaced
pub noted_there : {A : Type 0} (key : List ℕ) (a : A) (ns : List (List ℕ × A)) (i : ℕ) → note_of key ns ≡ Some i → noted key a ns ≡ slice_set ns i (key, a)
noted_there key a [] i e = absurd cc
noted_there key a (m ∷ ms) i e = there_step key a m ms (bytes_eq m.0 key) (note_of key ms) i e (noted_there key a ms)

new_step : {A : Type 0} (key : List ℕ) (a : A) (m : List ℕ × A) (ms : List (List ℕ × A)) (b : Bool) (o : Option ℕ) → cond b (Some 0) (option_map suc o) ≡ None
    → (o ≡ None → noted key a ms ≡ ms ++ (key, a) ∷ []) → cond b ((key, a) ∷ ms) (m ∷ noted key a ms) ≡ (m ∷ ms) ++ (key, a) ∷ []
new_step key a m ms true o e later = absurd cc
new_step key a m ms false (Some j) e later = absurd cc
new_step key a m ms false None e later = ap (λ l. m ∷ l) (later refl)

-- the key has none: it is the last
pub noted_new : {A : Type 0} (key : List ℕ) (a : A) (ns : List (List ℕ × A)) → note_of key ns ≡ None → noted key a ns ≡ ns ++ (key, a) ∷ []
noted_new key a [] e = refl
noted_new key a (m ∷ ms) e = new_step key a m ms (bytes_eq m.0 key) (note_of key ms) e (noted_new key a ms)

set_step : {A : Type 0} (key q : List ℕ) (a : A) (m : List ℕ × A) (ms : List (List ℕ × A)) (b : Bool) → bytes_eq m.0 key ≡ b → (o : Option ℕ) (i : ℕ) → cond b (Some 0) (option_map suc o) ≡ Some i
    → ((j : ℕ) → o ≡ Some j → note_of q (slice_set ms j (key, a)) ≡ note_of q ms) → note_of q (slice_set (m ∷ ms) i (key, a)) ≡ note_of q (m ∷ ms)
set_step key q a m ms true same o i e later =
    let z : 0 ≡ i = cc in
    let is : m.0 ≡ key = (bytes_eq-Decides m.0 key).0 same in
    subst (λ k. note_of q (slice_set (m ∷ ms) k (key, a)) ≡ note_of q (m ∷ ms)) z (ap (λ (k : List ℕ). cond (bytes_eq k q) (Some 0) (option_map suc (note_of q ms))) (sym is))
set_step key q a m ms false same (Some j) i e later =
    let s : suc j ≡ i = cc in
    subst (λ k. note_of q (slice_set (m ∷ ms) k (key, a)) ≡ note_of q (m ∷ ms)) s (ap (λ (o : Option ℕ). cond (bytes_eq m.0 q) (Some 0) (option_map suc o)) (later j refl))
set_step key q a m ms false same None i e later = absurd cc

-- no place of a key changes where an answer is put in the place of another one of its key
pub note_of-set : {A : Type 0} (key q : List ℕ) (a : A) (ns : List (List ℕ × A)) (i : ℕ) → note_of key ns ≡ Some i → note_of q (slice_set ns i (key, a)) ≡ note_of q ns
note_of-set key q a [] i e = absurd cc
note_of-set key q a (m ∷ ms) i e = set_step key q a m ms (bytes_eq m.0 key) refl (note_of key ms) i e (note_of-set key q a ms)

more_step : (n : ℕ) (b c : Bool) (o : Option ℕ) → (b ≡ true → c ≡ false) → cond b (Some 0) (option_map suc (cond c (Some n) o)) ≡ cond c (Some (suc n)) (cond b (Some 0) (option_map suc o))
more_step n true true o other = absurd (false≢true (sym (other refl)))
more_step n true false o other = refl
more_step n false true o other = refl
more_step n false false o other = refl

other_key : (k key q : List ℕ) → bytes_eq k key ≡ false → bytes_eq k q ≡ true → bytes_eq key q ≡ false
other_key k key q other same = by (bytes_eq key q) refl
  where
    by : (b : Bool) → bytes_eq key q ≡ b → b ≡ false
    by false e = refl
    by true e =
        let one : k ≡ q = (bytes_eq-Decides k q).0 same in
        let two : key ≡ q = (bytes_eq-Decides key q).0 e in
        absurd (false≢true (sym other ∙ subst (λ x. bytes_eq k x ≡ true) (sym two) same))

head_differs : (b : Bool) (o : Option ℕ) → cond b (Some 0) (option_map suc o) ≡ None → (b ≡ false) × (o ≡ None)
head_differs true o e = absurd cc
head_differs false (Some j) e = absurd cc
head_differs false None e = (refl, refl)

-- a new key is the last, and no other place changes
pub note_of-more : {A : Type 0} (key q : List ℕ) (a : A) (ns : List (List ℕ × A)) → note_of key ns ≡ None → note_of q (ns ++ (key, a) ∷ []) ≡ cond (bytes_eq key q) (Some (length ns)) (note_of q ns)
note_of-more key q a [] e = refl
note_of-more key q a (m ∷ ms) e =
    let parts = head_differs (bytes_eq m.0 key) (note_of key ms) e in
    ap (λ (o : Option ℕ). cond (bytes_eq m.0 q) (Some 0) (option_map suc o)) (note_of-more key q a ms parts.1)
    ∙ more_step (length ms) (bytes_eq m.0 q) (bytes_eq key q) (note_of q ms) (other_key m.0 key q parts.0)

-- ---- what the map knows

pub known_place : {A : Type 0} (key : List ℕ) (notes : List (List ℕ × A)) (places : BTreeMap (List ℕ) ℕ) (found : Option ℕ) → KnowsNotes notes places → found ≡ get (slice_cmp nat_cmp) places key → note_of key notes ≡ found
known_place key notes places found knows e = sym (knows key) ∙ sym e

pub knows_set : {A : Type 0} (key : List ℕ) (a : A) (notes : List (List ℕ × A)) (places : BTreeMap (List ℕ) ℕ) (i : ℕ) → KnowsNotes notes places → note_of key notes ≡ Some i → KnowsNotes (slice_set notes i (key, a)) places
knows_set key a notes places i knows e q = knows q ∙ sym (note_of-set key q a notes i e)

pub knows_more : {A : Type 0} (key own : List ℕ) (a : A) (notes : List (List ℕ × A)) (places new : BTreeMap (List ℕ) ℕ) (n : ℕ) → KnowsNotes notes places → note_of key notes ≡ None → own ≡ key → n ≡ length notes
    → Updates (slice_cmp nat_cmp) places new own (Some n) → KnowsNotes (notes ++ (key, a) ∷ []) new
knows_more key own a notes places new n knows e same count updates q =
    updates.0 q
    ∙ (ap (λ (b : Bool). cond b (Some n) (get (slice_cmp nat_cmp) places q)) (ap (λ (k : List ℕ). is_eq (slice_cmp nat_cmp k q)) same ∙ is_eq-slice_cmp key q)
    ∙ (ap (λ (o : Option ℕ). cond (bytes_eq key q) (Some n) o) (knows q)
    ∙ (ap (λ (k : ℕ). cond (bytes_eq key q) (Some k) (note_of q notes)) count ∙ sym (note_of-more key q a notes e))))
