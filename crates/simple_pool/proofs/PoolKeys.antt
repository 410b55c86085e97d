-- A pool's name ends at the first `}` of a key of the cache.
use Rattle.std.proofs.Common.{◌≡◌, ℕ, ◌&&◌, Bool, true, false, List, [], ◌∷◌, ◌++◌, length, refl, sym, ap, ◌∙◌, append_assoc}
use Rattle.std.specs.Prelude.{nat_le}
use Rattle.std.specs.List.{list_all}
use Rattle.std.proofs.lemmas.Bool.{and_parts, false≢true}
use Rattle.simple_pool.specs.Names.{is_name_byte, is_good_name, braced, pool_key}

same_first : (x y : ℕ) (xs ys : List ℕ) → x ∷ xs ≡ y ∷ ys → x ≡ y
same_first x y xs ys e = cc (e)

same_rest : (x y : ℕ) (xs ys : List ℕ) → x ∷ xs ≡ y ∷ ys → xs ≡ ys
same_rest x y xs ys e = cc (e)

-- no byte of a name closes it
no_end : (b : ℕ) → is_name_byte b ≡ true → 125 ≡ b → ⊥
no_end b named is = false≢true (ap is_name_byte is ∙ named)

names_end : (name other key own : List ℕ) → list_all is_name_byte name ≡ true → list_all is_name_byte other ≡ true
    → name ++ 125 ∷ key ≡ other ++ 125 ∷ own → (name ≡ other) × (key ≡ own)
names_end [] [] key own h k e = (refl, same_rest 125 125 key own e)
names_end [] (c ∷ cs) key own h k e =
    absurd (no_end c (and_parts (is_name_byte c) (list_all is_name_byte cs) k).0 (same_first 125 c key (cs ++ 125 ∷ own) e))
names_end (b ∷ bs) [] key own h k e =
    absurd (no_end b (and_parts (is_name_byte b) (list_all is_name_byte bs) h).0 (sym (same_first b 125 (bs ++ 125 ∷ key) own e)))
names_end (b ∷ bs) (c ∷ cs) key own h k e =
    let first : b ≡ c = same_first b c (bs ++ 125 ∷ key) (cs ++ 125 ∷ own) e in
    let rest = names_end bs cs key own (and_parts (is_name_byte b) (list_all is_name_byte bs) h).1 (and_parts (is_name_byte c) (list_all is_name_byte cs) k).1
    (same_rest b c (bs ++ 125 ∷ key) (cs ++ 125 ∷ own) e) in
    (ap (λ x. x ∷ bs) first ∙ ap (λ l. c ∷ l) rest.0, rest.1)

named : (name : List ℕ) → is_good_name name ≡ true → list_all is_name_byte name ≡ true
named name good =
    (and_parts (nat_le (length name) 64) (list_all is_name_byte name)
    (and_parts (nat_le 1 (length name)) (nat_le (length name) 64 && list_all is_name_byte name) good).1).1

pub keys_apart : (pool other key own : List ℕ) → is_good_name pool ≡ true → is_good_name other ≡ true → pool_key pool key ≡ pool_key other own → (pool ≡ other) × (key ≡ own)
keys_apart pool other key own good too e =
    let inside : (pool ++ 125 ∷ []) ++ key ≡ (other ++ 125 ∷ []) ++ own = same_rest 123 123 ((pool ++ 125 ∷ []) ++ key) ((other ++ 125 ∷ []) ++ own) e in
    names_end pool other key own (named pool good) (named other too) (sym (append_assoc pool (125 ∷ []) key) ∙ (inside ∙ append_assoc other (125 ∷ []) own))
