-- Keys and names.
use Rattle.std.proofs.Common.{◌≡◌, ◌⊎◌, inl, inr, ℕ, Bool, true, false, cond, List, [], ◌∷◌, ◌++◌, map, Option, Some, None, refl, sym, ap, ◌∙◌, arith}
use Rattle.std.specs.Prelude.{ℤ, ◌||◌, not, nat_lt, Result, Ok, Err, OnOk, OnErr}
use Rattle.std.specs.Cmp.Lexicographic.{bytes_decides}
use Rattle.std.specs.List.{list_any}
use Rattle.std.specs.Ordering.{is_eq, nat_cmp}
use Rattle.std.specs.BTreeSet.{BTreeSet, Updates, contains, contains_by}
use Rattle.std.specs.BTreeMap.{is_at}
use Rattle.std.proofs.lemmas.List.Folds.{list_any-append}
use Rattle.std.proofs.lemmas.Bool.Decides.{nat_tests, Decides-int_eq}
use Rattle.php_graph.specs.declared.child.Child.{Child}
use Rattle.php_graph.specs.declared.key.Key.{Key}
use Rattle.php_graph.specs.declared.key.Key.TheVariants.{Int, Str}
use Rattle.php_graph.specs.declared.item.BuildFault.TheVariants.{RepeatedKey}
use Rattle.php_graph.specs.Graph.{key_eq, holds_key}
use Rattle.php_graph.specs.Keys.{key_cmp, key_mark, raised, repeat_fault, BoundsKeys, HasMarks, HasKeys}
use Rattle.php_graph.specs.contracts.key.KeyOrd.TheImpl as key_ord
use Rattle.php_graph.specs.contracts.key.KeyOrd.TheImpl.Laws.{matches_eq-law}
use Rattle.php_graph.specs.contracts.key.KeyEq.TheImpl.Laws.{laws-law}

-- no name is an integer
pub names_without_int : (ps : List (List ℕ × Child)) (n : ℤ) → holds_key (map (λ p. Str p.0) ps) (Int n) ≡ false
names_without_int [] n = refl
names_without_int (p ∷ ps) n = names_without_int ps n

-- keys that compare alike are equal
at_is_eq : (k q : Key) → is_at (key_cmp k) q ≡ key_eq q k
at_is_eq (Int a) (Int b) = sym (matches_eq-law (Int a) (Int b)) ∙ laws-law.symm (Int a) (Int b)
at_is_eq (Int a) (Str b) = refl
at_is_eq (Str a) (Int b) = refl
at_is_eq (Str a) (Str b) = sym (matches_eq-law (Str a) (Str b)) ∙ laws-law.symm (Str a) (Str b)

or_swapped : (a b : Bool) → cond a true b ≡ (b || (a || false))
or_swapped true true = refl
or_swapped true false = refl
or_swapped false true = refl
or_swapped false false = refl

-- the derived order is the one of the definitions
cmp_is : (k q : Key) → (key_ord.ghosts).cmp k q ≡ key_cmp k q
cmp_is (Int a) (Int b) = refl
cmp_is (Int a) (Str b) = refl
cmp_is (Str a) (Int b) = refl
cmp_is (Str a) (Str b) = refl

any_same : (p r : Key → Bool) (ks : List Key) → ((k : Key) → p k ≡ r k) → list_any p ks ≡ list_any r ks
any_same p r [] same = refl
any_same p r (k ∷ ks) same = rw (same k, any_same p r ks same) refl

contains_is : (q : Key) (set : BTreeSet Key) → contains key_cmp set q ≡ contains (key_ord.ghosts).cmp set q
contains_is q set = any_same (is_at (key_cmp q)) (is_at ((key_ord.ghosts).cmp q)) set.keys (λ k. ap is_eq (sym (cmp_is q k)))

-- a set that got a copy of a key
pub copy_inserted : (ks : List Key) (k copy : Key) (set new : BTreeSet Key) → copy ≡ k → Updates (key_ord.ghosts).cmp set new copy true → HasKeys ks set → HasKeys (ks ++ k ∷ []) new
copy_inserted ks k copy set new e updates has q =
    contains_is q new ∙ updates.0 q ∙ ap (λ (b : Bool). cond b true (contains (key_ord.ghosts).cmp set q)) (ap (λ (c : Key). is_eq ((key_ord.ghosts).cmp c q)) e ∙ ap is_eq (cmp_is k q) ∙ at_is_eq k q)
    ∙ ap (cond (key_eq q k) true) (sym (contains_is q set) ∙ has q) ∙ or_swapped (key_eq q k) (holds_key ks q) ∙ sym (list_any-append (key_eq q) ks (k ∷ []))

pub ok_at : {E : Type 0} (ks : List Key) (k : Key) (set new : BTreeSet Key) (r : Result (Unit {0}) E) → HasKeys ks set → OnOk r ((ks : List Key) → HasKeys ks set → HasKeys (ks ++ k ∷ []) new) → OnOk r (HasKeys (ks ++ k ∷ []) new)
ok_at ks k set new (Ok u) has after = after ks has
ok_at ks k set new (Err e) has after = tt

pub err_at : {E : Type 0} (ks : List Key) (set new : BTreeSet Key) (r : Result (Unit {0}) E) → HasKeys ks set → OnErr r ((ks : List Key) → HasKeys ks set → HasKeys ks new) → OnErr r (HasKeys ks new)
err_at ks set new (Ok u) has after = tt
err_at ks set new (Err e) has after = after ks has

pub repeated_is : (ks : List Key) (k : Key) (set : BTreeSet Key) → HasKeys ks set → contains_by ((key_ord.ghosts).cmp k) set ≡ true → repeat_fault ks k ≡ Some RepeatedKey
repeated_is ks k set has there = ap (λ (b : Bool). cond b (Some RepeatedKey) None) (sym (has k) ∙ contains_is k set ∙ there)

-- ---- marks

same_key : (a b : Key) → key_eq a b ≡ true → a ≡ b
same_key (Int a) (Int b) e = ap Int ((Decides-int_eq a b).0 e)
same_key (Int a) (Str b) e = absurd cc
same_key (Str a) (Int b) e = absurd cc
same_key (Str a) (Str b) e = ap Str ((bytes_decides a b).0 e)

or_true : (a b : Bool) → (a || b) ≡ true → (a ≡ true) ⊎ (b ≡ true)
or_true true b e = inl refl
or_true false b e = inr e

no_other : (a : Bool) → (a || false) ≡ true → a ≡ true
no_other true e = refl
no_other false e = e

-- a key among these and one more
among : (ks : List Key) (k q : Key) → holds_key (ks ++ k ∷ []) q ≡ true → (holds_key ks q ≡ true) ⊎ (q ≡ k)
among ks k q e = elim (or_true (holds_key ks q) (key_eq q k || false) (sym (list_any-append (key_eq q) ks (k ∷ [])) ∙ e)) [
  | inl old ↦ inl old
  | inr last ↦ inr (same_key q k (no_other (key_eq q k) last))
]

always : (b : Bool) → cond b true true ≡ true
always true = refl
always false = refl

-- a mark that a set got
pub marks_more : (ks : List Key) (k : Key) (m : ℕ) (set new : BTreeSet ℕ) → m ≡ key_mark k → Updates nat_cmp set new m true → HasMarks ks set → HasMarks (ks ++ k ∷ []) new
marks_more ks k m set new e updates has q there = elim (among ks k q there) [
  | inl old ↦ updates.0 (key_mark q) ∙ ap (cond (is_at (nat_cmp m) (key_mark q)) true) (has q old) ∙ always (is_at (nat_cmp m) (key_mark q))
  | inr last ↦ ap (contains nat_cmp new) (ap key_mark last ∙ sym e) ∙ updates.1
]

not_true : (b : Bool) → (b ≡ true → ⊥) → b ≡ false
not_true true h = absurd (h refl)
not_true false h = refl

-- a key whose mark is not there is not there
pub new_mark : (ks : List Key) (k : Key) (m : ℕ) (set : BTreeSet ℕ) → m ≡ key_mark k → HasMarks ks set → contains nat_cmp set m ≡ false → repeat_fault ks k ≡ None
new_mark ks k m set e has none =
    ap (λ (b : Bool). cond b (Some RepeatedKey) None) (not_true (holds_key ks k) (λ there. let both : false ≡ true = sym none ∙ ap (contains nat_cmp set) e ∙ has k there in cc))

-- what was new was not there
pub was_new : (b there : Bool) → b ≡ not there → b ≡ true → there ≡ false
was_new b true e new = absurd cc
was_new b false e new = refl

-- the highest once a key more is there
bounds_one : (h : ℕ) (b : Bool) (ks : List Key) (k : Key) → nat_lt h (key_mark k) ≡ b → BoundsKeys (Some h) ks → BoundsKeys (cond b (Some (key_mark k)) (Some h)) (ks ++ k ∷ [])
bounds_one h true ks k above bounds = λ q there. elim (among ks k q there) [
  | inl old ↦ let le = bounds q old in grind (arith, nat_tests)
  | inr last ↦ omega (arith, ap key_mark last)
]
bounds_one h false ks k above bounds = λ q there. elim (among ks k q there) [
  | inl old ↦ bounds q old
  | inr last ↦ let e = ap key_mark last in grind (arith, nat_tests)
]

pub bounds_more : (h : Option ℕ) (ks : List Key) (k : Key) → BoundsKeys h ks → BoundsKeys (raised h (key_mark k)) (ks ++ k ∷ [])
bounds_more None ks k bounds = λ q there. elim (among ks k q there) [
  | inl old ↦ let e = ap (λ (xs : List Key). holds_key xs q) bounds in absurd cc
  | inr last ↦ omega (arith, ap key_mark last)
]
bounds_more (Some h) ks k bounds = bounds_one h (nat_lt h (key_mark k)) ks k refl bounds
