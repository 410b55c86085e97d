-- What a value is as an argument, found member by member.
use Rattle.std.proofs.Common.{◌≡◌, ℕ, zero, suc, ◌+◌, ◌≤◌, Bool, true, false, cond, List, [], ◌∷◌, ◌++◌, length, map, drop, Option, Some, None, refl, sym, ap, subst, ◌∙◌, append_assoc, arith}
use Rattle.std.specs.Prelude.{◌==◌, slice_get, IsSome}
use Rattle.std.specs.Option.{option_and_then, option_map}
use Rattle.std.proofs.lemmas.Bool.{eqb-true}
use Rattle.std.proofs.lemmas.List.{append-nil}
use Rattle.php_graph.specs.declared.key.Key.{Key}
use Rattle.php_graph.specs.declared.child.Child.{Child}
use Rattle.php_graph.specs.declared.child.Child.TheVariants.{Own, Back}
use Rattle.php_graph.specs.declared.kind.Kind.{Kind}
use Rattle.php_graph.specs.declared.kind.Kind.TheVariants as kinds
use Rattle.php_graph.specs.Graph.{kind_at, children_of, child_end, ends_after, end_of, IsGraph}
use Rattle.script_read.specs.declared.choices.Asked.TheVariants as asks
use Rattle.script_read.specs.declared.choices.Stored.TheVariants as stores
use Rattle.script_read.specs.Arguments.{each, key, members, keys, pairs, asked_of, stored, or_else, IsThere}
use Rattle.script_read.proofs.ResultBinds.{some_is, then_some}

-- ---- one by one

-- what was found before, and what is still found
abbrev pub with_front : {B : Type 0} → List B → Option (List B) → Option (List B)
with_front front found = option_map (λ more. front ++ more) found

pub drop_get : {A : Type 0} (xs : List A) (i : ℕ) (x : A) → slice_get xs i ≡ Some x → drop i xs ≡ x ∷ drop (i + 1) xs
drop_get [] i x e = absurd cc
drop_get (y ∷ xs) zero x e = ap (λ (z : _). z ∷ xs) (some_is y x e)
drop_get (y ∷ xs) (suc i) x e = let n : suc (i + 1) ≡ suc i + 1 = omega arith in drop_get xs i x e ∙ ap (λ (k : ℕ). x ∷ drop k (y ∷ xs)) n

regroup : {B : Type 0} (front : List B) (y : B) (found : Option (List B)) → with_front front (option_map (λ ys. y ∷ ys) found) ≡ with_front (front ++ y ∷ []) found
regroup {B = B} front y (Some ys) = ap (λ (l : List B). Some l) (sym (append_assoc front (y ∷ []) ys))
regroup {B = B} front y None = refl

abbrev pub step : {A B : Type 0} → (A → Option B) → List A → Option B → Option (List B)
step f xs o = option_and_then (λ y. option_map (λ ys. y ∷ ys) (each f xs)) o

pub one_more : {A B : Type 0} (f : A → Option B) (xs : List A) (i : ℕ) (x : A) (y : B) (front : List B) (whole : Option (List B)) → slice_get xs i ≡ Some x → f x ≡ Some y
    → with_front front (each f (drop i xs)) ≡ whole → with_front (front ++ y ∷ []) (each f (drop (i + 1) xs)) ≡ whole
one_more {A = A} {B = B} f xs i x y front whole at is so_far =
    sym (regroup front y (each f (drop (i + 1) xs)))
    ∙ (ap (λ (o : Option B). with_front front (step f (drop (i + 1) xs) o)) (sym is)
    ∙ (ap (λ (l : List A). with_front front (each f l)) (sym (drop_get xs i x at)) ∙ so_far))

pub no_more : {A B : Type 0} (f : A → Option B) (xs : List A) (i : ℕ) (x : A) (front : List B) (whole : Option (List B)) → slice_get xs i ≡ Some x → f x ≡ None
    → with_front front (each f (drop i xs)) ≡ whole → whole ≡ None
no_more {A = A} {B = B} f xs i x front whole at is so_far =
    sym so_far
    ∙ (ap (λ (l : List A). with_front front (each f l)) (drop_get xs i x at)
    ∙ ap (λ (o : Option B). with_front front (step f (drop (i + 1) xs) o)) is)

pub drop_all : {A : Type 0} (xs : List A) (i : ℕ) → length xs ≤ i → drop i xs ≡ []
drop_all [] zero few = refl
drop_all [] (suc i) few = refl
drop_all (x ∷ xs) zero few = absurd (omega (arith, few))
drop_all (x ∷ xs) (suc i) few = drop_all xs i (omega (arith, few))

pub all_found : {A B : Type 0} (f : A → Option B) (xs : List A) (i : ℕ) (front : List B) (whole : Option (List B)) → length xs ≤ i → with_front front (each f (drop i xs)) ≡ whole → whole ≡ Some front
all_found {A = A} {B = B} f xs i front whole few so_far =
    sym so_far ∙ (ap (λ (l : List A). with_front front (each f l)) (drop_all xs i few) ∙ ap (λ (l : List B). Some l) (append-nil front))

none_found : {B : Type 0} (found : Option (List B)) → with_front [] found ≡ found
none_found (Some ys) = refl
none_found None = refl

pub begins : {A B : Type 0} (f : A → Option B) (xs : List A) → with_front [] (each f (drop 0 xs)) ≡ each f xs
begins f xs = none_found (each f xs)

-- ---- arrays

pub some_places : (g : List Kind) → IsGraph g → 1 ≤ length g
unfolding end_of child_end
some_places [] h = let e = h.sealed in absurd cc
some_places (kind ∷ ks) h = omega arith

pub members_of : (g : List Kind) (ms : List (Key × Child)) → kind_at g 1 ≡ Some (kinds.Array ms) → members g ≡ Some ms
members_of [] ms e = absurd cc
members_of (kind ∷ places) ms e = ap (λ (k : Kind). members (k ∷ places)) (some_is kind (kinds.Array ms) e)

pub no_members : (g : List Kind) (kind : Kind) → kind_at g 1 ≡ Some kind → ((ms : List (Key × Child)) → kind ≡ kinds.Array ms → ⊥) → members g ≡ None
no_members [] kind e other = absurd cc
no_members (kinds.Array ms ∷ places) kind e other = absurd (other ms (sym (some_is (kinds.Array ms) kind e)))
no_members (kinds.Null ∷ places) kind e other = refl
no_members (kinds.Bool b ∷ places) kind e other = refl
no_members (kinds.Int n ∷ places) kind e other = refl
no_members (kinds.Str bytes ∷ places) kind e other = refl
no_members (kinds.Object class ps ∷ places) kind e other = refl
no_members (kinds.Same x ∷ places) kind e other = refl

-- ---- members that are written there

own_children : (level : ℕ) (g : List Kind) (kind : Kind) (e : ℕ) → kind_at g 1 ≡ Some kind → child_end (suc level) g (Own 1) 1 ≡ Some e → ends_after (child_end level g) (children_of kind) (1 + 1) ≡ Some e
unfolding child_end
own_children level g kind e at ends = ap (λ (o : Option Kind). option_and_then (λ k. ends_after (child_end level g) (children_of k) (1 + 1)) o) (sym at) ∙ ends

pub record Ends (end : Child → ℕ → Option ℕ) (c : Child) : Type 0 where
  pub from : ℕ
  pub to : ℕ
  pub is : end c from ≡ Some to

ends_each : (end : Child → ℕ → Option ℕ) (cs : List Child) (m e : ℕ) → ends_after end cs m ≡ Some e → (i : ℕ) (c : Child) → slice_get cs i ≡ Some c → Ends end c
ends_each end [] m e ends i c at = absurd cc
ends_each end (d ∷ cs) m e ends zero c at =
    let t = then_some (ends_after end cs) (end d m) e ends in
    subst (Ends end) (some_is d c at) (record { from = m; to = t.0; is = t.1 })
ends_each end (d ∷ cs) m e ends (suc i) c at =
    let t = then_some (ends_after end cs) (end d m) e ends in
    ends_each end cs t.0 e t.2 i c at

map_get : {A B : Type 0} (f : A → B) (xs : List A) (i : ℕ) (x : A) → slice_get xs i ≡ Some x → slice_get (map f xs) i ≡ Some (f x)
map_get f [] i x e = absurd cc
map_get {B = B} f (y ∷ xs) zero x e = ap (λ (z : _). Some (f z)) (some_is y x e)
map_get f (y ∷ xs) (suc i) x e = map_get f xs i x e

if_some : {A : Type 0} (b : Bool) (o : Option A) (y : A) → cond b o None ≡ Some y → (b ≡ true) × (o ≡ Some y)
if_some true o y e = (refl, e)
if_some false o y e = absurd cc

some_some : {A : Type 0} (o : Option A) (x : A) → o ≡ Some x → IsSome o
some_some {A = A} o x e = subst (λ (p : Option A). IsSome p) (sym e) refl

there_from : (level : ℕ) (g : List Kind) (c : Child) (m e : ℕ) → child_end level g c m ≡ Some e → IsThere g c
unfolding child_end
there_from zero g c m e ends = absurd cc
there_from (suc level) g (Back x) m e ends = tt
there_from (suc level) g (Own x) m e ends =
    let o = if_some (x == m) (option_and_then (λ kind. ends_after (child_end level g) (children_of kind) (m + 1)) (kind_at g m)) e ends in
    let k = then_some (λ kind. ends_after (child_end level g) (children_of kind) (m + 1)) (kind_at g m) e o.1 in
    some_some (kind_at g x) k.0 (ap (kind_at g) (eqb-true x m o.0) ∙ k.1)

pub member_there : (g : List Kind) (ms : List (Key × Child)) (i : ℕ) (m : Key × Child) → IsGraph g → kind_at g 1 ≡ Some (kinds.Array ms) → slice_get ms i ≡ Some m → IsThere g m.1
unfolding end_of
member_there g ms i m graph at get =
    let ends = own_children 511 g (kinds.Array ms) (length g + 1) at graph.sealed in
    let one = ends_each (child_end 511 g) (map (λ m. m.1) ms) (1 + 1) (length g + 1) ends i m.1 (map_get (λ (m : Key × Child). m.1) ms i m get) in
    there_from 511 g m.1 one.from one.to one.is

-- ---- strings

no_key : (g : List Kind) → ((bytes : List ℕ) → g ≡ kinds.Str bytes ∷ [] → ⊥) → key g ≡ None
no_key [] other = refl
no_key (kinds.Str bytes ∷ []) other = absurd (other bytes refl)
no_key (kinds.Str bytes ∷ x ∷ places) other = refl
no_key (kinds.Null ∷ places) other = refl
no_key (kinds.Bool b ∷ places) other = refl
no_key (kinds.Int n ∷ places) other = refl
no_key (kinds.Array ms ∷ places) other = refl
no_key (kinds.Object class ps ∷ places) other = refl
no_key (kinds.Same x ∷ places) other = refl

pub asked_many : (g : List Kind) → ((bytes : List ℕ) → g ≡ kinds.Str bytes ∷ [] → ⊥) → asked_of g ≡ option_map asks.Many (keys g)
asked_many g other = ap (λ (o : Option (List ℕ)). or_else (option_map asks.One o) (option_map asks.Many (keys g))) (no_key g other)

pub stored_many : (g : List Kind) → ((bytes : List ℕ) → g ≡ kinds.Str bytes ∷ [] → ⊥) → stored g ≡ option_map stores.Many (pairs g)
stored_many g other = ap (λ (o : Option (List ℕ)). or_else (option_map stores.One o) (option_map stores.Many (pairs g))) (no_key g other)
