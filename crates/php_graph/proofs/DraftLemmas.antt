-- What a builder's draft says of its open containers, and what keeps it.
use Rattle.std.proofs.Common.{◌≡◌, ◌≢◌, ℕ, zero, suc, ◌+◌, ◌-◌, ◌<◌, ◌≤◌, Bool, true, false, List, [], ◌∷◌, ◌++◌, length, map, get_or, set, Some, refl, sym, ap, subst, ◌∙◌, arith}
use Rattle.std.specs.Prelude.{◌&&◌, ◌||◌, not, IsTrue}
use Rattle.std.specs.List.{AllByRecursion, slice_get, list_all}
use Rattle.std.proofs.lemmas.List.{reverse-append, map-append}
use Rattle.std.proofs.lemmas.List.Folds.{list_any-append, list_all-append}
use Rattle.php_graph.specs.declared.container.Container.{Container}
use Rattle.php_graph.specs.declared.key.Key.{Key}
use Rattle.php_graph.specs.declared.key.Key.TheVariants as keys
use Rattle.php_graph.specs.declared.child.Child.{Child}
use Rattle.php_graph.specs.declared.kind.Kind.{Kind}
use Rattle.php_graph.specs.declared.kind.Kind.TheVariants as kinds
use Rattle.php_graph.specs.Graph.{kind_at, children_of, keys_of, passes, is_array, is_object, is_object_at, key_eq, holds_key, are_distinct, is_array_key, is_class, is_well_formed, FitsKey, FitsKind}
use Rattle.php_graph.specs.Building.{with_member, is_container, is_name}
use Rattle.php_graph.specs.BuilderState.{places_of}
use Rattle.std.proofs.lemmas.Bool.{false≢true}
use Rattle.std.proofs.lemmas.Option.{get_or_from_slice_get}
use Rattle.php_graph.specs.ByteStrings.{AreBytes}
use Rattle.php_graph.specs.contracts.key.KeyEq.TheImpl.Laws.{laws-law}

pub places_of-push : (cs : List Container) (c : Container) → places_of (cs ++ c ∷ []) ≡ c.place ∷ places_of cs
places_of-push cs c = rw reverse-append refl

-- ---- places of a changed list

slice_get-set_other : {A : Type 0} (xs : List A) (i j : ℕ) (y : A) → j ≢ i → slice_get (set xs i y) j ≡ slice_get xs j
slice_get-set_other [] i j y ne = refl
slice_get-set_other (x ∷ xs) zero zero y ne = absurd (ne refl)
slice_get-set_other (x ∷ xs) zero (suc j) y ne = refl
slice_get-set_other (x ∷ xs) (suc i) zero y ne = refl
slice_get-set_other (x ∷ xs) (suc i) (suc j) y ne = slice_get-set_other xs i j y (λ e. ne (ap suc e))

slice_get-set_same : {A : Type 0} (xs : List A) (i : ℕ) (x y : A) → slice_get xs i ≡ Some x → slice_get (set xs i y) i ≡ Some y
slice_get-set_same [] i x y e = absurd cc
slice_get-set_same (z ∷ xs) zero x y e = refl
slice_get-set_same (z ∷ xs) (suc i) x y e = slice_get-set_same xs i x y e

slice_get-append_old : {A : Type 0} (xs ys : List A) (i : ℕ) → i < length xs → slice_get (xs ++ ys) i ≡ slice_get xs i
slice_get-append_old [] ys i lt = absurd (omega arith)
slice_get-append_old (x ∷ xs) ys zero lt = refl
slice_get-append_old (x ∷ xs) ys (suc i) lt = slice_get-append_old xs ys i (omega arith)

slice_get-append_new : {A : Type 0} (xs : List A) (y : A) → slice_get (xs ++ y ∷ []) (length xs) ≡ Some y
slice_get-append_new [] y = refl
slice_get-append_new (x ∷ xs) y = slice_get-append_new xs y

pub kind_at-set_other : (g : List Kind) (p k : ℕ) (y : Kind) → 1 ≤ p → k ≢ p → kind_at (set g (p - 1) y) k ≡ kind_at g k
kind_at-set_other g p zero y low ne = refl
kind_at-set_other g p (suc k) y low ne = slice_get-set_other g (p - 1) k y (λ e. ne (omega arith))

pub kind_at-set_same : (g : List Kind) (p : ℕ) (x y : Kind) → kind_at g p ≡ Some x → kind_at (set g (p - 1) y) p ≡ Some y
kind_at-set_same g zero x y e = absurd cc
kind_at-set_same g (suc p) x y e = let i : suc p - 1 ≡ p = omega arith in rw i (slice_get-set_same g p x y e)

pub kind_at-append_old : (g more : List Kind) (k : ℕ) → k ≤ length g → kind_at (g ++ more) k ≡ kind_at g k
kind_at-append_old g more zero le = refl
kind_at-append_old g more (suc k) le = slice_get-append_old g more k (omega arith)

pub kind_at-append_new : (g : List Kind) (y : Kind) → kind_at (g ++ y ∷ []) (length g + 1) ≡ Some y
kind_at-append_new g y = let i : length g + 1 ≡ suc (length g) = omega arith in rw i (slice_get-append_new g y)

-- a place that is there has a number from 1
pub record IsPlace (g : List Kind) (k : ℕ) : Type 0 where
  pub low : 1 ≤ k
  pub high : k ≤ length g

slice_get_high : {A : Type 0} (xs : List A) (i : ℕ) (x : A) → slice_get xs i ≡ Some x → i < length xs
slice_get_high [] i x e = absurd cc
slice_get_high (y ∷ xs) zero x e = omega arith
slice_get_high (y ∷ xs) (suc i) x e = omega (arith, slice_get_high xs i x e)

pub place_is : (g : List Kind) (k : ℕ) (x : Kind) → kind_at g k ≡ Some x → IsPlace g k
place_is g zero x e = absurd cc
place_is g (suc k) x e = record { low = omega arith; high = omega (arith, slice_get_high g k x e) }

pub get_or-place : (g : List Kind) (k : ℕ) (x d : Kind) → kind_at g k ≡ Some x → get_or g (k - 1) d ≡ x
get_or-place g zero x d e = absurd cc
get_or-place g (suc k) x d e = let i : suc k - 1 ≡ k = omega arith in rw i (get_or_from_slice_get g k x d e)

-- a place's number from 0
pub slice_at : (g : List Kind) (k : ℕ) (x : Kind) → kind_at g k ≡ Some x → slice_get g (k - 1) ≡ Some x
slice_at g zero x e = absurd cc
slice_at g (suc k) x e = let i : suc k - 1 ≡ k = omega arith in rw i e

pub kind_from : (g : List Kind) (k : ℕ) (x : Kind) → 1 ≤ k → slice_get g (k - 1) ≡ Some x → kind_at g k ≡ Some x
kind_from g zero x low e = absurd (omega arith)
kind_from g (suc k) x low e = let i : k ≡ suc k - 1 = omega arith in rw i e

pub object_there : (g : List Kind) (k : ℕ) (x : Kind) → 1 ≤ k → slice_get g (k - 1) ≡ Some x → is_object_at g k ≡ is_object x
object_there g k x low e = ap (passes is_object) (kind_from g k x low e)

-- there is one kind at a place
pub one_kind : (g : List Kind) (k : ℕ) (x y : Kind) → kind_at g k ≡ Some x → slice_get g (k - 1) ≡ Some y → y ≡ x
one_kind g k x y e f = let both : Some y ≡ Some x = sym f ∙ slice_at g k x e in cc

-- ---- a member more

pub with_member-children : (kind : Kind) (key : Key) (c : Child) → is_container kind ≡ true → (is_object kind ≡ true → is_name key ≡ true) → children_of (with_member kind key c) ≡ children_of kind ++ c ∷ []
with_member-children (kinds.Array ms) key c holds named = map-append (λ m. m.1) ms ((key, c) ∷ [])
with_member-children (kinds.Object class ps) (keys.Int n) c holds named = absurd (false≢true (named refl))
with_member-children (kinds.Object class ps) (keys.Str name) c holds named = map-append (λ p. p.1) ps ((name, c) ∷ [])
with_member-children kind key c holds named = absurd (false≢true holds)

pub with_member-keys : (kind : Kind) (key : Key) (c : Child) → is_container kind ≡ true → (is_object kind ≡ true → is_name key ≡ true) → keys_of (with_member kind key c) ≡ keys_of kind ++ key ∷ []
with_member-keys (kinds.Array ms) key c holds named = map-append (λ m. m.0) ms ((key, c) ∷ [])
with_member-keys (kinds.Object class ps) (keys.Int n) c holds named = absurd (false≢true (named refl))
with_member-keys (kinds.Object class ps) (keys.Str name) c holds named = map-append (λ p. keys.Str p.0) ps ((name, c) ∷ [])
with_member-keys kind key c holds named = absurd (false≢true holds)

pub with_member-is_object : (kind : Kind) (key : Key) (c : Child) → is_object (with_member kind key c) ≡ is_object kind
with_member-is_object (kinds.Array ms) key c = refl
with_member-is_object (kinds.Object class ps) (keys.Int n) c = refl
with_member-is_object (kinds.Object class ps) (keys.Str name) c = refl
with_member-is_object kind key c = refl

pub with_member-is_container : (kind : Kind) (key : Key) (c : Child) → is_container (with_member kind key c) ≡ is_container kind
with_member-is_container (kinds.Array ms) key c = refl
with_member-is_container (kinds.Object class ps) (keys.Int n) c = refl
with_member-is_container (kinds.Object class ps) (keys.Str name) c = refl
with_member-is_container kind key c = refl

pub no_same : (kind : Kind) (x : ℕ) → is_container kind ≡ true → ¬ kind ≡ kinds.Same x
no_same kind x holds e = false≢true (sym (ap is_container e) ∙ holds)

pub key_eq-swap : (a b : Key) → key_eq a b ≡ key_eq b a
key_eq-swap (keys.Int a) (keys.Int b) = laws-law.symm (keys.Int a) (keys.Int b)
key_eq-swap (keys.Int a) (keys.Str b) = refl
key_eq-swap (keys.Str a) (keys.Int b) = refl
key_eq-swap (keys.Str a) (keys.Str b) = laws-law.symm (keys.Str a) (keys.Str b)

pub or_false : (a b : Bool) → (a || b) ≡ false → (a ≡ false) × (b ≡ false)
or_false true b e = absurd cc
or_false false b e = (refl, e)

pub and_true : (a b : Bool) → (a && b) ≡ true → (a ≡ true) × (b ≡ true)
and_true true b e = (refl, e)
and_true false b e = absurd cc

pub not_true : (a : Bool) → not a ≡ true → a ≡ false
not_true true e = absurd cc
not_true false e = refl

distinct_push : (ks : List Key) (k : Key) → are_distinct ks ≡ true → holds_key ks k ≡ false → are_distinct (ks ++ k ∷ []) ≡ true
distinct_push [] k distinct new = refl
distinct_push (x ∷ xs) k distinct new =
    let d = and_true (not (holds_key xs x)) (are_distinct xs) distinct in
    let n = or_false (key_eq k x) (holds_key xs k) new in
    rw (list_any-append (key_eq x) xs (k ∷ []), not_true (holds_key xs x) d.0, key_eq-swap x k, n.0, distinct_push xs k d.1 n.1) refl

pub with_member-well_formed : (kind : Kind) (key : Key) (c : Child) → IsTrue (is_well_formed kind) → holds_key (keys_of kind) key ≡ false → (is_array kind ≡ true → is_array_key key ≡ true) → IsTrue (is_well_formed (with_member kind key c))
with_member-well_formed (kinds.Array ms) key c well new fits =
    let w = and_true (are_distinct (map (λ m. m.0) ms)) (list_all (λ m. is_array_key m.0) ms) well in
    rw (map-append, distinct_push (map (λ m. m.0) ms) key w.0 new, list_all-append, w.1, fits refl) refl
with_member-well_formed (kinds.Object class ps) (keys.Int n) c well new fits = well
with_member-well_formed (kinds.Object class ps) (keys.Str name) c well new fits =
    let w = and_true (are_distinct (map (λ p. keys.Str p.0) ps)) (is_class class) well in
    rw (map-append, distinct_push (map (λ p. keys.Str p.0) ps) (keys.Str name) w.0 new, w.1) refl
with_member-well_formed kinds.Null key c well new fits = well
with_member-well_formed (kinds.Bool b) key c well new fits = well
with_member-well_formed (kinds.Int n) key c well new fits = well
with_member-well_formed (kinds.Str bytes) key c well new fits = well
with_member-well_formed (kinds.Same x) key c well new fits = well

-- ---- what holds of each

pub All-push : {A : Type 0} (P : A → Type 0) (xs : List A) (y : A) → AllByRecursion P xs → P y → AllByRecursion P (xs ++ y ∷ [])
All-push P [] y all one = (one, tt)
All-push P (x ∷ xs) y all one = (all.0, All-push P xs y all.1 one)

pub All-set : {A : Type 0} (P : A → Type 0) (xs : List A) (i : ℕ) (y : A) → AllByRecursion P xs → P y → AllByRecursion P (set xs i y)
All-set P [] i y all one = tt
All-set P (x ∷ xs) zero y all one = (one, all.1)
All-set P (x ∷ xs) (suc i) y all one = (all.0, All-set P xs i y all.1 one)

pub All-at : {A : Type 0} (P : A → Type 0) (xs : List A) (i : ℕ) (x : A) → AllByRecursion P xs → slice_get xs i ≡ Some x → P x
All-at P [] i x all e = absurd cc
All-at P (y ∷ xs) zero x all e = let same : y ≡ x = cc in subst P same all.0
All-at P (y ∷ xs) (suc i) x all e = All-at P xs i x all.1 e

pub All-place : (P : Kind → Type 0) (g : List Kind) (k : ℕ) (x : Kind) → AllByRecursion P g → kind_at g k ≡ Some x → P x
All-place P g zero x all e = absurd cc
All-place P g (suc k) x all e = All-at P g k x all e

pub with_member-fits : (kind : Kind) (key : Key) (c : Child) → FitsKind kind → FitsKey key → FitsKind (with_member kind key c)
with_member-fits (kinds.Array ms) key c fits one = All-push (λ m. FitsKey m.0) ms (key, c) fits one
with_member-fits (kinds.Object class ps) (keys.Int n) c fits one = fits
with_member-fits (kinds.Object class ps) (keys.Str name) c fits one = (fits.0, All-push (λ p. AreBytes p.0) ps (name, c) fits.1 one)
with_member-fits kinds.Null key c fits one = fits
with_member-fits (kinds.Bool b) key c fits one = fits
with_member-fits (kinds.Int n) key c fits one = fits
with_member-fits (kinds.Str bytes) key c fits one = fits
with_member-fits (kinds.Same x) key c fits one = fits
