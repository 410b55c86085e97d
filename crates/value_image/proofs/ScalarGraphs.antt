-- A graph that begins with null, a truth value, an integer or a byte string.
use Rattle.std.proofs.Common.{◌≡◌, ℕ, zero, suc, ◌+◌, ◌<◌, ◌≤◌, ◌^◌, List, [], ◌∷◌, length, slice_get, slice_index, Some, refl, ap, sym, subst, arith}
use Rattle.php_graph.specs.declared.child.Child.{Child}
use Rattle.php_graph.specs.declared.child.Child.TheVariants.{Own}
use Rattle.php_graph.specs.declared.kind.Kind.{Kind}
use Rattle.php_graph.specs.declared.kind.Kind.TheVariants as kinds
use Rattle.php_graph.specs.declared.places.Place.{Place}
use Rattle.php_graph.specs.Graph.{IsGraph, children_of, ends_after, child_end, end_of, levels}
use Rattle.php_graph.specs.PlaceOffsets.{IsKept, kinds_at, offsets_at}
use Rattle.php_graph.specs.Size.{image_length, offset_of}
use Rattle.seg_words.specs.Windows.{Aside}
use Rattle.seg_words.specs.Blocks.{IsTold}
use Rattle.value_image.specs.Image.{IsImageOf}
use Rattle.value_image.specs.Reading.{IsKindAt, renumbered_kind, scalar_at}
use Rattle.value_image.proofs.Counts.{kept}
use Rattle.value_image.proofs.ImageParts.{kind-there}
use Rattle.value_image.proofs.ImageWalk.{walk-first}

-- a value without members takes one place
ends-next : (level : ℕ) (x : Kind) (xs : List Kind) (e : ℕ) → children_of x ≡ [] → child_end level (x ∷ xs) (Own 1) 1 ≡ Some e → e ≡ 2
unfolding child_end
ends-next zero x xs e none h = cc
ends-next (suc level) x xs e none h =
    let two : Some 2 ≡ Some e = subst (λ (cs : List Child). ends_after (child_end level (x ∷ xs)) cs 2 ≡ Some e) none h in
    cc

one-place : (x : Kind) (xs : List Kind) → IsGraph (x ∷ xs) → children_of x ≡ [] → xs ≡ []
unfolding end_of
one-place x [] graph none = refl
one-place x (y ∷ ys) graph none =
    absurd (omega (arith, ends-next levels x (y ∷ ys) (length (x ∷ y ∷ ys) + 1) none graph.sealed))

scalar-is : (f : ℕ → ℕ) (at : ℕ) (kind : Kind) (r : Kind × ℕ) → scalar_at at (renumbered_kind f kind) ≡ Some r → (kind ≡ r.0) × (children_of kind ≡ [])
scalar-is f at kinds.Null r h = let e : (kinds.Null, at + 1) ≡ r = cc in (ap (λ (p : Kind × ℕ). p.0) e, refl)
scalar-is f at (kinds.Bool b) r h = let e : (kinds.Bool b, at + 1) ≡ r = cc in (ap (λ (p : Kind × ℕ). p.0) e, refl)
scalar-is f at (kinds.Int n) r h = let e : (kinds.Int n, at + 2) ≡ r = cc in (ap (λ (p : Kind × ℕ). p.0) e, refl)
scalar-is f at (kinds.Str bytes) r h = cc
scalar-is f at (kinds.Array ms) r h = cc
scalar-is f at (kinds.Object class ps) r h = cc
scalar-is f at (kinds.Same x) r h = cc

-- it is that place alone
pub alone : (at : ℕ) (g : List Kind) (kind : Kind) (r : Kind × ℕ) → IsGraph g → slice_get g 0 ≡ Some kind → scalar_at at (renumbered_kind (offset_of g) kind) ≡ Some r → g ≡ r.0 ∷ []
alone at [] kind r graph get h = cc
alone at (x ∷ xs) kind r graph get h =
    let same : x ≡ kind = cc in
    let is = scalar-is (offset_of (x ∷ xs)) at kind r h in
    let none : children_of x ≡ [] = subst (λ (k : Kind). children_of k ≡ []) (sym same) is.1 in
    let first : x ≡ r.0 = cc in
    let rest : xs ≡ [] = one-place x xs graph none in
    rw (first, rest) refl

-- the graph as it is kept
pub kept-alone : (at len words : ℕ) (g : List Kind) (kind : Kind) (r : Kind × ℕ) (none : List Place) → IsGraph g → len ≡ image_length g → len < 2 ^ 32 → words ≡ len
    → slice_get g 0 ≡ Some kind → scalar_at at (renumbered_kind (offset_of g) kind) ≡ Some r → none ≡ [] → IsKept (r.0 ∷ kinds_at none) (0 ∷ offsets_at none) words
kept-alone at len words g kind r none graph long short ew get h en =
    let is = alone at g kind r graph get h in
    let there : IsGraph (r.0 ∷ []) = subst IsGraph is graph in
    let long' : len ≡ image_length (r.0 ∷ []) = subst (λ (ks : List Kind). len ≡ image_length ks) is long in
    subst (λ (ps : List Place). IsKept (r.0 ∷ kinds_at ps) (0 ∷ offsets_at ps) words) (sym en) (kept (r.0 ∷ []) (0 ∷ []) words len (r.0 ∷ []) there refl refl ew long' short)

-- the first place of an image whose first word was read
pub first-read : (row : List ℕ) (old : Aside) (at len tag : ℕ) (g : List Kind) (row' : List ℕ) (new : Aside)
    → IsImageOf row at len g → len < 2 ^ 32 → ((i : ℕ) → at ≤ i → i < at + len → IsTold old.windows i) → (IsTold old.windows at → tag ≡ slice_index row at) → row' ≡ row → new ≡ old
    → (kind : Kind) × (slice_get g 0 ≡ Some kind) × IsKindAt row' new.windows at (renumbered_kind (offset_of g) kind) × (tag ≡ slice_index row' at)
first-read row old at len tag g row' new image short told word er ea =
    let step = walk-first row old at len g image short told in
    (step.0, step.1, rw (er, ea) step.2, rw er (word (kind-there row old.windows at (renumbered_kind (offset_of g) step.0) step.2).1))

text-is : (f : ℕ → ℕ) (kind : Kind) (bytes : List ℕ) → renumbered_kind f kind ≡ kinds.Str bytes → (kind ≡ kinds.Str bytes) × (children_of kind ≡ [])
text-is f kinds.Null bytes h = cc
text-is f (kinds.Bool b) bytes h = cc
text-is f (kinds.Int n) bytes h = cc
text-is f (kinds.Str bs) bytes h = (h, refl)
text-is f (kinds.Array ms) bytes h = cc
text-is f (kinds.Object class ps) bytes h = cc
text-is f (kinds.Same x) bytes h = cc

-- a graph that begins with a byte string is that place alone
pub alone-text : (f : ℕ → ℕ) (g : List Kind) (kind : Kind) (bytes : List ℕ) → IsGraph g → slice_get g 0 ≡ Some kind → renumbered_kind f kind ≡ kinds.Str bytes → g ≡ kinds.Str bytes ∷ []
alone-text f [] kind bytes graph get h = cc
alone-text f (x ∷ xs) kind bytes graph get h =
    let same : x ≡ kind = cc in
    let is = text-is f kind bytes h in
    let none : children_of x ≡ [] = subst (λ (k : Kind). children_of k ≡ []) (sym same) is.1 in
    let first : x ≡ kinds.Str bytes = cc in
    let rest : xs ≡ [] = one-place x xs graph none in
    rw (first, rest) refl

-- the graph as it is kept
pub kept-text : (f : ℕ → ℕ) (len words : ℕ) (g : List Kind) (kind : Kind) (bytes read : List ℕ) (none : List Place) → IsGraph g → len ≡ image_length g → len < 2 ^ 32 → words ≡ len
    → slice_get g 0 ≡ Some kind → renumbered_kind f kind ≡ kinds.Str bytes → read ≡ bytes → none ≡ [] → IsKept (kinds.Str read ∷ kinds_at none) (0 ∷ offsets_at none) words
kept-text f len words g kind bytes read none graph long short ew get h er en =
    let is = alone-text f g kind bytes graph get h in
    let there : IsGraph (kinds.Str bytes ∷ []) = subst IsGraph is graph in
    let long' : len ≡ image_length (kinds.Str bytes ∷ []) = subst (λ (ks : List Kind). len ≡ image_length ks) is long in
    let done : IsKept (kinds.Str bytes ∷ []) (0 ∷ []) words = kept (kinds.Str bytes ∷ []) (0 ∷ []) words len (kinds.Str bytes ∷ []) there refl refl ew long' short in
    subst (λ (bs : List ℕ). IsKept (kinds.Str bs ∷ kinds_at none) (0 ∷ offsets_at none) words) (sym er)
    (subst (λ (ps : List Place). IsKept (kinds.Str bytes ∷ kinds_at ps) (0 ∷ offsets_at ps) words) (sym en) done)
