-- The numbers in a graph are places of it.
use Rattle.std.proofs.Common.{◌≡◌, ℕ, zero, suc, ◌+◌, ◌<◌, ◌≤◌, true, false, cond, eqb, ltb, leb, ◌&&◌, IsTrue, List, [], ◌∷◌, length, map, Option, Some, None, slice_get, refl, sym, subst, arith, inl, inr}
use Rattle.std.specs.Option.{option_and_then}
use Rattle.std.specs.List.{AllByRecursion}
use Rattle.std.proofs.lemmas.Bool.{cases_lt}
use Rattle.std.proofs.lemmas.Bool.Decides.{nat_tests}
use Rattle.php_graph.specs.declared.child.Child.{Child}
use Rattle.php_graph.specs.declared.child.Child.TheVariants.{Own, Back}
use Rattle.php_graph.specs.declared.kind.Kind.{Kind}
use Rattle.php_graph.specs.declared.kind.Kind.TheVariants as kinds
use Rattle.php_graph.specs.Graph.{IsGraph, kind_at, children_of, ends_after, child_end, end_of, levels, is_object_at}
use Rattle.value_image.specs.Places.{number_of, IsPlaceOf, NamesPlaces}

-- the members name places before e
abbrev pub AllBelow : ℕ → List Child → Type 0
AllBelow e cs = AllByRecursion (λ c. (1 ≤ number_of c) × (number_of c < e)) cs

below-more : (e f : ℕ) (cs : List Child) → e ≤ f → AllBelow e cs → AllBelow f cs
below-more e f [] le h = tt
below-more e f (c ∷ cs) le h = ((h.0.0, omega (arith, h.0.1)), below-more e f cs le h.1)

-- all members of the places from m up to e name places before e
pub record IsClosed (g : List Kind) (m e : ℕ) : Type 0 where
  pub up : m ≤ e
  pub inside : (p : ℕ) (kind : Kind) → m ≤ p → p < e → kind_at g p ≡ Some kind → AllBelow e (children_of kind)

closed-none : (g : List Kind) (m : ℕ) → IsClosed g m m
closed-none g m = record { up = omega arith; inside = λ p kind low high at. absurd (omega arith) }

closed-both : (g : List Kind) (m n e : ℕ) → IsClosed g m n → IsClosed g n e → IsClosed g m e
closed-both g m n e front back = record {
  up = omega (arith, front.up, back.up);
  inside = λ p kind low high at. elim (cases_lt p n) [
    | inl before ↦ below-more n e (children_of kind) back.up (front.inside p kind low before at)
    | inr behind ↦ back.inside p kind behind high at
  ];
}

-- members that end
pub members-closed : (g : List Kind) (end : Child → ℕ → Option ℕ)
    → ((c : Child) (m e : ℕ) → 1 ≤ m → end c m ≡ Some e → IsClosed g m e × ((1 ≤ number_of c) × (number_of c < e)))
    → (cs : List Child) (m e : ℕ) → 1 ≤ m → ends_after end cs m ≡ Some e → IsClosed g m e × AllBelow e cs
members-closed g end each [] m e one h =
    let same : m ≡ e = cc in
    (subst (λ x. IsClosed g m x) same (closed-none g m), tt)
members-closed g end each (c ∷ cs) m e one h =
    elim (end c m) as (λ o. end c m ≡ o → option_and_then (ends_after end cs) o ≡ Some e → IsClosed g m e × AllBelow e (c ∷ cs)) [
      | None ↦ λ is ends. cc
      | Some n ↦ λ is ends.
          let first = each c m n one is in
          let rest = members-closed g end each cs n e (omega (arith, first.0.up)) ends in
          (closed-both g m n e first.0 rest.0, ((first.1.0, omega (arith, first.1.1, rest.0.up)), rest.1))
    ] refl h

-- a member that ends
pub child-closed : (level : ℕ) (g : List Kind) (c : Child) (m e : ℕ) → 1 ≤ m → child_end level g c m ≡ Some e → IsClosed g m e × ((1 ≤ number_of c) × (number_of c < e))
unfolding child_end
child-closed zero g c m e one h = cc
child-closed (suc level) g (Own x) m e one h =
    elim (eqb x m) as (λ b. eqb x m ≡ b → cond b (option_and_then (λ kind. ends_after (child_end level g) (children_of kind) (m + 1)) (kind_at g m)) None ≡ Some e → IsClosed g m e × ((1 ≤ x) × (x < e))) [
      | true ↦ λ is ends.
          let same : x ≡ m = grind (arith, nat_tests) in
          elim (kind_at g m) as (λ o. kind_at g m ≡ o → option_and_then (λ kind. ends_after (child_end level g) (children_of kind) (m + 1)) o ≡ Some e → IsClosed g m e × ((1 ≤ x) × (x < e))) [
            | None ↦ λ at ends. cc
            | Some kind ↦ λ at ends.
                let inner = members-closed g (child_end level g) (λ d n f low is. child-closed level g d n f low is) (children_of kind) (m + 1) e (omega arith) ends in
                let up : m + 1 ≤ e = inner.0.up in (
                  record {
                    up = omega (arith, up);
                    inside = λ p other low high there. elim (cases_lt m p) [
                      | inl behind ↦ inner.0.inside p other (omega arith) high there
                      | inr before ↦
                          let here : m ≡ p = omega arith in
                          let found : kind_at g m ≡ Some other = subst (λ k. kind_at g k ≡ Some other) (sym here) there in
                          let kinds_same : kind ≡ other = cc in
                          subst (λ k. AllBelow e (children_of k)) kinds_same inner.1
                    ];
                  },
                  (omega arith, omega (arith, up, same)),
                )
          ] refl ends
      | false ↦ λ is ends. cc
    ] refl h
child-closed (suc level) g (Back x) m e one h =
    elim (leb 1 x && ltb x m) as (λ b. (leb 1 x && ltb x m) ≡ b → cond b (Some m) None ≡ Some e → IsClosed g m e × ((1 ≤ x) × (x < e))) [
      | true ↦ λ is ends.
          let same : m ≡ e = cc in
          let low : 1 ≤ x = grind (arith, nat_tests) in
          let high : x < m = grind (arith, nat_tests) in
          (subst (λ k. IsClosed g m k) same (closed-none g m), (low, omega (arith, same)))
      | false ↦ λ is ends. cc
    ] refl h

below-at : {A : Type 0} (n : ℕ) (ms : List (A × Child)) → AllBelow (n + 1) (map (λ m. m.1) ms) → (i : ℕ) (m : A × Child) → slice_get ms i ≡ Some m → IsPlaceOf n (number_of m.1)
below-at n [] h i m at = cc
below-at n (x ∷ xs) h zero m at =
    let e : x ≡ m = cc in
    subst (λ y. IsPlaceOf n (number_of y.1)) e (h.0.0, omega (arith, h.0.1))
below-at n (x ∷ xs) h (suc i) m at = below-at n xs h.1 i m at

pub get-within : {A : Type 0} (xs : List A) (i : ℕ) (x : A) → slice_get xs i ≡ Some x → i < length xs
get-within [] i x h = cc
get-within (y ∷ ys) zero x h = omega arith
get-within (y ∷ ys) (suc i) x h = omega (arith, get-within ys i x h)

-- a number at which something stands is a place
pub kind_at-place : (g : List Kind) (p : ℕ) (kind : Kind) → kind_at g p ≡ Some kind → IsPlaceOf (length g) p
kind_at-place g zero kind h = cc
kind_at-place g (suc p) kind h = (omega arith, omega (arith, get-within g p kind h))

object-place : (g : List Kind) (x : ℕ) → IsTrue (is_object_at g x) → 1 ≤ x
object-place g zero h = cc
object-place g (suc x) h = omega arith

-- all numbers in a graph are places of it
pub names_places : (g : List Kind) → IsGraph g → (p : ℕ) (kind : Kind) → kind_at g p ≡ Some kind → NamesPlaces (length g) kind
unfolding end_of
names_places g graph p kind at =
    let place = kind_at-place g p kind at in
    let closed = (child-closed levels g (Own 1) 1 (length g + 1) (omega arith) graph.sealed).0 in
    let below : AllBelow (length g + 1) (children_of kind) = closed.inside p kind place.0 (omega (arith, place.1)) at in
    elim kind as (λ k. kind_at g p ≡ Some k → AllBelow (length g + 1) (children_of k) → NamesPlaces (length g) k) [
      | kinds.Null ↦ λ is all. tt
      | kinds.Bool b ↦ λ is all. tt
      | kinds.Int n ↦ λ is all. tt
      | kinds.Str bytes ↦ λ is all. tt
      | kinds.Array ms ↦ λ is all. below-at (length g) ms all
      | kinds.Object class ps ↦ λ is all. below-at (length g) ps all
      | kinds.Same x ↦ λ is all.
          let target = graph.targets p x is in
          (object-place g x target.1, omega (arith, target.0, place.1))
    ] at below
