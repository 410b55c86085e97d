-- A graph has no more members than values.
use Rattle.std.proofs.Common.{◌≡◌, ℕ, zero, suc, ◌+◌, ◌-◌, ◌<◌, ◌≤◌, ◌^◌, true, false, cond, eqb, ltb, leb, ◌&&◌, List, [], ◌∷◌, length, Option, Some, None, sum_by, refl, ap, ◌∙◌, arith}
use Rattle.std.specs.Prelude.{count_by}
use Rattle.std.specs.Option.{option_and_then}
use Rattle.std.proofs.lemmas.List.Sums.{sum_by-cons}
use Rattle.php_graph.specs.declared.child.Child.{Child}
use Rattle.php_graph.specs.declared.child.Child.TheVariants.{Own, Back}
use Rattle.php_graph.specs.declared.kind.Kind.{Kind}
use Rattle.php_graph.specs.Graph.{IsGraph, kind_at, children_of, ends_after, child_end, end_of, levels, is_back, most_values}
use Rattle.php_graph.specs.MemberCounts.{children_in}
use Rattle.php_graph.specs.Size.{image_length}
use Rattle.php_graph.specs.PlaceOffsets.{IsKept, offsets_from}

-- the members that are written here
abbrev owns : List Child → ℕ
owns [] = 0
owns (Own x ∷ cs) = suc (owns cs)
owns (Back x ∷ cs) = owns cs

abbrev owns_of : Option Kind → ℕ
owns_of None = 0
owns_of (Some kind) = owns (children_of kind)

-- those in the n places from m on
abbrev owns_from : List Kind → ℕ → ℕ → ℕ
owns_from g m zero = 0
owns_from g m (suc n) = owns_of (kind_at g m) + owns_from g (m + 1) n

owns_from-add : (g : List Kind) (m a b : ℕ) → owns_from g m (a + b) ≡ owns_from g m a + owns_from g (m + a) b
owns_from-add g m zero b =
    let e : zero + b ≡ b = omega arith in
    let f : m ≡ m + zero = omega arith in
    ap (owns_from g m) e ∙ (ap (λ (k : ℕ). owns_from g k b) f ∙ omega arith)
owns_from-add g m (suc a) b =
    let e : suc a + b ≡ suc (a + b) = omega arith in
    let f : m + 1 + a ≡ m + suc a = omega arith in
    ap (owns_from g m) e ∙ omega (arith, owns_from-add g (m + 1) a b, ap (λ (k : ℕ). owns_from g k b) f)

owns-cons : (c : Child) (cs : List Child) → owns (c ∷ cs) ≡ owns (c ∷ []) + owns cs
owns-cons (Own x) cs = omega arith
owns-cons (Back x) cs = omega arith

-- this many numbers were taken by members, and by the members in their places
record IsCounted (g : List Kind) (own m e : ℕ) : Type 0 where
  up : m ≤ e
  count : own + owns_from g m (e - m) ≡ e - m

members-counted : (g : List Kind) (end : Child → ℕ → Option ℕ)
    → ((c : Child) (m e : ℕ) → end c m ≡ Some e → IsCounted g (owns (c ∷ [])) m e)
    → (cs : List Child) (m e : ℕ) → ends_after end cs m ≡ Some e → IsCounted g (owns cs) m e
members-counted g end each [] m e h =
    let same : m ≡ e = cc in
    let none : e - m ≡ 0 = omega arith in
    record { up = omega arith; count = rw none refl }
members-counted g end each (c ∷ cs) m e h =
    elim (end c m) as (λ o. end c m ≡ o → option_and_then (ends_after end cs) o ≡ Some e → IsCounted g (owns (c ∷ cs)) m e) [
      | None ↦ λ is ends. cc
      | Some n ↦ λ is ends.
          let first = each c m n is in
          let rest = members-counted g end each cs n e ends in
          let both : owns (c ∷ cs) ≡ owns (c ∷ []) + owns cs = owns-cons c cs in
          let split : e - m ≡ (n - m) + (e - n) = omega (arith, first.up, rest.up) in
          let next : m + (n - m) ≡ n = omega (arith, first.up) in
          let parts = ap (owns_from g m) split ∙ owns_from-add g m (n - m) (e - n) in
          let moved = ap (λ (k : ℕ). owns_from g k (e - n)) next in
          record {
            up = omega (arith, first.up, rest.up);
            count = omega (arith, first.count, rest.count, both, parts, moved, split);
          }
    ] refl h

child-counted : (level : ℕ) (g : List Kind) (c : Child) (m e : ℕ) → child_end level g c m ≡ Some e → IsCounted g (owns (c ∷ [])) m e
unfolding child_end
child-counted zero g c m e h = cc
child-counted (suc level) g (Own x) m e h =
    elim (eqb x m) as (λ b. eqb x m ≡ b → cond b (option_and_then (λ kind. ends_after (child_end level g) (children_of kind) (m + 1)) (kind_at g m)) None ≡ Some e → IsCounted g 1 m e) [
      | true ↦ λ is ends.
          elim (kind_at g m) as (λ o. kind_at g m ≡ o → option_and_then (λ kind. ends_after (child_end level g) (children_of kind) (m + 1)) o ≡ Some e → IsCounted g 1 m e) [
            | None ↦ λ at ends. cc
            | Some kind ↦ λ at ends.
                let inner = members-counted g (child_end level g) (λ d n f is. child-counted level g d n f is) (children_of kind) (m + 1) e ends in
                let up : m + 1 ≤ e = inner.up in
                let one : e - m ≡ suc (e - (m + 1)) = omega arith in
                let here = ap owns_of at in
                let parts = ap (owns_from g m) one in
                record { up = omega (arith, up); count = omega (arith, inner.count, parts, here, one) }
          ] refl ends
      | false ↦ λ is ends. cc
    ] refl h
child-counted (suc level) g (Back x) m e h =
    elim (leb 1 x && ltb x m) as (λ b. cond b (Some m) None ≡ Some e → IsCounted g 0 m e) [
      | true ↦ λ ends.
          let same : m ≡ e = cc in
          let none : e - m ≡ 0 = omega arith in
          record { up = omega arith; count = rw none refl }
      | false ↦ λ ends. cc
    ] h

owns_from-behind : (x : Kind) (g : List Kind) (k n : ℕ) → owns_from (x ∷ g) (suc (suc k)) n ≡ owns_from g (suc k) n
owns_from-behind x g k zero = refl
owns_from-behind x g k (suc n) =
    let a : suc (suc k) + 1 ≡ suc (suc (suc k)) = omega arith in
    let b : suc k + 1 ≡ suc (suc k) = omega arith in
    omega (arith, owns_from-behind x g (suc k) n, ap (λ (j : ℕ). owns_from (x ∷ g) j n) a, ap (λ (j : ℕ). owns_from g j n) b)

owns_from-all : (g : List Kind) → owns_from g 1 (length g) ≡ sum_by (λ kind. owns (children_of kind)) g
owns_from-all [] = refl
owns_from-all (x ∷ g) =
    omega (arith, owns_from-behind x g 0 (length g), owns_from-all g, sum_by-cons (λ kind. owns (children_of kind)) x g)

-- a member is written here, or shares a place
members-split : (cs : List Child) → length cs ≡ owns cs + count_by is_back cs
members-split [] = refl
members-split (Own x ∷ cs) = omega (arith, members-split cs, sum_by-cons (λ c. cond (is_back c) 1 0) (Own x) cs)
members-split (Back x ∷ cs) = omega (arith, members-split cs, sum_by-cons (λ c. cond (is_back c) 1 0) (Back x) cs)

kinds-split : (g : List Kind) → children_in g ≡ sum_by (λ kind. owns (children_of kind)) g + sum_by (λ kind. count_by is_back (children_of kind)) g
kinds-split [] = refl
kinds-split (x ∷ g) =
    omega (arith, members-split (children_of x), kinds-split g, sum_by-cons (λ kind. length (children_of kind)) x g, sum_by-cons (λ kind. owns (children_of kind)) x g, sum_by-cons (λ kind. count_by is_back (children_of kind)) x g)

-- a graph has few members
pub children_few : (g : List Kind) → IsGraph g → children_in g ≤ most_values
unfolding end_of
children_few g graph =
    let counted = child-counted levels g (Own 1) 1 (length g + 1) graph.sealed in
    let all : length g + 1 - 1 ≡ length g = omega arith in
    let whole = ap (owns_from g 1) all in
    omega (arith, counted.count, whole, owns_from-all g, kinds-split g, graph.count)

-- what a graph keeps besides its places
pub kept : (places : List Kind) (offsets : List ℕ) (words len : ℕ) (g : List Kind) → IsGraph g → places ≡ g → offsets ≡ offsets_from 0 g → words ≡ len → len ≡ image_length g → len < 2 ^ 32
    → IsKept places offsets words
kept places offsets words len g graph ep eo ew el short =
    let there : IsKept g (offsets_from 0 g) len = record {
      graph = graph;
      offsets_are = refl;
      few = children_few g graph;
      words_are = el;
      small = omega arith;
    } in
    rw (ep, eo, ew) there
