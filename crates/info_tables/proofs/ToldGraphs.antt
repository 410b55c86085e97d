-- The values are graphs.
use Rattle.std.proofs.Common.{◌≡◌, ◌∙◌, ℕ, zero, suc, ◌+◌, ◌≤◌, true, List}
use Rattle.std.proofs.Common.{[], ◌∷◌, ◌++◌, length, map, Some, refl, sym, ap, subst}
use Rattle.std.proofs.Common.{arith, eq-eqb, append-nil, length-append}
use Rattle.std.proofs.lemmas.List.{append_assoc}
use Rattle.std.specs.Prelude.{IsTrue, sum_by, count_by}
use Rattle.std.specs.List.{AllByRecursion, list_all, slice_get}
use Rattle.std.proofs.lemmas.Bool.{and_from, and_parts}
use Rattle.std.proofs.lemmas.List.Sums.{sum_by-cons, sum_by-append}
use Rattle.php_graph.specs.declared.key.Key.{Key}
use Rattle.php_graph.specs.declared.child.Child.TheVariants.{Own}
use Rattle.php_graph.specs.declared.kind.Kind.{Kind}
use Rattle.php_graph.specs.declared.kind.Kind.TheVariants as kinds
use Rattle.php_graph.specs.Graph.{kind_at, children_of, ends_after, child_end, end_of, levels}
use Rattle.php_graph.specs.Graph.{most_values, is_back, is_array_key, are_distinct}
use Rattle.php_graph.specs.Graph.{is_well_formed, FitsKind, FitsKey, IsGraph}
use Rattle.php_graph.specs.MemberCounts.{children_in}
use Rattle.apcu_model.specs.Infos.{Told, info_members, info_values, info_array}
use Rattle.apcu_model.specs.InfoGraphs.{IsTellable}

-- what stands behind some places and before others
slice_middle : (before after : List Kind) (kind : Kind)
    → slice_get (before ++ kind ∷ after) (length before) ≡ Some kind
slice_middle [] after kind = refl
slice_middle (b ∷ bs) after kind = slice_middle bs after kind

kind_middle : (before after : List Kind) (kind : Kind) (place : ℕ) → place ≡ length before + 1
    → kind_at (before ++ kind ∷ after) place ≡ Some kind
kind_middle before after kind place is =
    let same : suc (length before) ≡ place = omega (arith, is) in
    subst (λ n. kind_at (before ++ kind ∷ after) n ≡ Some kind) same
    (slice_middle before after kind)

-- a place of a value that shares nothing
pub record IsFlat (kind : Kind) : Type 0 where
  pub well : IsTrue (is_well_formed kind)
  pub fits : FitsKind kind
  pub other : (x : ℕ) → ¬ kind ≡ kinds.Same x
  pub backs : count_by is_back (children_of kind) ≡ 0

-- a value of this many levels, wherever it is
pub record IsValue (depth : ℕ) (v : Told) : Type 0 where
  pub ends : (level place : ℕ) (before after : List Kind) → depth ≤ level
      → place ≡ length before + 1
      → child_end level (before ++ (v place ++ after)) (Own place) place
      ≡ Some (place + length (v place))
  pub flat : (place : ℕ) → AllByRecursion IsFlat (v place)
  pub count : (place : ℕ) → children_in (v place) + 1 ≡ length (v place)

single_ends : (kind : Kind) → children_of kind ≡ [] → (level place : ℕ) (before after : List Kind)
    → 1 ≤ level → place ≡ length before + 1
    → child_end level (before ++ kind ∷ after) (Own place) place ≡ Some (place + 1)
unfolding child_end
single_ends kind leaf zero place before after deep is = absurd (omega (arith, deep))
single_ends kind leaf (suc level) place before after deep is =
    rw (eq-eqb place place refl, kind_middle before after kind place is, leaf) refl

-- one place is one
pub single : (kind : Kind) → children_of kind ≡ [] → IsFlat kind → IsValue 1 (λ place. kind ∷ [])
single kind leaf flat = record {
  ends = single_ends kind leaf;
  flat = λ place. (flat, tt);
  count = λ place.
      omega (arith, sum_by-cons (λ k. length (children_of k)) kind [], ap length leaf);
}

-- ---- arrays

-- keys that may stand in one array
pub record AreKeys (ks : List Key) : Type 0 where
  pub distinct : are_distinct ks ≡ true
  pub keys : list_all is_array_key ks ≡ true
  pub fits : AllByRecursion FitsKey ks

members_end : (depth level : ℕ) → depth ≤ level → (ms : List (Key × Told))
    → AllByRecursion (λ m. IsValue depth m.1) ms → (g before after : List Kind) (place : ℕ)
    → g ≡ before ++ (info_values place ms ++ after) → place ≡ length before + 1
    → ends_after (child_end level g) (map (λ m. m.1) (info_members place ms)) place
    ≡ Some (place + length (info_values place ms))
members_end depth level deep [] all g before after place is at =
    let same : place ≡ place + 0 = omega arith in ap Some same
members_end depth level deep (m ∷ ms) all g before after place is at =
    let first = m.1 place in
    let next = place + length first in
    let later = info_values next ms in
    let here : g ≡ before ++ (first ++ (later ++ after)) =
    is ∙ ap (λ l. before ++ l) (append_assoc first later after) in
    let end : child_end level g (Own place) place ≡ Some next =
    subst (λ h. child_end level h (Own place) place ≡ Some next) (sym here)
    (all.0.ends level place before (later ++ after) deep at) in
    let behind : g ≡ (before ++ first) ++ (later ++ after) =
    here ∙ sym (append_assoc before first (later ++ after)) in
    let after_it : next ≡ length (before ++ first) + 1 =
    omega (arith, at, length-append before first) in
    let rest = members_end depth level deep ms all.1 g (before ++ first) after next behind after_it in
    let long : next + length later ≡ place + length (first ++ later) =
    omega (arith, length-append first later) in
    rw end (rest ∙ ap Some long)

array_ends : (depth : ℕ) (ms : List (Key × Told)) → AllByRecursion (λ m. IsValue depth m.1) ms
    → (level place : ℕ) (before after : List Kind) → suc depth ≤ level
    → place ≡ length before + 1
    → child_end level (before ++ (info_array ms place ++ after)) (Own place) place
    ≡ Some (place + length (info_array ms place))
unfolding child_end
array_ends depth ms all zero place before after deep is = absurd (omega (arith, deep))
array_ends depth ms all (suc level) place before after deep is =
    let kind = kinds.Array (info_members (place + 1) ms) in
    let later = info_values (place + 1) ms in
    let g = before ++ kind ∷ (later ++ after) in
    let split : g ≡ (before ++ kind ∷ []) ++ (later ++ after) =
    sym (append_assoc before (kind ∷ []) (later ++ after)) in
    let at : place + 1 ≡ length (before ++ kind ∷ []) + 1 =
    omega (arith, is, length-append before (kind ∷ [])) in
    let members = members_end depth level (omega (arith, deep)) ms all g (before ++ kind ∷ []) after (place + 1) split at in
    let long : place + 1 + length later ≡ place + suc (length later) = omega arith in
    rw (eq-eqb place place refl, kind_middle before (later ++ after) kind place is)
    (members ∙ ap Some long)

keys_are : (place : ℕ) (ms : List (Key × Told))
    → map (λ m. m.0) (info_members place ms) ≡ map (λ m. m.0) ms
keys_are place [] = refl
keys_are place (m ∷ ms) = ap (λ l. m.0 ∷ l) (keys_are (place + length (m.1 place)) ms)

keys_allowed : (place : ℕ) (ms : List (Key × Told))
    → list_all is_array_key (map (λ m. m.0) ms) ≡ true
    → list_all (λ m. is_array_key m.0) (info_members place ms) ≡ true
keys_allowed place [] h = refl
keys_allowed place (m ∷ ms) h =
    let p = and_parts (is_array_key m.0) (list_all is_array_key (map (λ x. x.0) ms)) h in
    let next = place + length (m.1 place) in
    and_from (is_array_key m.0) (list_all (λ x. is_array_key x.0) (info_members next ms)) p.0
    (keys_allowed next ms p.1)

keys_fit : (place : ℕ) (ms : List (Key × Told)) → AllByRecursion FitsKey (map (λ m. m.0) ms)
    → AllByRecursion (λ m. FitsKey m.0) (info_members place ms)
keys_fit place [] h = tt
keys_fit place (m ∷ ms) h = (h.0, keys_fit (place + length (m.1 place)) ms h.1)

no_backs : (place : ℕ) (ms : List (Key × Told))
    → count_by is_back (map (λ m. m.1) (info_members place ms)) ≡ 0
no_backs place [] = refl
no_backs place (m ∷ ms) = no_backs (place + length (m.1 place)) ms

children_many : (place : ℕ) (ms : List (Key × Told))
    → length (map (λ m. m.1) (info_members place ms)) ≡ length ms
children_many place [] = refl
children_many place (m ∷ ms) = ap suc (children_many (place + length (m.1 place)) ms)

all_append : {X : Type 0} (P : X → Type 0) (xs ys : List X) → AllByRecursion P xs
    → AllByRecursion P ys → AllByRecursion P (xs ++ ys)
all_append P [] ys a b = b
all_append P (x ∷ xs) ys a b = (a.0, all_append P xs ys a.1 b)

values_flat : (depth place : ℕ) (ms : List (Key × Told))
    → AllByRecursion (λ m. IsValue depth m.1) ms → AllByRecursion IsFlat (info_values place ms)
values_flat depth place [] all = tt
values_flat depth place (m ∷ ms) all =
    let next = place + length (m.1 place) in
    all_append IsFlat (m.1 place) (info_values next ms) (all.0.flat place)
    (values_flat depth next ms all.1)

values_count : (depth place : ℕ) (ms : List (Key × Told))
    → AllByRecursion (λ m. IsValue depth m.1) ms
    → children_in (info_values place ms) + length ms ≡ length (info_values place ms)
values_count depth place [] all = refl
values_count depth place (m ∷ ms) all =
    let first = m.1 place in
    let next = place + length first in
    let later = info_values next ms in
    omega (
      arith,
      sum_by-append (λ k. length (children_of k)) first later,
      length-append first later,
      all.0.count place,
      values_count depth next ms all.1,
    )

array_flat : (place : ℕ) (ms : List (Key × Told)) → AreKeys (map (λ m. m.0) ms)
    → IsFlat (kinds.Array (info_members place ms))
array_flat place ms keys = record {
  well = and_from (are_distinct (map (λ m. m.0) (info_members place ms)))
      (list_all (λ m. is_array_key m.0) (info_members place ms))
      (ap are_distinct (keys_are place ms) ∙ keys.distinct) (keys_allowed place ms keys.keys);
  fits = keys_fit place ms keys.fits;
  other = λ x e. absurd cc;
  backs = no_backs place ms;
}

-- an array of values is one
pub array : (depth : ℕ) (ms : List (Key × Told)) → AreKeys (map (λ m. m.0) ms)
    → AllByRecursion (λ m. IsValue depth m.1) ms → IsValue (suc depth) (info_array ms)
array depth ms keys all = record {
  ends = array_ends depth ms all;
  flat = λ place. (array_flat (place + 1) ms keys, values_flat depth (place + 1) ms all);
  count = λ place.
      let kind = kinds.Array (info_members (place + 1) ms) in
      omega (
        arith,
        sum_by-cons (λ k. length (children_of k)) kind (info_values (place + 1) ms),
        children_many (place + 1) ms,
        values_count depth (place + 1) ms all,
      );
}

-- ---- graphs

no_same_in : (g : List Kind) → AllByRecursion IsFlat g → (k x : ℕ)
    → ¬ slice_get g k ≡ Some (kinds.Same x)
no_same_in [] all k x e = absurd cc
no_same_in (kind ∷ g) all zero x e = let same : kind ≡ kinds.Same x = cc in all.0.other x same
no_same_in (kind ∷ g) all (suc k) x e = no_same_in g all.1 k x e

no_same : (g : List Kind) → AllByRecursion IsFlat g → (p x : ℕ) → ¬ kind_at g p ≡ Some (kinds.Same x)
no_same g all zero x e = absurd cc
no_same g all (suc k) x e = no_same_in g all k x e

no_backs_in : (g : List Kind) → AllByRecursion IsFlat g
    → sum_by (λ kind. count_by is_back (children_of kind)) g ≡ 0
no_backs_in [] all = refl
no_backs_in (kind ∷ g) all =
    omega (
      arith,
      sum_by-cons (λ k. count_by is_back (children_of k)) kind g,
      all.0.backs,
      no_backs_in g all.1,
    )

all_well : (g : List Kind) → AllByRecursion IsFlat g
    → AllByRecursion (λ kind. IsTrue (is_well_formed kind)) g
all_well [] all = tt
all_well (kind ∷ g) all = (all.0.well, all_well g all.1)

all_fit : (g : List Kind) → AllByRecursion IsFlat g → AllByRecursion FitsKind g
all_fit [] all = tt
all_fit (kind ∷ g) all = (all.0.fits, all_fit g all.1)

sealed_is : (depth : ℕ) (v : Told) → IsValue depth v → depth ≤ levels
    → end_of (v 1) 1 ≡ Some (length (v 1) + 1)
unfolding end_of
sealed_is depth v is low =
    let end = is.ends levels 1 [] [] low refl in
    let all : v 1 ++ [] ≡ v 1 = append-nil (v 1) in
    let long : 1 + length (v 1) ≡ length (v 1) + 1 = omega arith in
    subst (λ g. child_end levels g (Own 1) 1 ≡ Some (length (v 1) + 1)) all (end ∙ ap Some long)

graph_of : (depth : ℕ) (v : Told) → IsValue depth v → depth ≤ levels
    → length (v 1) ≤ most_values → IsGraph (v 1)
graph_of depth v is low few = record {
  sealed = sealed_is depth v is low;
  targets = λ p x e. absurd (no_same (v 1) (is.flat 1) p x e);
  well_formed = all_well (v 1) (is.flat 1);
  fits = all_fit (v 1) (is.flat 1);
  count = omega (arith, few, no_backs_in (v 1) (is.flat 1));
}

-- a value of few levels can be represented as a graph
pub tellable : (depth : ℕ) (v : Told) → IsValue depth v → depth ≤ levels → IsTellable (v 1)
tellable depth v is low = record {
  graph = graph_of depth v is low;
  children = λ few. omega (arith, is.count 1, few);
}
