-- Places as they stand in memory.
use Rattle.std.proofs.Common.{◌≡◌, ◌∙◌, ℕ, zero, suc, ◌+◌, ◌-◌, ◌<◌, List, [], ◌∷◌, ◌++◌, length, take, drop, get_or, set, Option, Some, None, refl, sym, ap, ap₂, arith, add-one, append_assoc, drop-cons}
use Rattle.std.specs.Prelude.{OnOk, Result, Ok, Err, slice_set}
use Rattle.std.specs.List.{slice_get}
use Rattle.std.specs.Option.{option_map, option_and_then}
use Rattle.std.proofs.lemmas.List.{length-map, map-set, map-append, take-map, drop-map, get_or-map}
use Rattle.std.proofs.lemmas.List.Sums.{sum_by-cons}
use Rattle.std.proofs.lemmas.Option.{slice_get-get_or, slice_get-map}
use Rattle.php_graph.specs.declared.key.Key.{Key}
use Rattle.php_graph.specs.declared.child.Child.{Child}
use Rattle.php_graph.specs.declared.kind.Kind.{Kind}
use Rattle.php_graph.specs.declared.places.Place.{Place}
use Rattle.php_graph.specs.Graph.{lowered_kind, lowered_places}
use Rattle.php_graph.specs.Building.{with_member}
use Rattle.php_graph.specs.PlaceOffsets.{PlaceList, kinds_at, kinds_of, offsets_at, offsets_from}
use Rattle.php_graph.specs.Size.{cells_of, image_length}

-- what stands at a place but the first
pub other_kind : (l : PlaceList) (i : ℕ) (p : Place) → ¬ i ≡ 0 → i < length (kinds_of l) → p ≡ get_or l.others (i - 1) p → slice_get (kinds_of l) i ≡ Some p.kind
other_kind l zero p pos high is = absurd (pos refl)
other_kind l (suc i) p pos high is =
    let j : suc i - 1 ≡ i = omega arith in
    let at : p ≡ get_or l.others i p = is ∙ ap (λ k. get_or l.others k p) j in
    let there : slice_get l.others i ≡ Some p = slice_get-get_or l.others i p (omega (arith, high, length-map l.others (λ p. p.kind))) ∙ ap Some (sym at) in
    slice_get-map (λ p. p.kind) l.others i ∙ ap (option_map (λ p. p.kind)) there

-- another place but the first
pub set_kind : (l : PlaceList) (i : ℕ) (q : Place) → ¬ i ≡ 0 → l.first ∷ kinds_at (set l.others (i - 1) q) ≡ slice_set (kinds_of l) i q.kind
set_kind l zero q pos = absurd (pos refl)
set_kind l (suc i) q pos =
    let j : suc i - 1 ≡ i = omega arith in
    ap (λ k. l.first ∷ kinds_at (set l.others k q)) j ∙ ap (λ ks. l.first ∷ ks) (map-set (λ p. p.kind) l.others i q)

pub added : (l : PlaceList) (i : ℕ) (p q : Place) (key : Key) (child : Child) (r : Result (Unit {0}) Key) → ¬ i ≡ 0 → i < length (kinds_of l) → p ≡ get_or l.others (i - 1) p → OnOk r (q.kind ≡ with_member p.kind key child)
    → OnOk r ((kind : Kind) → slice_get (kinds_of l) i ≡ Some kind → l.first ∷ kinds_at (set l.others (i - 1) q) ≡ slice_set (kinds_of l) i (with_member kind key child))
added l i p q key child (Ok done) pos high is ok = λ kind e.
    let both : Some p.kind ≡ Some kind = sym (other_kind l i p pos high is) ∙ e in
    let same : p.kind ≡ kind = cc in
    set_kind l i q pos ∙ ap (slice_set (kinds_of l) i) (ok ∙ ap (λ k. with_member k key child) same)
added l i p q key child (Err k) pos high is ok = tt

-- equal kinds stand at the same numbers
pub same_at : (xs ys : List Place) (i : ℕ) (d e : Place) → kinds_at xs ≡ kinds_at ys → i < length xs → i < length ys → (get_or xs i d).kind ≡ (get_or ys i e).kind
same_at xs ys i d e same low high =
    sym (get_or-map (λ p. p.kind) xs i d d.kind low) ∙ ap (λ ks. get_or ks i d.kind) same ∙ get_or-map (λ p. p.kind) ys i e d.kind high

-- ---- one place laid out

pub record Laid (xs : List Place) (i w cells : ℕ) (q : Place) : Type 0 where
  pub kinds : kinds_at (set xs i q) ≡ kinds_at xs
  pub offsets : offsets_at (take (suc i) (set xs i q)) ++ offsets_from (w + cells) (kinds_at (drop (suc i) (set xs i q))) ≡ offsets_at (take i xs) ++ offsets_from w (kinds_at (drop i xs))
  pub words : (w + cells) + image_length (kinds_at (drop (suc i) (set xs i q))) ≡ w + image_length (kinds_at (drop i xs))

pub laid : (xs : List Place) (i w cells : ℕ) (p m q : Place) → i < length xs → p ≡ get_or xs i p → m ≡ get_or xs i m → q.kind ≡ m.kind → q.at ≡ w → cells ≡ cells_of p.kind → Laid xs i w cells q
laid [] i w cells p m q high is was kind at size = absurd (omega arith)
laid (x ∷ xs) zero w cells p m q high is was kind at size =
    let same : q.kind ≡ x.kind = kind ∙ ap (λ (y : Place). y.kind) was in
    let long : cells ≡ cells_of x.kind = size ∙ ap (λ (y : Place). cells_of y.kind) is in
    record {
      kinds = ap (λ (k : Kind). k ∷ kinds_at xs) same;
      offsets = λ i. at i ∷ offsets_from (w + long i) (kinds_at xs);
      words = omega (arith, sum_by-cons cells_of x.kind (kinds_at xs), long);
    }
laid (x ∷ xs) (suc i) w cells p m q high is was kind at size =
    let l = laid xs i w cells p m q (omega arith) is was kind at size in
    record {
      kinds = ap (λ (ks : List Kind). x.kind ∷ ks) l.kinds;
      offsets = ap (λ (os : List ℕ). x.at ∷ os) l.offsets;
      words = l.words;
    }

-- ---- a part

pub kinds_push : (a b : PlaceList) (p : Place) → b.first ≡ a.first → b.others ≡ a.others ++ p ∷ [] → kinds_of b ≡ kinds_of a ++ p.kind ∷ []
kinds_push a b p first others = ap₂ (λ (k : Kind) (ks : List Kind). k ∷ ks) first (ap kinds_at others ∙ map-append (λ (p : Place). p.kind) a.others (p ∷ []))

drop_at : (k : Kind) (ks : List Kind) (n : ℕ) (x : Kind) → slice_get (k ∷ ks) n ≡ Some x → drop n (k ∷ ks) ≡ x ∷ drop n ks
drop_at k ks zero x e = let same : k ≡ x = cc in ap (λ (y : Kind). y ∷ ks) same
drop_at k [] (suc n) x e = absurd cc
drop_at k (y ∷ ys) (suc n) x e = drop_at y ys n x e

pub part_list : (l : PlaceList) (from to : ℕ) (x : Kind) → from < to → slice_get (kinds_of l) from ≡ Some x → take (to - from) (drop from (kinds_of l)) ≡ x ∷ kinds_at (take ((to - 1) - from) (drop from l.others))
part_list l from to x lt e =
    let count : to - from ≡ suc ((to - 1) - from) = omega arith in
    let rest : take ((to - 1) - from) (drop from (kinds_at l.others)) ≡ kinds_at (take ((to - 1) - from) (drop from l.others)) =
    ap (take ((to - 1) - from)) (drop-map (λ (p : Place). p.kind) from l.others) ∙ take-map (λ (p : Place). p.kind) ((to - 1) - from) (drop from l.others) in
    ap (take (to - from)) (drop_at l.first (kinds_at l.others) from x e)
    ∙ ap (λ (n : ℕ). take n (x ∷ drop from (kinds_at l.others))) count
    ∙ ap (λ (ks : List Kind). x ∷ ks) rest

pub low_none : (by : ℕ) (x : Kind) (xs : List Kind) → lowered_kind by x ≡ None → lowered_places by (x ∷ xs) ≡ None
low_none by x xs e = ap (option_and_then (λ (k : Kind). option_map (λ (others : List Kind). k ∷ others) (lowered_places by xs))) e

pub low_some : (by : ℕ) (x y : Kind) (xs : List Kind) → lowered_kind by x ≡ Some y → lowered_places by (x ∷ xs) ≡ option_map (λ (others : List Kind). y ∷ others) (lowered_places by xs)
low_some by x y xs e = ap (option_and_then (λ (k : Kind). option_map (λ (others : List Kind). k ∷ others) (lowered_places by xs))) e

pub low_list : (by : ℕ) (x y : Kind) (g rest : List Kind) (o : Option (List Kind)) → g ≡ x ∷ rest → lowered_kind by x ≡ Some y → o ≡ lowered_places by rest → option_map (λ (others : List Kind). y ∷ others) o ≡ lowered_places by g
low_list by x y g rest o list first others =
    sym (ap (lowered_places by) list ∙ low_some by x y rest first ∙ ap (option_map (λ (ks : List Kind). y ∷ ks)) (sym others))

-- the copies so far with one more, and the rest
pub copied_one : {A : Type 0} (made more xs all : List A) (i : ℕ) (x y : A) → made ++ drop i xs ≡ all → i < length xs → x ≡ get_or xs i x → y ≡ x → more ≡ made ++ y ∷ [] → more ++ drop (i + 1) xs ≡ all
copied_one made more xs all i x y so_far lt is copy pushed =
    let front : drop i xs ≡ x ∷ drop (i + 1) xs = drop-cons xs i x lt ∙ ap₂ (λ z k. z ∷ drop k xs) (sym is) (sym (add-one i)) in
    rw (pushed, copy, append_assoc) (ap (λ (l : List _). made ++ l) (sym front) ∙ so_far)
