-- A part of a graph is a graph.
use Rattle.std.proofs.Common.{◌≡◌, ℕ, zero, suc, ◌+◌, ◌-◌, ◌<◌, ◌≤◌, Bool, true, cond, List, [], ◌∷◌, length, map, take, drop, get_or, sum_by, Option, Some, None, refl, sym, ap, subst, ◌∙◌, arith, zero-add}
use Rattle.std.specs.Prelude.{◌&&◌, nat_lt, count_by, IsTrue, IfOk, IfSome, Result, Ok, Err}
use Rattle.std.specs.declared.alloc.AllocError.{AllocError}
use Rattle.std.specs.List.{AllByRecursion, slice_get, list_all}
use Rattle.std.specs.Option.{option_map}
use Rattle.std.proofs.lemmas.Bool.Decides.{nat_tests}
use Rattle.std.proofs.lemmas.List.{length-take, length-drop}
use Rattle.std.proofs.lemmas.Option.{slice_get-get_or}
use Rattle.std.proofs.lemmas.List.Sums.{sum_by-cons, sum_by-take-le, sum_by-take-drop}
use Rattle.php_graph.specs.declared.key.Key.{Key}
use Rattle.php_graph.specs.declared.key.Key.TheVariants as keys
use Rattle.php_graph.specs.declared.child.Child.{Child}
use Rattle.php_graph.specs.declared.child.Child.TheVariants.{Own, Back}
use Rattle.php_graph.specs.declared.kind.Kind.{Kind}
use Rattle.php_graph.specs.declared.kind.Kind.TheVariants as kinds
use Rattle.php_graph.specs.ByteStrings.{AreBytes}
use Rattle.php_graph.specs.Graph.{kind_at, children_of, passes, is_object, is_object_at, is_array_key, are_distinct, is_class, is_well_formed, FitsKey, FitsKind, is_back, most_values, ends_after, child_end, end_of, levels, IsGraph, lowered_number, lowered_child, lowered_members, lowered_kind, lowered_places, part_of}
use Rattle.php_graph.specs.MemberCounts.{children_in}
use Rattle.php_graph.specs.PlaceOffsets.{PlaceList, kinds_of}
use Rattle.php_graph.proofs.EndLemmas.{chosen, then_some, EndsAt, own_end, own_makes, back_end, back_makes, grows, own_grows, ends_rise}
use Rattle.php_graph.proofs.DraftLemmas.{place_is}
use Rattle.php_graph.proofs.DraftAfterItem.{backs}
use Rattle.php_graph.proofs.PartEnds.{place_ends}

map_some : {A B : Type 0} (f : A → B) (o : Option A) (y : B) → option_map f o ≡ Some y → (x : A) × (o ≡ Some x) × (f x ≡ y)
map_some f None y e = absurd cc
map_some f (Some x) y e = (x, refl, cc)

number_is : (by x y : ℕ) → lowered_number by x ≡ Some y → (by < x) × (y ≡ x - by)
number_is by x y e =
    let c = chosen (nat_lt by x) (Some (x - by)) y e in
    let same : x - by ≡ y = cc in
    (grind (arith, nat_tests, c.0), sym same)

-- ---- children

abbrev pub Lowers : ℕ → List Child → List Child → Type 0
Lowers by [] [] = Unit {0}
Lowers by [] (d ∷ ds) = ⊥
Lowers by (c ∷ cs) [] = ⊥
Lowers by (c ∷ cs) (d ∷ ds) = (lowered_child by c ≡ Some d) × Lowers by cs ds

members_lower : {A : Type 0} (by : ℕ) (ms ns : List (A × Child)) → lowered_members by ms ≡ Some ns → Lowers by (map (λ m. m.1) ms) (map (λ m. m.1) ns) × (map (λ m. m.0) ms ≡ map (λ m. m.0) ns)
members_lower by [] [] e = (tt, refl)
members_lower by [] (n ∷ ns) e = absurd cc
members_lower by (m ∷ ms) [] e =
    let t = then_some (λ c. option_map (λ others. (m.0, c) ∷ others) (lowered_members by ms)) (lowered_child by m.1) [] e in
    let u = map_some (λ others. (m.0, t.0) ∷ others) (lowered_members by ms) [] t.2 in absurd cc
members_lower by (m ∷ ms) (n ∷ ns) e =
    let t = then_some (λ c. option_map (λ others. (m.0, c) ∷ others) (lowered_members by ms)) (lowered_child by m.1) (n ∷ ns) e in
    let u = map_some (λ others. (m.0, t.0) ∷ others) (lowered_members by ms) (n ∷ ns) t.2 in
    let first : (m.0, t.0) ≡ n = cc in
    let rest : u.0 ≡ ns = cc in
    let more = members_lower by ms ns (u.1 ∙ ap Some rest) in
    ((t.1 ∙ ap Some (ap (λ p. p.1) first), more.0), λ i. ap (λ p. p.0) first i ∷ more.1 i)

-- what a lowered place keeps
pub record Keeps (by : ℕ) (kind low : Kind) : Type 0 where
  pub children : Lowers by (children_of kind) (children_of low)
  pub formed : is_well_formed low ≡ is_well_formed kind
  pub object : is_object low ≡ is_object kind
  pub same : (x : ℕ) → low ≡ kinds.Same x → (y : ℕ) × (kind ≡ kinds.Same y) × (by < y) × (x ≡ y - by)

all_keys : (ks : List Key) → Bool
all_keys ks = list_all is_array_key ks

list_all-firsts : (ms : List (Key × Child)) → list_all (λ m. is_array_key m.0) ms ≡ list_all is_array_key (map (λ m. m.0) ms)
list_all-firsts [] = refl
list_all-firsts (m ∷ ms) = ap (λ (b : Bool). is_array_key m.0 && b) (list_all-firsts ms)

names-firsts : (ps : List (List ℕ × Child)) → map (λ p. keys.Str p.0) ps ≡ map keys.Str (map (λ p. p.0) ps)
names-firsts [] = refl
names-firsts (p ∷ ps) = ap (λ (ks : List Key). keys.Str p.0 ∷ ks) (names-firsts ps)

pub keeps : (by : ℕ) (kind low : Kind) → lowered_kind by kind ≡ Some low → Keeps by kind low
keeps by (kinds.Array ms) low e =
    let u = map_some kinds.Array (lowered_members by ms) low e in
    let l = members_lower by ms u.0 u.1 in
    let formed : is_well_formed (kinds.Array u.0) ≡ is_well_formed (kinds.Array ms) =
    ap (λ (b : Bool). are_distinct (map (λ m. m.0) u.0) && b) (list_all-firsts u.0) ∙ ap (λ (ks : List Key). are_distinct ks && list_all is_array_key ks) (sym l.1) ∙ ap (λ (b : Bool). are_distinct (map (λ m. m.0) ms) && b) (sym (list_all-firsts ms)) in
    subst (Keeps by (kinds.Array ms)) u.2 (record { children = l.0; formed = formed; object = refl; same = λ x f. absurd cc })
keeps by (kinds.Object class ps) low e =
    let u = map_some (kinds.Object class) (lowered_members by ps) low e in
    let l = members_lower by ps u.0 u.1 in
    let names : map (λ p. keys.Str p.0) u.0 ≡ map (λ p. keys.Str p.0) ps = names-firsts u.0 ∙ ap (map keys.Str) (sym l.1) ∙ sym (names-firsts ps) in
    subst (Keeps by (kinds.Object class ps)) u.2 (record { children = l.0; formed = ap (λ (ks : List Key). are_distinct ks && is_class class) names; object = refl; same = λ x f. absurd cc })
keeps by (kinds.Same y) low e =
    let u = map_some kinds.Same (lowered_number by y) low e in
    let n = number_is by y u.0 u.1 in
    subst (Keeps by (kinds.Same y)) u.2 (record { children = tt; formed = refl; object = refl; same = λ x f. (y, refl, n.0, let q : u.0 ≡ x = cc in sym q ∙ n.1) })
keeps by kinds.Null low e = let same : kinds.Null ≡ low = cc in subst (Keeps by kinds.Null) same (record { children = tt; formed = refl; object = refl; same = λ x f. absurd cc })
keeps by (kinds.Bool b) low e = let same : kinds.Bool b ≡ low = cc in subst (Keeps by (kinds.Bool b)) same (record { children = tt; formed = refl; object = refl; same = λ x f. absurd cc })
keeps by (kinds.Int n) low e = let same : kinds.Int n ≡ low = cc in subst (Keeps by (kinds.Int n)) same (record { children = tt; formed = refl; object = refl; same = λ x f. absurd cc })
keeps by (kinds.Str bytes) low e = let same : kinds.Str bytes ≡ low = cc in subst (Keeps by (kinds.Str bytes)) same (record { children = tt; formed = refl; object = refl; same = λ x f. absurd cc })

fits_first : (ms ns : List (Key × Child)) → map (λ m. m.0) ms ≡ map (λ m. m.0) ns → AllByRecursion (λ m. FitsKey m.0) ms → AllByRecursion (λ m. FitsKey m.0) ns
fits_first [] [] e fits = tt
fits_first [] (n ∷ ns) e fits = absurd cc
fits_first (m ∷ ms) [] e fits = absurd cc
fits_first (m ∷ ms) (n ∷ ns) e fits =
    let first : m.0 ≡ n.0 = cc in
    let rest : map (λ m. m.0) ms ≡ map (λ m. m.0) ns = cc in
    (subst FitsKey first fits.0, fits_first ms ns rest fits.1)

fits_names : (ms ns : List (List ℕ × Child)) → map (λ m. m.0) ms ≡ map (λ m. m.0) ns → AllByRecursion (λ m. AreBytes m.0) ms → AllByRecursion (λ m. AreBytes m.0) ns
fits_names [] [] e fits = tt
fits_names [] (n ∷ ns) e fits = absurd cc
fits_names (m ∷ ms) [] e fits = absurd cc
fits_names (m ∷ ms) (n ∷ ns) e fits =
    let first : m.0 ≡ n.0 = cc in
    let rest : map (λ m. m.0) ms ≡ map (λ m. m.0) ns = cc in
    (subst AreBytes first fits.0, fits_names ms ns rest fits.1)

pub fits_low : (by : ℕ) (kind low : Kind) → lowered_kind by kind ≡ Some low → FitsKind kind → FitsKind low
fits_low by (kinds.Array ms) low e fits = let u = map_some kinds.Array (lowered_members by ms) low e in subst FitsKind u.2 (fits_first ms u.0 (members_lower by ms u.0 u.1).1 fits)
fits_low by (kinds.Object class ps) low e fits = let u = map_some (kinds.Object class) (lowered_members by ps) low e in subst FitsKind u.2 (fits.0, fits_names ps u.0 (members_lower by ps u.0 u.1).1 fits.1)
fits_low by (kinds.Same y) low e fits = let u = map_some kinds.Same (lowered_number by y) low e in subst FitsKind u.2 tt
fits_low by kinds.Null low e fits = let same : kinds.Null ≡ low = cc in subst FitsKind same tt
fits_low by (kinds.Bool b) low e fits = let same : kinds.Bool b ≡ low = cc in subst FitsKind same tt
fits_low by (kinds.Int n) low e fits = let same : kinds.Int n ≡ low = cc in subst FitsKind same fits
fits_low by (kinds.Str bytes) low e fits = let same : kinds.Str bytes ≡ low = cc in subst FitsKind same fits

-- ---- places

pub record LowPlaces (by : ℕ) (xs ys : List Kind) : Type 0 where
  pub long : length ys ≡ length xs
  pub each : (i : ℕ) (a : Kind) → slice_get xs i ≡ Some a → (b : Kind) × (slice_get ys i ≡ Some b) × (lowered_kind by a ≡ Some b)
  pub formed : AllByRecursion (λ kind. IsTrue (is_well_formed kind)) xs → AllByRecursion (λ kind. IsTrue (is_well_formed kind)) ys
  pub fits : AllByRecursion FitsKind xs → AllByRecursion FitsKind ys
  pub backs_same : sum_by backs ys ≡ sum_by backs xs
  pub children_same : sum_by (λ k. length (children_of k)) ys ≡ sum_by (λ k. length (children_of k)) xs

back_low : (by : ℕ) (c d : Child) → lowered_child by c ≡ Some d → is_back d ≡ is_back c
back_low by (Own x) d e = let u = map_some Own (lowered_number by x) d e in ap is_back (sym u.2)
back_low by (Back x) d e = let u = map_some Back (lowered_number by x) d e in ap is_back (sym u.2)

backs_low : (by : ℕ) (cs ds : List Child) → Lowers by cs ds → (count_by is_back ds ≡ count_by is_back cs) × (length ds ≡ length cs)
backs_low by [] [] l = (refl, refl)
backs_low by [] (d ∷ ds) l = absurd l
backs_low by (c ∷ cs) [] l = absurd l
backs_low by (c ∷ cs) (d ∷ ds) l =
    let rest = backs_low by cs ds l.1 in
    let one : ◌≡◌ {A = ℕ} (cond (is_back d) 1 0) (cond (is_back c) 1 0) = ap (λ (b : Bool). cond b 1 0) (back_low by c d l.0) in
    (omega (arith, sum_by-cons (λ x. cond (is_back x) 1 0) d ds, sum_by-cons (λ x. cond (is_back x) 1 0) c cs, one, rest.0), ap suc rest.1)

low_each : (by : ℕ) (x y : Kind) (xs ys : List Kind) → lowered_kind by x ≡ Some y → ((i : ℕ) (a : Kind) → slice_get xs i ≡ Some a → (b : Kind) × (slice_get ys i ≡ Some b) × (lowered_kind by a ≡ Some b))
    → (i : ℕ) (a : Kind) → slice_get (x ∷ xs) i ≡ Some a → (b : Kind) × (slice_get (y ∷ ys) i ≡ Some b) × (lowered_kind by a ≡ Some b)
low_each by x y xs ys low each zero a e = let same : x ≡ a = cc in (y, refl, ap (lowered_kind by) (sym same) ∙ low)
low_each by x y xs ys low each (suc i) a e = each i a e

pub places_low : (by : ℕ) (xs ys : List Kind) → lowered_places by xs ≡ Some ys → LowPlaces by xs ys
places_low by [] [] e = record { long = refl; each = λ i a f. absurd cc; formed = λ a. tt; fits = λ a. tt; backs_same = refl; children_same = refl }
places_low by [] (y ∷ ys) e = absurd cc
places_low by (x ∷ xs) [] e =
    let t = then_some (λ k. option_map (λ others. k ∷ others) (lowered_places by xs)) (lowered_kind by x) [] e in
    let u = map_some (λ others. t.0 ∷ others) (lowered_places by xs) [] t.2 in absurd cc
places_low by (x ∷ xs) (y ∷ ys) e =
    let t = then_some (λ k. option_map (λ others. k ∷ others) (lowered_places by xs)) (lowered_kind by x) (y ∷ ys) e in
    let u = map_some (λ others. t.0 ∷ others) (lowered_places by xs) (y ∷ ys) t.2 in
    let first : t.0 ≡ y = cc in
    let rest : u.0 ≡ ys = cc in
    let low : lowered_kind by x ≡ Some y = t.1 ∙ ap Some first in
    let k = keeps by x y low in
    let more = places_low by xs ys (u.1 ∙ ap Some rest) in
    let counts = backs_low by (children_of x) (children_of y) k.children in
    record {
      long = ap suc more.long;
      each = low_each by x y xs ys low more.each;
      formed = λ all. (k.formed ∙ all.0, more.formed all.1);
      fits = λ all. (fits_low by x y low all.0, more.fits all.1);
      backs_same = omega (arith, sum_by-cons backs y ys, sum_by-cons backs x xs, counts.0, more.backs_same);
      children_same = omega (arith, sum_by-cons (λ k. length (children_of k)) y ys, sum_by-cons (λ k. length (children_of k)) x xs, counts.1, more.children_same);
    }

slice_get-take : {A : Type 0} (n : ℕ) (xs : List A) (i : ℕ) → i < n → slice_get (take n xs) i ≡ slice_get xs i
slice_get-take zero xs i lt = absurd (omega arith)
slice_get-take (suc n) [] i lt = refl
slice_get-take (suc n) (x ∷ xs) zero lt = refl
slice_get-take (suc n) (x ∷ xs) (suc i) lt = slice_get-take n xs i (omega arith)

slice_get-drop : {A : Type 0} (m : ℕ) (xs : List A) (i : ℕ) → slice_get (drop m xs) i ≡ slice_get xs (m + i)
slice_get-drop zero xs i = ap (slice_get xs) (sym (zero-add i))
slice_get-drop (suc m) [] i = refl
slice_get-drop (suc m) (x ∷ xs) i = let j : suc m + i ≡ suc (m + i) = omega arith in slice_get-drop m xs i ∙ ap (slice_get (x ∷ xs)) (sym j)

All-take : {A : Type 0} (P : A → Type 0) (n : ℕ) (xs : List A) → AllByRecursion P xs → AllByRecursion P (take n xs)
All-take P zero xs all = tt
All-take P (suc n) [] all = tt
All-take P (suc n) (x ∷ xs) all = (all.0, All-take P n xs all.1)

All-drop : {A : Type 0} (P : A → Type 0) (n : ℕ) (xs : List A) → AllByRecursion P xs → AllByRecursion P (drop n xs)
All-drop P zero xs all = all
All-drop P (suc n) [] all = tt
All-drop P (suc n) (x ∷ xs) all = All-drop P n xs all.1

-- h has the places of g from a up to b, lowered
pub record IsLowered (g h : List Kind) (by a b : ℕ) : Type 0 where
  pub at : (p : ℕ) → a ≤ p → p < b → (kind : Kind) × (low : Kind) × (kind_at g p ≡ Some kind) × (kind_at h (p - by) ≡ Some low) × (lowered_kind by kind ≡ Some low)

narrowed : (g h : List Kind) (by a b x y : ℕ) → IsLowered g h by a b → a ≤ x → y ≤ b → IsLowered g h by x y
narrowed g h by a b x y l low high = record { at = λ p s t. l.at p (omega arith) (omega arith) }

lowers_end : (d : ℕ) (g h : List Kind) (by : ℕ) → ((c c' : Child) (m e : ℕ) → child_end d g c m ≡ Some e → by < m → lowered_child by c ≡ Some c' → IsLowered g h by m e → child_end d h c' (m - by) ≡ Some (e - by))
    → (cs ds : List Child) (m e : ℕ) → ends_after (child_end d g) cs m ≡ Some e → by < m → Lowers by cs ds → IsLowered g h by m e → ends_after (child_end d h) ds (m - by) ≡ Some (e - by)
lowers_end d g h by one [] [] m e ends lt l low = let same : m ≡ e = cc in ap (λ (k : ℕ). Some (k - by)) same
lowers_end d g h by one [] (c' ∷ ds) m e ends lt l low = absurd l
lowers_end d g h by one (c ∷ cs) [] m e ends lt l low = absurd l
lowers_end d g h by one (c ∷ cs) (c' ∷ ds) m e ends lt l low =
    let t = then_some (ends_after (child_end d g) cs) (child_end d g c m) e ends in
    let up = grows d g c m t.0 t.1 in
    let rest = ends_rise d g cs t.0 e t.2 in
    rw (one c c' m t.0 t.1 lt l.0 (narrowed g h by m e m t.0 low (omega arith) rest))
    (lowers_end d g h by one cs ds t.0 e t.2 (omega arith) l.1 (narrowed g h by m e t.0 e low up (omega arith)))

pub shifted : (d : ℕ) (g h : List Kind) (by : ℕ) (c c' : Child) (m e : ℕ) → child_end d g c m ≡ Some e → by < m → lowered_child by c ≡ Some c' → IsLowered g h by m e → child_end d h c' (m - by) ≡ Some (e - by)
unfolding child_end
shifted zero g h by c c' m e ends lt low l = absurd cc
shifted (suc d) g h by (Own x) c' m e ends lt low l =
    let o = own_end d g x m e ends in
    let u = map_some Own (lowered_number by x) c' low in
    let n = number_is by x u.0 u.1 in
    let rise = ends_rise d g (children_of o.1.kind) (m + 1) e o.1.members in
    let at = l.at m (omega arith) (omega arith) in
    let is : Some o.1.kind ≡ Some at.0 = sym o.1.there ∙ at.2 in
    let same : o.1.kind ≡ at.0 = cc in
    let k = keeps by at.0 at.1 at.4 in
    let members : ends_after (child_end d g) (children_of at.0) (m + 1) ≡ Some e = subst (λ (q : Kind). ends_after (child_end d g) (children_of q) (m + 1) ≡ Some e) same o.1.members in
    let inside = lowers_end d g h by (shifted d g h by) (children_of at.0) (children_of at.1) (m + 1) e members (omega arith) k.children (narrowed g h by m e (m + 1) e l (omega arith) (omega arith)) in
    let next : (m + 1) - by ≡ (m - by) + 1 = omega arith in
    let made : EndsAt d h (m - by) (e - by) = record { kind = at.1; there = at.3; members = subst (λ (q : ℕ). ends_after (child_end d h) (children_of at.1) q ≡ Some (e - by)) next inside } in
    let place : u.0 ≡ m - by = n.1 ∙ ap (λ (q : ℕ). q - by) o.0 in
    let child : c' ≡ Own (m - by) = sym u.2 ∙ ap Own place in
    subst (λ (q : Child). child_end (suc d) h q (m - by) ≡ Some (e - by)) (sym child) (own_makes d h (m - by) (e - by) made)
shifted (suc d) g h by (Back x) c' m e ends lt low l =
    let b = back_end d g x m e ends in
    let u = map_some Back (lowered_number by x) c' low in
    let n = number_is by x u.0 u.1 in
    let made = back_makes d h u.0 (m - by) (omega (arith, n.0, n.1)) (omega (arith, n.0, n.1, b.1)) in
    subst (λ (q : Child). child_end (suc d) h q (m - by) ≡ Some (e - by)) u.2 (made ∙ ap (λ (q : ℕ). Some (q - by)) b.2)

-- the places of the value at place k
abbrev pub written : List Kind → ℕ → ℕ → List Kind
written g k e = take (e - k) (drop (k - 1) g)

pub lowered_is : (g h : List Kind) (k e : ℕ) → 1 ≤ k → e ≤ length g + 1 → lowered_places (k - 1) (written g k e) ≡ Some h → IsLowered g h (k - 1) k e
lowered_is g h k e low high made = record {
  at = λ p a b.
      let l = places_low (k - 1) (written g k e) h made in
      let i = p - k in
      let j : (k - 1) + i ≡ p - 1 = omega arith in
      let there : slice_get (written g k e) i ≡ slice_get g (p - 1) = slice_get-take (e - k) (drop (k - 1) g) i (omega arith) ∙ slice_get-drop (k - 1) g i ∙ ap (slice_get g) j in
      let kind : slice_get g (p - 1) ≡ Some (get_or g (p - 1) kinds.Null) = slice_get-get_or g (p - 1) kinds.Null (omega arith) in
      let one = l.each i (get_or g (p - 1) kinds.Null) (there ∙ kind) in
      let q : p ≡ suc (p - 1) = omega arith in
      let r : p - (k - 1) ≡ suc i = omega arith in
      (get_or g (p - 1) kinds.Null, one.0, ap (kind_at g) q ∙ kind, ap (kind_at h) r ∙ one.1, one.2);
}

pub record IsEnd (g : List Kind) (k e : ℕ) : Type 0 where
  pub after : k < e
  pub within : e ≤ length g + 1

pub end_is : (g : List Kind) (k e : ℕ) → IsGraph g → 1 ≤ k → k ≤ length g → end_of g k ≡ Some e → IsEnd g k e
unfolding end_of
end_is g k e graph low high ends =
    let p = place_ends g k graph low high in
    let both : Some p.end ≡ Some e = sym p.ends ∙ ends in
    let same : p.end ≡ e = cc in
    record { after = own_grows levels g k k e ends; within = omega (arith, p.within) }

-- the targets of a part
targets_low : (g h : List Kind) (k e : ℕ) → IsGraph g → 1 ≤ k → IsLowered g h (k - 1) k e → length h + k ≡ e → (p x : ℕ) → kind_at h p ≡ Some (kinds.Same x) → (x < p) × IsTrue (is_object_at h x)
targets_low g h k e graph low l len p x there =
    let place = place_is h p (kinds.Same x) there in
    let one = l.at (p + (k - 1)) (omega (arith, place.low)) (omega (arith, place.high)) in
    let back : (p + (k - 1)) - (k - 1) ≡ p = omega arith in
    let is_low : Some one.1 ≡ Some (kinds.Same x) = sym one.3 ∙ ap (kind_at h) back ∙ there in
    let low_is : one.1 ≡ kinds.Same x = cc in
    let was = (keeps (k - 1) one.0 one.1 one.4).same x low_is in
    let t = graph.targets (p + (k - 1)) was.0 (one.2 ∙ ap Some was.1) in
    let object = l.at was.0 (omega (arith, was.2)) (omega (arith, t.0, place.high)) in
    let same : is_object object.1 ≡ true = (keeps (k - 1) object.0 object.1 object.4).object ∙ sym (ap (passes is_object) object.2) ∙ t.1 in
    (omega (arith, t.0, was.2, was.3), ap (λ (q : ℕ). passes is_object (kind_at h q)) was.3 ∙ ap (passes is_object) object.3 ∙ same)

lowered_first : (k : ℕ) → 1 ≤ k → lowered_child (k - 1) (Own k) ≡ Some (Own 1)
lowered_first k low =
    let test : nat_lt (k - 1) k ≡ true = grind (arith, nat_tests) in
    let one : k - (k - 1) ≡ 1 = omega arith in
    rw (test, one) refl

pub part_graph : (g h : List Kind) (k : ℕ) → IsGraph g → children_in g ≤ most_values → 1 ≤ k → k ≤ length g → part_of g k ≡ Some h → IsGraph h × (children_in h ≤ most_values)
unfolding part_of end_of
part_graph g h k graph few low high part =
    let t = then_some (λ e. lowered_places (k - 1) (take (e - k) (drop (k - 1) g))) (end_of g k) h part in
    let e = t.0 in
    let b = end_is g k e graph low high t.1 in
    let l = lowered_is g h k e low b.within t.2 in
    let q = places_low (k - 1) (written g k e) h t.2 in
    let long : length h + k ≡ e = omega (arith, q.long, length-take (e - k) (drop (k - 1) g), length-drop (k - 1) g, b.after, b.within) in
    let first : lowered_child (k - 1) (Own k) ≡ Some (Own 1) = lowered_first k low in
    let ends = shifted levels g h (k - 1) (Own k) (Own 1) k e t.1 (omega arith) first l in
    let one : k - (k - 1) ≡ 1 = omega arith in
    let last : e - (k - 1) ≡ length h + 1 = omega (arith, long) in
    let sealed : child_end levels h (Own 1) 1 ≡ Some (length h + 1) = subst (λ (x : ℕ). child_end levels h (Own 1) x ≡ Some (length h + 1)) one (ends ∙ ap Some last) in (
      record {
        sealed = sealed;
        targets = targets_low g h k e graph low l long;
        well_formed = q.formed (All-take (λ kind. IsTrue (is_well_formed kind)) (e - k) (drop (k - 1) g) (All-drop (λ kind. IsTrue (is_well_formed kind)) (k - 1) g graph.well_formed));
        fits = q.fits (All-take FitsKind (e - k) (drop (k - 1) g) (All-drop FitsKind (k - 1) g graph.fits));
        count = omega (arith, graph.count, long, b.within, q.backs_same, sum_by-take-le backs (drop (k - 1) g) (e - k), sum_by-take-drop backs g (k - 1));
      },
      omega (arith, few, q.children_same, sum_by-take-le (λ x. length (children_of x)) (drop (k - 1) g) (e - k), sum_by-take-drop (λ x. length (children_of x)) g (k - 1)),
    )

pub part_from : (g : List Kind) (k e : ℕ) → end_of g k ≡ Some e → 1 ≤ k → k < e → part_of g k ≡ lowered_places (k - 1) (take ((e - 1) - (k - 1)) (drop (k - 1) g))
unfolding part_of
part_from g k e ends low after =
    let count : e - k ≡ (e - 1) - (k - 1) = omega arith in
    rw (ends, count) refl

pub part_ok : (g : List Kind) (k : ℕ) (r : Result (Option PlaceList) AllocError) → IsGraph g → children_in g ≤ most_values → 1 ≤ k → k ≤ length g → IfOk r (λ part. option_map kinds_of part ≡ part_of g k)
    → IfOk r (λ part. IfSome part (λ p. IsGraph (kinds_of p) × (children_in (kinds_of p) ≤ most_values)))
part_ok g k (Ok None) graph few low high part = tt
part_ok g k (Ok (Some p)) graph few low high part = part_graph g (kinds_of p) k graph few low high (sym part)
part_ok g k (Err e) graph few low high part = tt
