-- The same words are the image of one graph at most.
use Rattle.std.proofs.Common.{◌≡◌, ◌≢◌, ℕ, zero, suc, ◌+◌, ◌-◌, ◌*◌, ◌%◌, ◌<◌, ℤ, Bool, true, false, cond, eqb, List, [], ◌∷◌, ◌++◌, length, map, take, slice_index, sum_by, refl, sym, ap, ap₂, ◌∙◌, subst, arith, add-zero, FitsSigned}
use Rattle.std.specs.List.{flat_map, AllByRecursion}
use Rattle.std.specs.Int.{w64, cast_unsigned, cast_signed}
use Rattle.std.proofs.lemmas.Int.{to_z-of_z}
use Rattle.std.proofs.lemmas.List.{length-map, take-map}
use Rattle.std.proofs.lemmas.List.Sums.{sum_by-cons}
use Rattle.std.proofs.lemmas.Bool.Decides.{nat_tests}
use Rattle.php_graph.specs.declared.key.Key.{Key}
use Rattle.php_graph.specs.declared.key.Key.TheVariants as keys
use Rattle.php_graph.specs.declared.child.Child.{Child}
use Rattle.php_graph.specs.declared.child.Child.TheVariants.{Own, Back}
use Rattle.php_graph.specs.declared.kind.Kind.{Kind}
use Rattle.php_graph.specs.declared.kind.Kind.TheVariants as kinds
use Rattle.php_graph.specs.ByteStrings.{AreBytes}
use Rattle.php_graph.specs.Graph.{IsGraph, FitsKind, FitsKey}
use Rattle.php_graph.specs.Size.{cells_of, image_length, offset_of}
use Rattle.value_image.specs.PackedBytes.{words_of}
use Rattle.value_image.specs.Rows.{StandsAt, IsToldAt}
use Rattle.value_image.specs.Image.{string_words, key_words, child_word, member_words, property_words, kind_words, place_words, image_of, IsImageOf}
use Rattle.value_image.specs.Places.{IsPlaceOf}
use Rattle.value_image.specs.Reading.{itself, renumbered_member, renumbered_kind, IsStringAt, IsKeyAt}
use Rattle.value_image.proofs.Runs.{told-front, told-back}
use Rattle.value_image.proofs.NamedPlaces.{names_places}
use Rattle.value_image.proofs.Images.{image-stands}
use Rattle.value_image.proofs.ImageParts.{told-first, told-rest, text-bytes, key-int, key-string}
use Rattle.value_image.proofs.OffsetTables.{IsBack, kinds-back, offset_of-below, cells_of-one}
use Rattle.value_image.proofs.ImageWalk.{kind-words, kind-cells}

-- ---- one byte string, one key

same-string : (row w : List ℕ) (at : ℕ) (x y : List ℕ) → IsStringAt row w at x → IsStringAt row w at y → x ≡ y
same-string row w at x y hx hy =
    let tx = (told-first row w at (3 + 8 * length x) (words_of x) hx.told).2 in
    let ty = (told-first row w at (3 + 8 * length y) (words_of y) hy.told).2 in
    sym (text-bytes row w at (slice_index row at) x hx tx) ∙ text-bytes row w at (slice_index row at) y hy ty

same-int : (m n : ℤ) → FitsSigned w64 m → FitsSigned w64 n → cast_unsigned w64 m ≡ cast_unsigned w64 n → m ≡ n
same-int m n fm fn e = sym (to_z-of_z w64 m fm) ∙ (ap (cast_signed w64) e ∙ to_z-of_z w64 n fn)

same-key : (row w : List ℕ) (at : ℕ) (a b : Key) → IsKeyAt row w at a → IsKeyAt row w at b → a ≡ b
same-key row w at (keys.Int m) b ha hb =
    let tag = (told-first row w at 2 (cast_unsigned w64 m ∷ []) ha.told).2 in
    let word = (told-first row w (at + 1) (cast_unsigned w64 m) [] (told-rest row w at 2 (cast_unsigned w64 m ∷ []) ha.told)).2 in
    let other = key-int row w at b hb tag in
    ap keys.Int (same-int m other.0 ha.fits other.2 (sym word ∙ other.5)) ∙ sym other.1
same-key row w at (keys.Str x) b ha hb =
    let tag = (told-first row w at (3 + 8 * length x) (words_of x) ha.told).2 in
    let ne : slice_index row at ≢ 2 = λ e. absurd (omega (arith, tag, e)) in
    let other = key-string row w at b hb ne in
    ap keys.Str (same-string row w at x other.0 (record { told = ha.told; fits = ha.fits }) other.2) ∙ sym other.1

same-child : (a b : Child) → child_word itself a ≡ child_word itself b → a ≡ b
same-child (Own x) (Own y) e = ap Own (omega arith)
same-child (Own x) (Back y) e = absurd (omega arith)
same-child (Back x) (Own y) e = absurd (omega arith)
same-child (Back x) (Back y) e = ap Back (omega arith)

-- ---- members and properties

same-members : (row w : List ℕ) (ms ns : List (Key × Child)) (at : ℕ) → IsToldAt row w at (flat_map (member_words itself) ms) → IsToldAt row w at (flat_map (member_words itself) ns)
    → AllByRecursion (λ m. FitsKey m.0) ms → AllByRecursion (λ m. FitsKey m.0) ns → length ms ≡ length ns → ms ≡ ns
same-members row w [] [] at hm hn fm fn len = refl
same-members row w [] (n ∷ ns) at hm hn fm fn len = absurd (omega arith)
same-members row w (m ∷ ms) [] at hm hn fm fn len = absurd (omega arith)
same-members row w (m ∷ ms) (n ∷ ns) at hm hn fm fn len =
    let wm = told-first row w at (child_word itself m.1) (key_words m.0 ++ flat_map (member_words itself) ms) hm in
    let wn = told-first row w at (child_word itself n.1) (key_words n.0 ++ flat_map (member_words itself) ns) hn in
    let rm = told-rest row w at (child_word itself m.1) (key_words m.0 ++ flat_map (member_words itself) ms) hm in
    let rn = told-rest row w at (child_word itself n.1) (key_words n.0 ++ flat_map (member_words itself) ns) hn in
    let km : IsKeyAt row w (at + 1) m.0 = record { told = told-front row w (at + 1) (key_words m.0) (flat_map (member_words itself) ms) rm; fits = fm.0 } in
    let kn : IsKeyAt row w (at + 1) n.0 = record { told = told-front row w (at + 1) (key_words n.0) (flat_map (member_words itself) ns) rn; fits = fn.0 } in
    let key : m.0 ≡ n.0 = same-key row w (at + 1) m.0 n.0 km kn in
    let child : m.1 ≡ n.1 = same-child m.1 n.1 (sym wm.2 ∙ wn.2) in
    let bm = told-back row w (at + 1) (key_words m.0) (flat_map (member_words itself) ms) (at + 1 + length (key_words m.0)) rm refl in
    let bn = told-back row w (at + 1) (key_words n.0) (flat_map (member_words itself) ns) (at + 1 + length (key_words m.0)) rn (ap (λ (k : Key). at + 1 + length (key_words k)) key) in
    ap₂ (λ x xs. x ∷ xs) (ap₂ (λ (k : Key) (c : Child). (k, c)) key child)
    (same-members row w ms ns (at + 1 + length (key_words m.0)) bm bn fm.1 fn.1 (omega arith))

same-properties : (row w : List ℕ) (ps qs : List (List ℕ × Child)) (at : ℕ) → IsToldAt row w at (flat_map (property_words itself) ps) → IsToldAt row w at (flat_map (property_words itself) qs)
    → AllByRecursion (λ p. AreBytes p.0) ps → AllByRecursion (λ p. AreBytes p.0) qs → length ps ≡ length qs → ps ≡ qs
same-properties row w [] [] at hp hq fp fq len = refl
same-properties row w [] (q ∷ qs) at hp hq fp fq len = absurd (omega arith)
same-properties row w (p ∷ ps) [] at hp hq fp fq len = absurd (omega arith)
same-properties row w (p ∷ ps) (q ∷ qs) at hp hq fp fq len =
    let wp = told-first row w at (child_word itself p.1) (string_words p.0 ++ flat_map (property_words itself) ps) hp in
    let wq = told-first row w at (child_word itself q.1) (string_words q.0 ++ flat_map (property_words itself) qs) hq in
    let rp = told-rest row w at (child_word itself p.1) (string_words p.0 ++ flat_map (property_words itself) ps) hp in
    let rq = told-rest row w at (child_word itself q.1) (string_words q.0 ++ flat_map (property_words itself) qs) hq in
    let np : IsStringAt row w (at + 1) p.0 = record { told = told-front row w (at + 1) (string_words p.0) (flat_map (property_words itself) ps) rp; fits = fp.0 } in
    let nq : IsStringAt row w (at + 1) q.0 = record { told = told-front row w (at + 1) (string_words q.0) (flat_map (property_words itself) qs) rq; fits = fq.0 } in
    let name : p.0 ≡ q.0 = same-string row w (at + 1) p.0 q.0 np nq in
    let child : p.1 ≡ q.1 = same-child p.1 q.1 (sym wp.2 ∙ wq.2) in
    let bp = told-back row w (at + 1) (string_words p.0) (flat_map (property_words itself) ps) (at + 1 + length (string_words p.0)) rp refl in
    let bq = told-back row w (at + 1) (string_words q.0) (flat_map (property_words itself) qs) (at + 1 + length (string_words p.0)) rq (ap (λ (k : List ℕ). at + 1 + length (string_words k)) name) in
    ap₂ (λ x xs. x ∷ xs) (ap₂ (λ (k : List ℕ) (c : Child). (k, c)) name child)
    (same-properties row w ps qs (at + 1 + length (string_words p.0)) bp bq fp.1 fq.1 (omega arith))

-- ---- places

-- a place stands in the row
record IsHere (row w : List ℕ) (at : ℕ) (kind : Kind) : Type 0 where
  told : IsToldAt row w at (kind_words itself kind)
  fits : FitsKind kind

abbrev code_of : Kind → ℕ
code_of kinds.Null = 0
code_of (kinds.Bool b) = 1
code_of (kinds.Int n) = 2
code_of (kinds.Str bytes) = 3
code_of (kinds.Array ms) = 4
code_of (kinds.Object class ps) = 5
code_of (kinds.Same x) = 6

code_is : (row w : List ℕ) (at : ℕ) (kind : Kind) → IsHere row w at kind → slice_index row at % 8 ≡ code_of kind
code_is row w at kinds.Null h = omega (arith, (told-first row w at 0 [] h.told).2)
code_is row w at (kinds.Bool true) h = omega (arith, (told-first row w at 9 [] h.told).2)
code_is row w at (kinds.Bool false) h = omega (arith, (told-first row w at 1 [] h.told).2)
code_is row w at (kinds.Int n) h = omega (arith, (told-first row w at 2 (cast_unsigned w64 n ∷ []) h.told).2)
code_is row w at (kinds.Str bytes) h = omega (arith, (told-first row w at (3 + 8 * length bytes) (words_of bytes) h.told).2)
code_is row w at (kinds.Array ms) h = omega (arith, (told-first row w at (4 + 8 * length ms) (flat_map (member_words itself) ms) h.told).2)
code_is row w at (kinds.Object class ps) h = omega (arith, (told-first row w at (5 + 8 * length ps) (string_words class ++ flat_map (property_words itself) ps) h.told).2)
code_is row w at (kinds.Same x) h = omega (arith, (told-first row w at 6 (x ∷ []) h.told).2)

same-codes : (row w : List ℕ) (at : ℕ) (a b : Kind) → IsHere row w at a → IsHere row w at b → code_of a ≡ code_of b
same-codes row w at a b ha hb = sym (code_is row w at a ha) ∙ code_is row w at b hb

same-kind : (row w : List ℕ) (at : ℕ) (a b : Kind) → IsHere row w at a → IsHere row w at b → a ≡ b
same-kind row w at kinds.Null kinds.Null ha hb = refl
same-kind row w at (kinds.Bool true) (kinds.Bool true) ha hb = refl
same-kind row w at (kinds.Bool false) (kinds.Bool false) ha hb = refl
same-kind row w at (kinds.Bool true) (kinds.Bool false) ha hb =
    absurd (omega (arith, (told-first row w at 9 [] ha.told).2, (told-first row w at 1 [] hb.told).2))
same-kind row w at (kinds.Bool false) (kinds.Bool true) ha hb =
    absurd (omega (arith, (told-first row w at 1 [] ha.told).2, (told-first row w at 9 [] hb.told).2))
same-kind row w at (kinds.Int m) (kinds.Int n) ha hb =
    let wm = (told-first row w (at + 1) (cast_unsigned w64 m) [] (told-rest row w at 2 (cast_unsigned w64 m ∷ []) ha.told)).2 in
    let wn = (told-first row w (at + 1) (cast_unsigned w64 n) [] (told-rest row w at 2 (cast_unsigned w64 n ∷ []) hb.told)).2 in
    ap kinds.Int (same-int m n ha.fits hb.fits (sym wm ∙ wn))
same-kind row w at (kinds.Str x) (kinds.Str y) ha hb =
    ap kinds.Str (same-string row w at x y (record { told = ha.told; fits = ha.fits }) (record { told = hb.told; fits = hb.fits }))
same-kind row w at (kinds.Array ms) (kinds.Array ns) ha hb =
    let tm = (told-first row w at (4 + 8 * length ms) (flat_map (member_words itself) ms) ha.told).2 in
    let tn = (told-first row w at (4 + 8 * length ns) (flat_map (member_words itself) ns) hb.told).2 in
    ap (λ xs. kinds.Array xs) (same-members row w ms ns (at + 1) (told-rest row w at (4 + 8 * length ms) (flat_map (member_words itself) ms) ha.told)
    (told-rest row w at (4 + 8 * length ns) (flat_map (member_words itself) ns) hb.told) ha.fits hb.fits (omega (arith, tm, tn)))
same-kind row w at (kinds.Object x ps) (kinds.Object y qs) ha hb =
    let tp = (told-first row w at (5 + 8 * length ps) (string_words x ++ flat_map (property_words itself) ps) ha.told).2 in
    let tq = (told-first row w at (5 + 8 * length qs) (string_words y ++ flat_map (property_words itself) qs) hb.told).2 in
    let rp = told-rest row w at (5 + 8 * length ps) (string_words x ++ flat_map (property_words itself) ps) ha.told in
    let rq = told-rest row w at (5 + 8 * length qs) (string_words y ++ flat_map (property_words itself) qs) hb.told in
    let cx : IsStringAt row w (at + 1) x = record { told = told-front row w (at + 1) (string_words x) (flat_map (property_words itself) ps) rp; fits = ha.fits.0 } in
    let cy : IsStringAt row w (at + 1) y = record { told = told-front row w (at + 1) (string_words y) (flat_map (property_words itself) qs) rq; fits = hb.fits.0 } in
    let class : x ≡ y = same-string row w (at + 1) x y cx cy in
    let bp = told-back row w (at + 1) (string_words x) (flat_map (property_words itself) ps) (at + 1 + length (string_words x)) rp refl in
    let bq = told-back row w (at + 1) (string_words y) (flat_map (property_words itself) qs) (at + 1 + length (string_words x)) rq (ap (λ (k : List ℕ). at + 1 + length (string_words k)) class) in
    ap₂ (λ k xs. kinds.Object k xs) class (same-properties row w ps qs (at + 1 + length (string_words x)) bp bq ha.fits.1 hb.fits.1 (omega (arith, tp, tq)))
same-kind row w at (kinds.Same x) (kinds.Same y) ha hb =
    let wx = (told-first row w (at + 1) x [] (told-rest row w at 6 (x ∷ []) ha.told)).2 in
    let wy = (told-first row w (at + 1) y [] (told-rest row w at 6 (y ∷ []) hb.told)).2 in
    ap kinds.Same (sym wx ∙ wy)
same-kind row w at a b ha hb = absurd (omega (arith, same-codes row w at a b ha hb))

pub same-kinds : (row w : List ℕ) (xs ys : List Kind) (at : ℕ) → IsToldAt row w at (flat_map (kind_words itself) xs) → IsToldAt row w at (flat_map (kind_words itself) ys)
    → AllByRecursion FitsKind xs → AllByRecursion FitsKind ys → sum_by cells_of xs ≡ sum_by cells_of ys → xs ≡ ys
same-kinds row w [] [] at hx hy fx fy e = refl
same-kinds row w [] (y ∷ ys) at hx hy fx fy e = absurd (omega (arith, sum_by-cons cells_of y ys, cells_of-one y))
same-kinds row w (x ∷ xs) [] at hx hy fx fy e = absurd (omega (arith, sum_by-cons cells_of x xs, cells_of-one x))
same-kinds row w (x ∷ xs) (y ∷ ys) at hx hy fx fy e =
    let kx : IsHere row w at x = record { told = told-front row w at (kind_words itself x) (flat_map (kind_words itself) xs) hx; fits = fx.0 } in
    let ky : IsHere row w at y = record { told = told-front row w at (kind_words itself y) (flat_map (kind_words itself) ys) hy; fits = fy.0 } in
    let kind : x ≡ y = same-kind row w at x y kx ky in
    let cells : cells_of x ≡ cells_of y = ap cells_of kind in
    let bx = told-back row w at (kind_words itself x) (flat_map (kind_words itself) xs) (at + length (kind_words itself x)) hx refl in
    let by_ = told-back row w at (kind_words itself y) (flat_map (kind_words itself) ys) (at + length (kind_words itself x)) hy (ap (λ (k : Kind). at + length (kind_words itself k)) kind) in
    ap₂ (λ z zs. z ∷ zs) kind (same-kinds row w xs ys (at + length (kind_words itself x)) bx by_ fx.1 fy.1
    (omega (arith, e, cells, sum_by-cons cells_of x xs, sum_by-cons cells_of y ys)))

-- ---- graphs

-- the graph with offsets in place of numbers
abbrev placed : List Kind → List Kind
placed g = map (renumbered_kind (offset_of g)) g

placed-words : (f : ℕ → ℕ) (xs : List Kind) → flat_map (kind_words itself) (map (renumbered_kind f) xs) ≡ flat_map (kind_words f) xs
placed-words f [] = refl
placed-words f (x ∷ xs) = ap₂ (λ (a b : List ℕ). a ++ b) (kind-words f x) (placed-words f xs)

placed-cells : (f : ℕ → ℕ) (xs : List Kind) → sum_by cells_of (map (renumbered_kind f) xs) ≡ sum_by cells_of xs
placed-cells f [] = refl
placed-cells f (x ∷ xs) =
    omega (arith, kind-cells f x, placed-cells f xs, sum_by-cons cells_of x xs, sum_by-cons cells_of (renumbered_kind f x) (map (renumbered_kind f) xs))

-- the number of the place at an offset
abbrev number_in : List Kind → ℕ → ℕ → ℕ
number_in [] k o = 0
number_in (kind ∷ ks) k o = cond (eqb o 0) k (number_in ks (k + 1) (o - cells_of kind))

number_in-at : (xs : List Kind) (m i : ℕ) → i < length xs → number_in xs m (image_length (take i xs)) ≡ m + i
number_in-at [] m i lt = absurd (omega arith)
number_in-at (x ∷ xs) m zero lt = sym (add-zero m)
number_in-at (x ∷ xs) m (suc i) lt =
    let total = sum_by-cons cells_of x (take i xs) in
    let one = cells_of-one x in
    let some : eqb (image_length (take (suc i) (x ∷ xs))) 0 ≡ false = grind (arith, nat_tests) in
    let less : image_length (take (suc i) (x ∷ xs)) - cells_of x ≡ image_length (take i xs) = omega (arith, total) in
    ap (λ (b : Bool). cond b m (number_in xs (m + 1) (image_length (take (suc i) (x ∷ xs)) - cells_of x))) some
    ∙ (ap (number_in xs (m + 1)) less ∙ (number_in-at xs (m + 1) i (omega arith) ∙ omega arith))

number_in-offset : (g : List Kind) (k : ℕ) → IsPlaceOf (length g) k → number_in g 1 (offset_of g k) ≡ k
number_in-offset g k place = number_in-at g 1 (k - 1) (omega (arith, place.0, place.1)) ∙ omega (arith, place.0)

-- two graphs whose places have the same offsets have the same numbers there
same-offsets : (g h : List Kind) → placed g ≡ placed h → (k : ℕ) → offset_of g k ≡ offset_of h k
same-offsets g h e k =
    sym (placed-cells (offset_of g) (take (k - 1) g))
    ∙ (ap (sum_by cells_of) (sym (take-map (renumbered_kind (offset_of g)) (k - 1) g))
    ∙ (ap (λ (xs : List Kind). sum_by cells_of (take (k - 1) xs)) e
    ∙ (ap (sum_by cells_of) (take-map (renumbered_kind (offset_of h)) (k - 1) h) ∙ placed-cells (offset_of h) (take (k - 1) h))))

same-graphs : (g h : List Kind) → IsGraph g → IsGraph h → placed g ≡ placed h → g ≡ h
same-graphs g h gg gh e =
    let len : length g ≡ length h = sym (length-map g (renumbered_kind (offset_of g))) ∙ (ap (length {A = Kind}) e ∙ length-map h (renumbered_kind (offset_of h))) in
    let back_g : IsBack (length g) (image_length g) (number_in g 1) (offset_of g) = record {
      below = λ x place. offset_of-below g x place;
      back = λ x place. number_in-offset g x place;
    } in
    let back_h : IsBack (length h) (image_length h) (number_in g 1) (offset_of h) = record {
      below = λ x place. offset_of-below h x place;
      back = λ x place. ap (number_in g 1) (sym (same-offsets g h e x)) ∙ number_in-offset g x (place.0, omega (arith, place.1, len));
    } in
    sym (kinds-back (length g) (image_length g) (number_in g 1) (offset_of g) back_g g (λ j k get. names_places g gg (suc j) k get))
    ∙ (ap (map (renumbered_kind (number_in g 1))) e
    ∙ kinds-back (length h) (image_length h) (number_in g 1) (offset_of h) back_h h (λ j k get. names_places h gh (suc j) k get))

members-fit : (f : ℕ → ℕ) (ms : List (Key × Child)) → AllByRecursion (λ m. FitsKey m.0) ms → AllByRecursion (λ m. FitsKey m.0) (map (renumbered_member f) ms)
members-fit f [] h = tt
members-fit f (m ∷ ms) h = (h.0, members-fit f ms h.1)

properties-fit : (f : ℕ → ℕ) (ps : List (List ℕ × Child)) → AllByRecursion (λ p. AreBytes p.0) ps → AllByRecursion (λ p. AreBytes p.0) (map (renumbered_member f) ps)
properties-fit f [] h = tt
properties-fit f (p ∷ ps) h = (h.0, properties-fit f ps h.1)

kind-fit : (f : ℕ → ℕ) (kind : Kind) → FitsKind kind → FitsKind (renumbered_kind f kind)
kind-fit f kinds.Null h = tt
kind-fit f (kinds.Bool b) h = tt
kind-fit f (kinds.Int n) h = h
kind-fit f (kinds.Str bytes) h = h
kind-fit f (kinds.Array ms) h = members-fit f ms h
kind-fit f (kinds.Object class ps) h = (h.0, properties-fit f ps h.1)
kind-fit f (kinds.Same x) h = tt

all-fit : (f : ℕ → ℕ) (xs : List Kind) → AllByRecursion FitsKind xs → AllByRecursion FitsKind (map (renumbered_kind f) xs)
all-fit f [] h = tt
all-fit f (x ∷ xs) h = (kind-fit f x h.0, all-fit f xs h.1)

-- if no window names a block, every word is told
all-told : (row : List ℕ) (at : ℕ) (run : List ℕ) → StandsAt row at run → IsToldAt row [] at run
all-told row at run h = record { stands = h; told = λ i low high. refl }

placed-told : (row : List ℕ) (at len : ℕ) (g : List Kind) → IsImageOf row at len g → IsToldAt row [] at (flat_map (kind_words itself) (placed g))
unfolding image_of
placed-told row at len g h =
    subst (IsToldAt row [] at) (sym (placed-words (offset_of g) g)) (all-told row at (flat_map (place_words g) g) (image-stands row at len g h))

pub one_graph : (row : List ℕ) (at len : ℕ) (g h : List Kind) → IsImageOf row at len g → IsImageOf row at len h → g ≡ h
one_graph row at len g h ig ih =
    let cells : sum_by cells_of (placed g) ≡ sum_by cells_of (placed h) =
    placed-cells (offset_of g) g ∙ (sym ig.length_is ∙ (ih.length_is ∙ sym (placed-cells (offset_of h) h))) in
    same-graphs g h ig.graph ih.graph
    (same-kinds row [] (placed g) (placed h) at (placed-told row at len g ig) (placed-told row at len h ih) (all-fit (offset_of g) g ig.graph.fits) (all-fit (offset_of h) h ih.graph.fits) cells)
