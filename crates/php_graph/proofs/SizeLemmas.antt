-- The offsets of places.
use Rattle.std.proofs.Common.{◌≡◌, ℕ, zero, suc, ◌+◌, ◌*◌, ◌^◌, ◌<◌, ◌≤◌, List, [], ◌∷◌, length, get_or, take, sum_by, refl, arith, sym, ◌∙◌, add-zero}
use Rattle.std.proofs.lemmas.List.Sums.{sum_by-cons}
use Rattle.php_graph.specs.declared.kind.Kind.{Kind}
use Rattle.std.specs.List.{AllByRecursion}
use Rattle.std.proofs.lemmas.List.{length-map}
use Rattle.php_graph.specs.declared.key.Key.{Key}
use Rattle.php_graph.specs.declared.key.Key.TheVariants as keys
use Rattle.php_graph.specs.declared.child.Child.{Child}
use Rattle.php_graph.specs.declared.kind.Kind.TheVariants as kinds
use Rattle.php_graph.specs.ByteStrings.{AreBytes}
use Rattle.php_graph.specs.Graph.{children_of, FitsKey, FitsKind, IsGraph, most_values}
use Rattle.php_graph.specs.MemberCounts.{children_in}
use Rattle.seg_words.specs.Layout.{words_in}
use Rattle.php_graph.specs.Size.{cells_of, key_cells, image_length}
use Rattle.php_graph.specs.PlaceOffsets.{offsets_from}

pub length-offsets_from : (n : ℕ) (ks : List Kind) → length (offsets_from n ks) ≡ length ks
length-offsets_from n [] = refl
length-offsets_from n (k ∷ ks) = omega (arith, length-offsets_from (n + cells_of k) ks)

pub get_or-offsets_from : (n : ℕ) (ks : List Kind) (i d : ℕ) → i < length ks → get_or (offsets_from n ks) i d ≡ n + image_length (take i ks)
get_or-offsets_from n [] i d h = absurd (omega arith)
get_or-offsets_from n (k ∷ ks) zero d h = sym (add-zero n)
get_or-offsets_from n (k ∷ ks) (suc i) d h =
    let later = get_or-offsets_from (n + cells_of k) ks i d (omega arith) in
    later ∙ omega (arith, sum_by-cons cells_of k (take i ks))

-- ---- no image is too long

key_few : (key : Key) → FitsKey key → key_cells key ≤ 2 ^ 30
key_few (keys.Int n) fits = omega arith
key_few (keys.Str bytes) fits = omega (arith, fits.0)

members_few : (ms : List (Key × Child)) → AllByRecursion (λ m. FitsKey m.0) ms → sum_by (λ m. 1 + key_cells m.0) ms ≤ length ms * 2 ^ 31
members_few [] fits = omega arith
members_few (m ∷ ms) fits = omega (arith, sum_by-cons (λ m. 1 + key_cells m.0) m ms, key_few m.0 fits.0, members_few ms fits.1)

props_few : (ps : List (List ℕ × Child)) → AllByRecursion (λ p. AreBytes p.0) ps → sum_by (λ p. 2 + words_in (length p.0)) ps ≤ length ps * 2 ^ 31
props_few [] fits = omega arith
props_few (p ∷ ps) fits = omega (arith, sum_by-cons (λ p. 2 + words_in (length p.0)) p ps, fits.0.0, props_few ps fits.1)

cells_few : (kind : Kind) → FitsKind kind → cells_of kind ≤ (1 + length (children_of kind)) * 2 ^ 31
cells_few kinds.Null fits = omega arith
cells_few (kinds.Bool b) fits = omega arith
cells_few (kinds.Int n) fits = omega arith
cells_few (kinds.Str bytes) fits = omega (arith, fits.0)
cells_few (kinds.Array ms) fits = omega (arith, members_few ms fits, length-map ms (λ m. m.1))
cells_few (kinds.Object class ps) fits = omega (arith, fits.0.0, props_few ps fits.1, length-map ps (λ p. p.1))
cells_few (kinds.Same x) fits = omega arith

pub image_few : (g : List Kind) → AllByRecursion FitsKind g → image_length g ≤ (length g + children_in g) * 2 ^ 31
image_few [] fits = omega arith
image_few (k ∷ ks) fits = omega (arith, sum_by-cons cells_of k ks, sum_by-cons (λ k. length (children_of k)) k ks, cells_few k fits.0, image_few ks fits.1)

pub image_short : (g : List Kind) → IsGraph g → children_in g ≤ most_values → image_length g < 2 ^ 60
image_short g graph few = omega (arith, image_few g graph.fits, graph.count)
