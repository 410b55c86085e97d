-- What lists of extents have.
use Rattle.std.proofs.Common.{◌≡◌, ℕ, ◌≤◌, Bool, true, eqb, ◌&&◌, List, refl, subst, arith}
use Rattle.std.proofs.lemmas.Bool.{and_parts, and_from, eqb-true, eq-eqb}
use Rattle.std.specs.List.{Contains, count_by}
use Rattle.seg_words.specs.declared.gaps.Extent.{Extent}
use Rattle.seg_words.specs.Members.{counted_some, counted_there}
use Rattle.entry_slots.specs.Lists.{HaveSame}

abbrev pub is_extent : Extent → Extent → Bool
is_extent e f = eqb f.place e.place && eqb f.size e.size

extent_is : (place size place' size' : ℕ) → place' ≡ place → size' ≡ size → ◌≡◌ {A = Extent} (record { place = place'; size = size' }) (record { place = place; size = size })
extent_is place size place' size' p q = cc (p, q)

pub is_extent-itself : (e : Extent) → is_extent e e ≡ true
is_extent-itself e = and_from (eqb e.place e.place) (eqb e.size e.size) (eq-eqb e.place e.place refl) (eq-eqb e.size e.size refl)

pub is_extent-same : (e f : Extent) → is_extent e f ≡ true → f ≡ e
is_extent-same e f h =
    let both = and_parts (eqb f.place e.place) (eqb f.size e.size) h in
    extent_is e.place e.size f.place f.size (eqb-true f.place e.place both.0) (eqb-true f.size e.size both.1)

-- what the one list has, the other has
pub same_there : (xs ys : List Extent) (e : Extent) → HaveSame xs ys → Contains ys e → Contains xs e
same_there xs ys e same c =
    let many : 1 ≤ count_by (is_extent e) xs = omega (arith, same.count (is_extent e), counted_some (is_extent e) ys e c (is_extent-itself e)) in
    let r = counted_there (is_extent e) xs many in
    subst (λ x. Contains xs x) (is_extent-same e r.0 r.2) r.1
