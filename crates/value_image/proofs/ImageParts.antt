-- What stands in a row, part by part.
use Rattle.std.proofs.Common.{◌≡◌, ◌≢◌, ℕ, ◌+◌, ◌*◌, ◌/◌, ◌%◌, ◌<◌, ◌≤◌, ◌^◌, true, false, List, [], ◌∷◌, ◌++◌, length, take, drop, slice_index, slice_get, Some, None, sum_by, refl, sym, ap, ◌∙◌, subst, arith, FitsSigned, ℤ}
use Rattle.std.specs.List.{flat_map}
use Rattle.std.specs.Int.{w64, cast_unsigned}
use Rattle.std.proofs.lemmas.List.{take-append-drop}
use Rattle.std.proofs.lemmas.List.Sums.{sum_by-cons}
use Rattle.php_graph.specs.declared.key.Key.{Key}
use Rattle.php_graph.specs.declared.key.Key.TheVariants as keys
use Rattle.php_graph.specs.declared.child.Child.{Child}
use Rattle.php_graph.specs.declared.child.Child.TheVariants.{Own, Back}
use Rattle.php_graph.specs.declared.kind.Kind.{Kind}
use Rattle.php_graph.specs.declared.kind.Kind.TheVariants as kinds
use Rattle.seg_words.specs.Layout.{words_in}
use Rattle.php_graph.specs.Size.{key_cells, cells_of}
use Rattle.seg_words.specs.Windows.{Aside}
use Rattle.seg_words.specs.Blocks.{IsTold}
use Rattle.value_image.specs.PackedBytes.{bytes_of, words_of}
use Rattle.value_image.specs.Rows.{IsToldAt}
use Rattle.value_image.specs.Places.{number_of}
use Rattle.value_image.specs.Image.{string_words, key_words, child_word, member_words, property_words}
use Rattle.value_image.specs.Reading.{itself, IsStringAt, IsKeyAt, IsMemberAt, IsPropertyAt, AreMembersAt, ArePropertiesAt, IsObjectAt, IsKindAt, scalar_at, FitsMember, FitsProperty}
use Rattle.value_image.proofs.Runs.{stands-inside, stands-at, told-front, told-back}
use Rattle.value_image.proofs.PackedByteLemmas.{length-words_of, unpacked}
use Rattle.value_image.proofs.ItemRuns.{told-item, all-get, get-some, length-items}
use Rattle.value_image.proofs.Lengths.{length-string_words, length-member_words, length-property_words}

-- the first word of a run
pub told-first : (row windows : List ℕ) (at w : ℕ) (run : List ℕ) → IsToldAt row windows at (w ∷ run) → (at < length row) × IsTold windows at × (slice_index row at ≡ w)
told-first row windows at w run h =
    let inside = stands-inside row at (w ∷ run) h.stands (omega arith) in
    let same : at + 0 ≡ at = omega arith in (
      omega (arith, inside),
      h.told at (omega arith) (omega arith),
      subst (λ k. slice_index row k ≡ w) same (stands-at row at (w ∷ run) 0 h.stands (omega arith)),
    )

-- the rest behind it
pub told-rest : (row windows : List ℕ) (at w : ℕ) (run : List ℕ) → IsToldAt row windows at (w ∷ run) → IsToldAt row windows (at + 1) run
told-rest row windows at w run h = told-back row windows at (w ∷ []) run (at + 1) h (omega arith)

-- ---- byte strings

pub text-inside : (row windows : List ℕ) (at tag : ℕ) (bytes : List ℕ) → IsStringAt row windows at bytes → tag ≡ 3 + 8 * length bytes → at + 1 + words_in (tag / 8) ≤ length row
text-inside row windows at tag bytes h e =
    let n : tag / 8 ≡ length bytes = omega arith in
    let inside = stands-inside row at (string_words bytes) h.told.stands (omega arith) in
    rw n (omega (arith, inside, length-words_of bytes))

pub text-told : (row windows : List ℕ) (at tag : ℕ) (bytes : List ℕ) → IsStringAt row windows at bytes → tag ≡ 3 + 8 * length bytes
    → (i : ℕ) → at + 1 ≤ i → i < at + 1 + words_in (tag / 8) → IsTold windows i
text-told row windows at tag bytes h e i low high =
    let n : tag / 8 ≡ length bytes = omega arith in
    let high' : i < at + 1 + words_in (length bytes) = subst (λ k. i < at + 1 + words_in k) n high in
    h.told.told i (omega arith) (omega (arith, length-words_of bytes))

pub text-bytes : (row windows : List ℕ) (at tag : ℕ) (bytes : List ℕ) → IsStringAt row windows at bytes → tag ≡ 3 + 8 * length bytes
    → take (tag / 8) (bytes_of (drop (at + 1) row)) ≡ bytes
text-bytes row windows at tag bytes h e =
    let n : tag / 8 ≡ length bytes = omega arith in
    let run = told-rest row windows at (3 + 8 * length bytes) (words_of bytes) h.told in
    let cut : drop (at + 1) row ≡ words_of bytes ++ drop (length (words_of bytes)) (drop (at + 1) row) =
    sym (take-append-drop (length (words_of bytes)) (drop (at + 1) row)) ∙ ap (λ (r : List ℕ). r ++ drop (length (words_of bytes)) (drop (at + 1) row)) run.stands in
    ap (λ (k : ℕ). take k (bytes_of (drop (at + 1) row))) n
    ∙ (ap (λ (r : List ℕ). take (length bytes) (bytes_of r)) cut
    ∙ unpacked bytes (drop (length (words_of bytes)) (drop (at + 1) row)) h.fits.1)

pub text-end : (at tag : ℕ) (bytes : List ℕ) → tag ≡ 3 + 8 * length bytes → at + 1 + (tag / 8 + 7) / 8 ≡ at + (1 + words_in (length bytes))
text-end at tag bytes e =
    let n : tag / 8 ≡ length bytes = omega arith in
    rw n (omega arith)

-- ---- keys

pub key-first : (row windows : List ℕ) (at : ℕ) (key : Key) → IsKeyAt row windows at key → (at < length row) × IsTold windows at
key-first row windows at (keys.Int n) h =
    let first = told-first row windows at _ _ h.told in
    (first.0, first.1)
key-first row windows at (keys.Str bytes) h =
    let first = told-first row windows at _ _ h.told in
    (first.0, first.1)

-- a key with the tag of an integer
pub key-int : (row windows : List ℕ) (at : ℕ) (key : Key) → IsKeyAt row windows at key → slice_index row at ≡ 2
    → (n : ℤ) × (key ≡ keys.Int n) × FitsSigned w64 n × (at + 1 < length row) × IsTold windows (at + 1) × (slice_index row (at + 1) ≡ cast_unsigned w64 n)
key-int row windows at (keys.Int n) h tag =
    let second = told-first row windows (at + 1) (cast_unsigned w64 n) [] (told-rest row windows at 2 (cast_unsigned w64 n ∷ []) h.told) in
    (n, refl, h.fits, second.0, second.1, second.2)
key-int row windows at (keys.Str bytes) h tag =
    let first = told-first row windows at (3 + 8 * length bytes) (words_of bytes) h.told in
    absurd (omega (arith, first.2, tag))

-- a key with another tag
pub key-string : (row windows : List ℕ) (at : ℕ) (key : Key) → IsKeyAt row windows at key → slice_index row at ≢ 2
    → (bytes : List ℕ) × (key ≡ keys.Str bytes) × IsStringAt row windows at bytes × (slice_index row at ≡ 3 + 8 * length bytes)
key-string row windows at (keys.Int n) h tag =
    let first = told-first row windows at 2 (cast_unsigned w64 n ∷ []) h.told in
    absurd (tag first.2)
key-string row windows at (keys.Str bytes) h tag =
    let first = told-first row windows at (3 + 8 * length bytes) (words_of bytes) h.told in
    (bytes, refl, record { told = h.told; fits = h.fits }, first.2)

-- the same behind the read of the tag
pub int-key-at : (row : List ℕ) (old : Aside) (at tag : ℕ) (key : Key) (row' : List ℕ) (new : Aside)
    → IsKeyAt row old.windows at key → (IsTold old.windows at → tag ≡ slice_index row at) → tag ≡ 2 → row' ≡ row → new ≡ old
    → (n : ℤ) × (key ≡ keys.Int n) × FitsSigned w64 n × (at + 1 < length row') × IsTold new.windows (at + 1) × (slice_index row' (at + 1) ≡ cast_unsigned w64 n)
int-key-at row old at tag key row' new h word code er ea = rw (er, ea) (key-int row old.windows at key h (sym (word (key-first row old.windows at key h).1) ∙ code))

pub string-key-at : (row : List ℕ) (old : Aside) (at tag : ℕ) (key : Key) (row' : List ℕ) (new : Aside)
    → IsKeyAt row old.windows at key → (IsTold old.windows at → tag ≡ slice_index row at) → tag ≢ 2 → row' ≡ row → new ≡ old
    → (bytes : List ℕ) × (key ≡ keys.Str bytes) × IsStringAt row' new.windows at bytes × (tag ≡ 3 + 8 * length bytes)
string-key-at row old at tag key row' new h word other er ea =
    let is = word (key-first row old.windows at key h).1 in
    let found = key-string row old.windows at key h (λ e. other (is ∙ e)) in
    (found.0, found.1, rw (er, ea) found.2, is ∙ found.3)

-- ---- members

-- a member's word is there and is told, and its key follows it
pub member-there : (row windows : List ℕ) (at : ℕ) (m : Key × Child) → IsMemberAt row windows at m → (at < length row) × IsTold windows at × (slice_index row at ≡ child_word itself m.1)
member-there row windows at m h = told-first row windows at (child_word itself m.1) (key_words m.0) h.told

pub member-key : (row : List ℕ) (old : Aside) (at : ℕ) (m : Key × Child) (row' : List ℕ) (new : Aside) → IsMemberAt row old.windows at m → row' ≡ row → new ≡ old → IsKeyAt row' new.windows (at + 1) m.0
member-key row old at m row' new h er ea = rw (er, ea) (record { told = told-rest row old.windows at (child_word itself m.1) (key_words m.0) h.told; fits = h.fits.0 })

-- so it is with a property and its name
pub property-there : (row windows : List ℕ) (at : ℕ) (p : List ℕ × Child) → IsPropertyAt row windows at p → (at < length row) × IsTold windows at × (slice_index row at ≡ child_word itself p.1)
property-there row windows at p h = told-first row windows at (child_word itself p.1) (string_words p.0) h.told

pub property-name : (row : List ℕ) (old : Aside) (at : ℕ) (p : List ℕ × Child) (row' : List ℕ) (new : Aside) → IsPropertyAt row old.windows at p → row' ≡ row → new ≡ old → IsStringAt row' new.windows (at + 1) p.0
property-name row old at p row' new h er ea = rw (er, ea) (record { told = told-rest row old.windows at (child_word itself p.1) (string_words p.0) h.told; fits = h.fits.0 })

-- a word of an offset of 32 bits has at most 33
pub child-short : (child : Child) (word : ℕ) → word ≡ child_word itself child → number_of child < 2 ^ 32 → word < 2 ^ 33
child-short (Own x) word e fits = omega arith
child-short (Back x) word e fits = omega arith

pub members-item : (row windows : List ℕ) (at count : ℕ) (ms : List (Key × Child)) (i : ℕ) (m : Key × Child) → AreMembersAt row windows at count ms → slice_get ms i ≡ Some m
    → IsMemberAt row windows (at + sum_by (λ m. 1 + key_cells m.0) (take i ms)) m
members-item row windows at count ms i m h get = record {
  told = told-item (member_words itself) (λ m. 1 + key_cells m.0) (length-member_words itself) row windows at ms i m h.told get;
  fits = all-get FitsMember ms i m h.fits get;
}

pub properties-item : (row windows : List ℕ) (at count : ℕ) (ps : List (List ℕ × Child)) (i : ℕ) (p : List ℕ × Child) → ArePropertiesAt row windows at count ps → slice_get ps i ≡ Some p
    → IsPropertyAt row windows (at + sum_by (λ p. 2 + words_in (length p.0)) (take i ps)) p
properties-item row windows at count ps i p h get = record {
  told = told-item (property_words itself) (λ p. 2 + words_in (length p.0)) (length-property_words itself) row windows at ps i p h.told get;
  fits = all-get FitsProperty ps i p h.fits get;
}

-- the member that comes next in a walk that has changed nothing
pub members-next : (row : List ℕ) (old : Aside) (at count : ℕ) (ms : List (Key × Child)) (i next : ℕ) (row' : List ℕ) (new : Aside)
    → AreMembersAt row old.windows at count ms → i < count → next ≡ at + sum_by (λ m. 1 + key_cells m.0) (take i ms) → row' ≡ row → new ≡ old
    → (m : Key × Child) × (slice_get ms i ≡ Some m) × IsMemberAt row' new.windows next m
members-next row old at count ms i next row' new h lt en er ea =
    let found = get-some ms i (omega (arith, h.count_is)) in
    (found.0, found.1, rw (er, ea, en) (members-item row old.windows at count ms i found.0 h found.1))

pub properties-next : (row : List ℕ) (old : Aside) (at count : ℕ) (ps : List (List ℕ × Child)) (i next : ℕ) (row' : List ℕ) (new : Aside)
    → ArePropertiesAt row old.windows at count ps → i < count → next ≡ at + sum_by (λ p. 2 + words_in (length p.0)) (take i ps) → row' ≡ row → new ≡ old
    → (p : List ℕ × Child) × (slice_get ps i ≡ Some p) × IsPropertyAt row' new.windows next p
properties-next row old at count ps i next row' new h lt en er ea =
    let found = get-some ps i (omega (arith, h.count_is)) in
    (found.0, found.1, rw (er, ea, en) (properties-item row old.windows at count ps i found.0 h found.1))

-- ---- objects

pub object-class : (row windows : List ℕ) (at count : ℕ) (class : List ℕ) (ps : List (List ℕ × Child)) → IsObjectAt row windows at count class ps → IsStringAt row windows at class
object-class row windows at count class ps h = record {
  told = told-front row windows at (string_words class) (flat_map (property_words itself) ps) h.told;
  fits = h.fits_class;
}

-- the properties behind the class, in a walk that has changed nothing
pub object-properties : (row : List ℕ) (old : Aside) (at count : ℕ) (class : List ℕ) (ps : List (List ℕ × Child)) (next : ℕ) (row' : List ℕ) (new : Aside)
    → IsObjectAt row old.windows at count class ps → next ≡ at + (1 + words_in (length class)) → row' ≡ row → new ≡ old
    → ArePropertiesAt row' new.windows next count ps
object-properties row old at count class ps next row' new h en er ea =
    let len = length-string_words class in
    rw (er, ea) (record {
      told = told-back row old.windows at (string_words class) (flat_map (property_words itself) ps) next h.told (omega arith);
      fits = h.fits;
      count_is = h.count_is;
    })

-- ---- places

length-le : {X : Type 0} (cells : X → ℕ) → ((x : X) → 1 ≤ cells x) → (xs : List X) → length xs ≤ sum_by cells xs
length-le cells one [] = omega arith
length-le cells one (x ∷ xs) = omega (arith, one x, length-le cells one xs, sum_by-cons cells x xs)

-- a row of few words holds few members
items-few : {X : Type 0} (f : X → List ℕ) (cells : X → ℕ) → ((x : X) → length (f x) ≡ cells x) → ((x : X) → 1 ≤ cells x)
    → (row windows : List ℕ) (at : ℕ) (xs : List X) → IsToldAt row windows at (flat_map f xs) → length row < 2 ^ 32 → length xs < 2 ^ 32
items-few f cells len one row windows at [] h short = omega arith
items-few f cells len one row windows at (x ∷ xs) h short =
    let long = length-items f cells len (x ∷ xs) in
    let few = length-le cells one (x ∷ xs) in
    let inside = stands-inside row at (flat_map f (x ∷ xs)) h.stands (omega arith) in
    omega arith

pub members-few : (row windows : List ℕ) (at count : ℕ) (ms : List (Key × Child)) → AreMembersAt row windows at count ms → length row < 2 ^ 32 → count < 2 ^ 32
members-few row windows at count ms h short =
    omega (arith, h.count_is, items-few (member_words itself) (λ m. 1 + key_cells m.0) (length-member_words itself) (λ m. omega arith) row windows at ms h.told short)

pub object-few : (row windows : List ℕ) (at count : ℕ) (class : List ℕ) (ps : List (List ℕ × Child)) → IsObjectAt row windows at count class ps → length row < 2 ^ 32 → count < 2 ^ 32
object-few row windows at count class ps h short =
    omega (arith, h.count_is, items-few (property_words itself) (λ p. 2 + words_in (length p.0)) (length-property_words itself) (λ p. omega arith) row windows (at + length (string_words class)) ps (told-back row windows at (string_words class) (flat_map (property_words itself) ps) (at + length (string_words class)) h.told refl) short)

-- the tag is there, and is told
pub kind-there : (row windows : List ℕ) (at : ℕ) (kind : Kind) → IsKindAt row windows at kind → (at < length row) × IsTold windows at
kind-there row windows at kinds.Null h = let first = told-first row windows at _ _ h.told in (first.0, first.1)
kind-there row windows at (kinds.Bool b) h = let first = told-first row windows at _ _ h.told in (first.0, first.1)
kind-there row windows at (kinds.Int n) h = let first = told-first row windows at _ _ h.told in (first.0, first.1)
kind-there row windows at (kinds.Str bytes) h = let first = told-first row windows at _ _ h.told in (first.0, first.1)
kind-there row windows at (kinds.Array ms) h = let first = told-first row windows at _ _ h.told in (first.0, first.1)
kind-there row windows at (kinds.Object class ps) h = let first = told-first row windows at _ _ h.told in (first.0, first.1)
kind-there row windows at (kinds.Same x) h = let first = told-first row windows at _ _ h.told in (first.0, first.1)

-- a place with the tag of a byte string
pub kind-string : (row windows : List ℕ) (at : ℕ) (kind : Kind) → IsKindAt row windows at kind → slice_index row at % 8 ≡ 3
    → (bytes : List ℕ) × (kind ≡ kinds.Str bytes) × IsStringAt row windows at bytes × (slice_index row at ≡ 3 + 8 * length bytes)
kind-string row windows at kinds.Null h code = let tag = (told-first row windows at _ _ h.told).2 in absurd (omega (arith, tag, code))
kind-string row windows at (kinds.Bool true) h code = let tag = (told-first row windows at 9 [] h.told).2 in absurd (omega (arith, tag, code))
kind-string row windows at (kinds.Bool false) h code = let tag = (told-first row windows at 1 [] h.told).2 in absurd (omega (arith, tag, code))
kind-string row windows at (kinds.Int n) h code = let tag = (told-first row windows at _ _ h.told).2 in absurd (omega (arith, tag, code))
kind-string row windows at (kinds.Str bytes) h code = (bytes, refl, record { told = h.told; fits = h.fits }, (told-first row windows at (3 + 8 * length bytes) (words_of bytes) h.told).2)
kind-string row windows at (kinds.Array ms) h code = let tag = (told-first row windows at (4 + 8 * length ms) (flat_map (member_words itself) ms) h.told).2 in absurd (omega (arith, tag, code))
kind-string row windows at (kinds.Object class ps) h code = let tag = (told-first row windows at (5 + 8 * length ps) (string_words class ++ flat_map (property_words itself) ps) h.told).2 in absurd (omega (arith, tag, code))
kind-string row windows at (kinds.Same x) h code = let tag = (told-first row windows at _ _ h.told).2 in absurd (omega (arith, tag, code))

-- a place with the tag of an array
pub kind-array : (row windows : List ℕ) (at : ℕ) (kind : Kind) → IsKindAt row windows at kind → slice_index row at % 8 ≡ 4
    → (ms : List (Key × Child)) × (kind ≡ kinds.Array ms) × AreMembersAt row windows (at + 1) (slice_index row at / 8) ms
kind-array row windows at kinds.Null h code = let tag = (told-first row windows at _ _ h.told).2 in absurd (omega (arith, tag, code))
kind-array row windows at (kinds.Bool true) h code = let tag = (told-first row windows at 9 [] h.told).2 in absurd (omega (arith, tag, code))
kind-array row windows at (kinds.Bool false) h code = let tag = (told-first row windows at 1 [] h.told).2 in absurd (omega (arith, tag, code))
kind-array row windows at (kinds.Int n) h code = let tag = (told-first row windows at _ _ h.told).2 in absurd (omega (arith, tag, code))
kind-array row windows at (kinds.Str bytes) h code = let tag = (told-first row windows at (3 + 8 * length bytes) (words_of bytes) h.told).2 in absurd (omega (arith, tag, code))
kind-array row windows at (kinds.Array ms) h code =
    let tag = (told-first row windows at (4 + 8 * length ms) (flat_map (member_words itself) ms) h.told).2 in (
      ms,
      refl,
      record {
        told = told-rest row windows at (4 + 8 * length ms) (flat_map (member_words itself) ms) h.told;
        fits = h.fits;
        count_is = omega (arith, tag);
      },
    )
kind-array row windows at (kinds.Object class ps) h code = let tag = (told-first row windows at (5 + 8 * length ps) (string_words class ++ flat_map (property_words itself) ps) h.told).2 in absurd (omega (arith, tag, code))
kind-array row windows at (kinds.Same x) h code = let tag = (told-first row windows at _ _ h.told).2 in absurd (omega (arith, tag, code))

-- a place with the tag of an object
pub kind-object : (row windows : List ℕ) (at : ℕ) (kind : Kind) → IsKindAt row windows at kind → slice_index row at % 8 ≡ 5
    → (class : List ℕ) × (ps : List (List ℕ × Child)) × (kind ≡ kinds.Object class ps) × IsObjectAt row windows (at + 1) (slice_index row at / 8) class ps
kind-object row windows at kinds.Null h code = let tag = (told-first row windows at _ _ h.told).2 in absurd (omega (arith, tag, code))
kind-object row windows at (kinds.Bool true) h code = let tag = (told-first row windows at 9 [] h.told).2 in absurd (omega (arith, tag, code))
kind-object row windows at (kinds.Bool false) h code = let tag = (told-first row windows at 1 [] h.told).2 in absurd (omega (arith, tag, code))
kind-object row windows at (kinds.Int n) h code = let tag = (told-first row windows at _ _ h.told).2 in absurd (omega (arith, tag, code))
kind-object row windows at (kinds.Str bytes) h code = let tag = (told-first row windows at (3 + 8 * length bytes) (words_of bytes) h.told).2 in absurd (omega (arith, tag, code))
kind-object row windows at (kinds.Array ms) h code = let tag = (told-first row windows at (4 + 8 * length ms) (flat_map (member_words itself) ms) h.told).2 in absurd (omega (arith, tag, code))
kind-object row windows at (kinds.Object class ps) h code =
    let tag = (told-first row windows at (5 + 8 * length ps) (string_words class ++ flat_map (property_words itself) ps) h.told).2 in (
      class,
      ps,
      refl,
      record {
        told = told-rest row windows at (5 + 8 * length ps) (string_words class ++ flat_map (property_words itself) ps) h.told;
        fits_class = h.fits.0;
        fits = h.fits.1;
        count_is = omega (arith, tag);
      },
    )
kind-object row windows at (kinds.Same x) h code = let tag = (told-first row windows at _ _ h.told).2 in absurd (omega (arith, tag, code))

-- a place with no such tag that is no scalar
pub kind-same : (row windows : List ℕ) (at : ℕ) (kind : Kind) → IsKindAt row windows at kind → scalar_at at kind ≡ None → ((n : ℕ) → 3 ≤ n → n ≤ 5 → slice_index row at % 8 ≢ n)
    → (x : ℕ) × (kind ≡ kinds.Same x) × (x < 2 ^ 32) × (at + 1 < length row) × IsTold windows (at + 1) × (slice_index row (at + 1) ≡ x)
kind-same row windows at kinds.Null h none other = absurd cc
kind-same row windows at (kinds.Bool b) h none other = absurd cc
kind-same row windows at (kinds.Int n) h none other = absurd cc
kind-same row windows at (kinds.Str bytes) h none other = let tag = (told-first row windows at (3 + 8 * length bytes) (words_of bytes) h.told).2 in absurd (other 3 (omega arith) (omega arith) (omega (arith, tag)))
kind-same row windows at (kinds.Array ms) h none other = let tag = (told-first row windows at (4 + 8 * length ms) (flat_map (member_words itself) ms) h.told).2 in absurd (other 4 (omega arith) (omega arith) (omega (arith, tag)))
kind-same row windows at (kinds.Object class ps) h none other = let tag = (told-first row windows at (5 + 8 * length ps) (string_words class ++ flat_map (property_words itself) ps) h.told).2 in absurd (other 5 (omega arith) (omega arith) (omega (arith, tag)))
kind-same row windows at (kinds.Same x) h none other =
    let second = told-first row windows (at + 1) x [] (told-rest row windows at 6 (x ∷ []) h.told) in
    (x, refl, h.fits, second.0, second.1, second.2)

-- the value and the place behind it, of a scalar
pub scalar-is : (at : ℕ) (kind : Kind) (read : Kind × ℕ) → scalar_at at kind ≡ Some read → (read.0 ≡ kind) × (read.1 ≡ at + cells_of kind)
scalar-is at kinds.Null read e = let same : read ≡ (kinds.Null, at + 1) = cc in (ap (λ p. p.0) same, ap (λ p. p.1) same)
scalar-is at (kinds.Bool b) read e = let same : read ≡ (kinds.Bool b, at + 1) = cc in (ap (λ p. p.0) same, ap (λ p. p.1) same)
scalar-is at (kinds.Int n) read e = let same : read ≡ (kinds.Int n, at + 2) = cc in (ap (λ p. p.0) same, ap (λ p. p.1) same)
scalar-is at (kinds.Str bytes) read e = absurd cc
scalar-is at (kinds.Array ms) read e = absurd cc
scalar-is at (kinds.Object class ps) read e = absurd cc
scalar-is at (kinds.Same x) read e = absurd cc

-- the same behind the read of the tag
pub kind-behind : (row : List ℕ) (old : Aside) (at tag : ℕ) (kind : Kind) (row' : List ℕ) (new : Aside)
    → IsKindAt row old.windows at kind → (IsTold old.windows at → tag ≡ slice_index row at) → row' ≡ row → new ≡ old
    → IsKindAt row' new.windows at kind × (tag ≡ slice_index row' at)
kind-behind row old at tag kind row' new h word er ea = rw (er, ea) (h, word (kind-there row old.windows at kind h).1)

pub string-at : (row : List ℕ) (old : Aside) (at tag : ℕ) (kind : Kind) (row' : List ℕ) (new : Aside)
    → IsKindAt row old.windows at kind → (IsTold old.windows at → tag ≡ slice_index row at) → tag % 8 ≡ 3 → row' ≡ row → new ≡ old
    → (bytes : List ℕ) × (kind ≡ kinds.Str bytes) × IsStringAt row' new.windows at bytes × (tag ≡ 3 + 8 * length bytes)
string-at row old at tag kind row' new h word code er ea =
    let is = word (kind-there row old.windows at kind h).1 in
    let found = kind-string row old.windows at kind h (ap (λ (w : ℕ). w % 8) (sym is) ∙ code) in
    (found.0, found.1, rw (er, ea) found.2, is ∙ found.3)

pub same-at : (row : List ℕ) (old : Aside) (at tag : ℕ) (kind : Kind) (row' : List ℕ) (new : Aside)
    → IsKindAt row old.windows at kind → (IsTold old.windows at → tag ≡ slice_index row at) → scalar_at at kind ≡ None → ((n : ℕ) → 3 ≤ n → n ≤ 5 → tag % 8 ≢ n) → row' ≡ row → new ≡ old
    → (x : ℕ) × (kind ≡ kinds.Same x) × (x < 2 ^ 32) × (at + 1 < length row') × IsTold new.windows (at + 1) × (slice_index row' (at + 1) ≡ x)
same-at row old at tag kind row' new h word none other er ea =
    let is = ap (λ (w : ℕ). w % 8) (word (kind-there row old.windows at kind h).1) in
    let found = kind-same row old.windows at kind h none (λ n low high e. other n low high (is ∙ e)) in
    (found.0, found.1, found.2, rw er found.3, rw ea found.4, rw er found.5)

pub array-at : (row : List ℕ) (old : Aside) (at tag : ℕ) (kind : Kind) (row' : List ℕ) (new : Aside)
    → IsKindAt row old.windows at kind → (IsTold old.windows at → tag ≡ slice_index row at) → tag % 8 ≡ 4 → row' ≡ row → new ≡ old
    → (ms : List (Key × Child)) × (kind ≡ kinds.Array ms) × AreMembersAt row' new.windows (at + 1) (tag / 8) ms
array-at row old at tag kind row' new h word code er ea =
    let is = word (kind-there row old.windows at kind h).1 in
    let found = kind-array row old.windows at kind h (ap (λ (w : ℕ). w % 8) (sym is) ∙ code) in
    let there : AreMembersAt row old.windows (at + 1) (tag / 8) found.0 = subst (λ (w : ℕ). AreMembersAt row old.windows (at + 1) (w / 8) found.0) (sym is) found.2 in
    (found.0, found.1, rw (er, ea) there)

pub object-at : (row : List ℕ) (old : Aside) (at tag : ℕ) (kind : Kind) (row' : List ℕ) (new : Aside)
    → IsKindAt row old.windows at kind → (IsTold old.windows at → tag ≡ slice_index row at) → tag % 8 ≡ 5 → row' ≡ row → new ≡ old
    → (class : List ℕ) × (ps : List (List ℕ × Child)) × (kind ≡ kinds.Object class ps) × IsObjectAt row' new.windows (at + 1) (tag / 8) class ps
object-at row old at tag kind row' new h word code er ea =
    let is = word (kind-there row old.windows at kind h).1 in
    let found = kind-object row old.windows at kind h (ap (λ (w : ℕ). w % 8) (sym is) ∙ code) in
    let there : IsObjectAt row old.windows (at + 1) (tag / 8) found.0 found.1 = subst (λ (w : ℕ). IsObjectAt row old.windows (at + 1) (w / 8) found.0 found.1) (sym is) found.3 in
    (found.0, found.1, found.2, rw (er, ea) there)
